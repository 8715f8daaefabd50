-- A packet off the reliable path, step by step.
use Rattle.std.specs.Prelude.{◌≡◌, true, ℕ, [], ◌∷◌, ◌++◌, Result, ⊤, get_or, ◌≤◌, length}
use Rattle.packet.specs.declared.Packet.{Packet}
use Rattle.model.specs.State as model
use Rattle.model.specs.Refusals.{Refusal}
use Rattle.model.specs.Group.{Stored, done, present, create, stale, is_beyond, new_group, span, store, stored_in}
use Rattle.queues.specs.Out.{entries}
use Rattle.queues.specs.Acks.{numbers}
use Rattle.queues.specs.Places.{no_group, IsGroups}
use Rattle.queues.specs.Made.{IsBundles}
use Rattle.chan.specs.declared.OffData.{OffData}
use Rattle.chan.specs.Channels.{data_of}
use Rattle.chan.specs.Settled.{settled_data}

-- what the rule asks: groups and bundles in their form, and no more entries and acks than there are places
pub record IsReady (d : OffData) : Type 0 where
  pub out : length (entries d.out) ≤ 32
  pub acks : length (numbers d.acks) ≤ 64
  pub groups : IsGroups d.groups
  pub bundles : IsBundles d.bundles

-- the answer, and what the lists then hold, are what the relay makes of that outcome
pub record Gives (outcome : Stored) (m : model.OffData) (r : Result ⊤ Refusal) (d : OffData) : Type 0 where
  pub answer : r ≡ (settled_data outcome m).result
  pub items : data_of d ≡ (settled_data outcome m).channel

abbrev pub group_in : ℕ → model.OffData → model.Group
group_in g m = get_or m.groups g no_group

-- a bundle of one
abbrev pub one : ℕ → model.OffData → Stored
one h m = done (model.with_bundles (m.bundles ++ (h ∷ []) ∷ []) m)

-- a fragment at place i of the group that stands at g
abbrev pub at : ℕ → ℕ → ℕ → ℕ → model.OffData → Stored
at g i h t m = present (stale t (group_in g m)) (is_beyond i (group_in g m)) i h t (group_in g m) m

-- one that fills that group
abbrev pub filling : ℕ → ℕ → ℕ → ℕ → model.OffData → Stored
filling g i h t m = done (stored_in true (store i h t (group_in g m)) m)

-- a fragment at place i of a new group
abbrev pub in_new : Packet → ℕ → ℕ → model.OffData → Stored
in_new p i t m = create (is_beyond i (new_group p.first (span p.first p.last) t)) i p.handle t (new_group p.first (span p.first p.last) t) m
