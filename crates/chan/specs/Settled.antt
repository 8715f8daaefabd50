-- What the relay makes of the original's outcome on one channel: granted within the limits, refused by the original's own rules with what
-- that leaves, or refused with the channel as it was: a fragment beyond its group, or a state that would be over a limit.
use Rattle.std.specs.Prelude.{Bool, true, false, Result, Ok, Err, ⊤}
use Rattle.model.specs.State as model
use Rattle.model.specs.Room.{fits_data}
use Rattle.model.specs.Refusals.{Refusal}
use Rattle.packet.specs.declared.Refusal.TheVariants.{BeyondGroup, OverLimit}
use Rattle.model.specs.Record.{Outcome, granted, rejected, far_fragment, bare_run}
use Rattle.model.specs.Group.{Stored, done, beyond}

pub record Settled (X : Type 0) : Type 0 where
  pub result : Result ⊤ Refusal
  pub channel : X

abbrev pub kept : {X : Type 0} → X → Settled X
kept x = record { result = Ok tt; channel = x }

abbrev pub refused : {X : Type 0} → Refusal → X → Settled X
refused n x = record { result = Err n; channel = x }

-- room is judged on the state that the rule would end in; without it the channel c stays
abbrev pub within : {X : Type 0} → Bool → X → X → Settled X
within true x c = kept x
within false x c = refused OverLimit c

module _ {X : Type 0} (fits : X → Bool) where
  unfoldable pub settled : Outcome X → X → Settled X
  settled (granted x) c = within (fits x) x c
  settled (rejected n x) c = refused n x
  settled far_fragment c = refused BeyondGroup c
  settled (bare_run x) c = within (fits x) x c

-- a packet off the reliable path, on what both kinds have
unfoldable pub settled_data : Stored → model.OffData → Settled model.OffData
settled_data (done x) d = within (fits_data x) x d
settled_data beyond d = refused BeyondGroup d
