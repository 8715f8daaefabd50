-- A packet off the reliable path, case by case: what the relay makes of the model's outcome.
use Rattle.std.proofs.Common.{◌≡◌, ℕ, ◌+◌, ◌≤◌, ◌<◌, ◌⊎◌, inl, inr, Bool, true, false, List, [], ◌∷◌, ◌++◌, length, set, replicate, refl, arith, ap, sym, subst, ◌∙◌, length-append, length-set, eq-eqb, ne_eqb}
use Rattle.std.specs.Prelude.{Result, Ok, Err, ⊤, IsErrAnd}
use Rattle.std.specs.declared.option.Option.{Option}
use Rattle.std.specs.declared.option.Option.TheVariants.{None, Some}
use Rattle.std.specs.List.{remove}
use borrow.Author.Tests.{eqb-true, le-leb, lt-leb}
use lib.ListN.{length-replicate}
use Rattle.list.specs.Pad.{all_b}
use Rattle.list.specs.Find.{position, joined, has, put_by, remove_first}
use Rattle.list.proofs.Firsts.{remove_is}
use Rattle.list.proofs.Joined.{joined-one}
use Rattle.list.proofs.Positions.{stands, none_stands}
use Rattle.list.proofs.Find.{find_absent}
use Rattle.list.proofs.Tests.{all_b-one}
use Rattle.seq.specs.Num.{dist}
use Rattle.packet.specs.declared.Packet.{Packet}
use Rattle.packet.specs.declared.Refusal.TheVariants.{BeyondGroup, OverLimit}
use Rattle.packet.specs.Data.{range_if}
use Rattle.model.specs.State as model
use Rattle.model.specs.Refusals.{Refusal}
use Rattle.model.specs.Group.{Stored, done, beyond, present, create, stale, is_beyond, is_first, new_group, span, store, full, stored_in, add_in_packet, placed, in_group, group_at}
use Rattle.model.specs.Room.{fits_group, fits_data}
use Rattle.queues.specs.Places.{no_group}
use Rattle.chan.specs.declared.OffData.{OffData}
use Rattle.chan.specs.Channels.{data_of}
use Rattle.chan.specs.Settled.{within, settled_data}
use Rattle.chan.specs.Adding.{IsReady, Gives, group_in, one, at, in_new}
use Rattle.chan.proofs.Fits.{ready_fits}
use Rattle.chan.proofs.Room.{many_groups, wide_group, many_bundles, many_handles}

-- ---- an outcome, granted or refused

module _ (m : model.OffData) (d : OffData) where
  pub gives_ok : (x : model.OffData) → IsReady d → data_of d ≡ x → Gives (done x) m (Ok tt) d
  unfolding settled_data
  gives_ok x w e =
      let f : true ≡ fits_data x = sym (ready_fits d w) ∙ ap fits_data e in
      record { answer = ap (λ (b : Bool). (within b x m).result) f; items = e ∙ ap (λ (b : Bool). (within b x m).channel) f }

  pub gives_over : (x : model.OffData) (r : Result ⊤ Refusal) → fits_data x ≡ false → r ≡ Err OverLimit → data_of d ≡ m → Gives (done x) m r d
  unfolding settled_data
  gives_over x r f q e =
      record { answer = q ∙ ap (λ (b : Bool). (within b x m).result) (sym f); items = e ∙ ap (λ (b : Bool). (within b x m).channel) (sym f) }

  pub gives_beyond : data_of d ≡ m → Gives beyond m (Err BeyondGroup) d
  unfolding settled_data
  gives_beyond e = record { answer = refl; items = e }

  -- the same outcome in other words
  pub gives_as : (a b : Stored) (r : Result ⊤ Refusal) → a ≡ b → Gives b m r d → Gives a m r d
  gives_as a b r e g = subst (λ (o : Stored). Gives o m r d) (sym e) g

-- what a list without room is refused with
pub limit_is : (r : Result ⊤ Refusal) → IsErrAnd r (λ e. e ≡ OverLimit) → r ≡ Err OverLimit
limit_is (Ok x) h = absurd h
limit_is (Err e) h = ap Err h

-- lists with others in their place
pub replaced : (m : model.OffData) (gs hs : List model.Group) (bs cs : List (List ℕ)) → gs ≡ hs → bs ≡ cs
    → ◌≡◌ {A = model.OffData} (record { out = m.out; acks = m.acks; groups = gs; bundles = bs }) (record { out = m.out; acks = m.acks; groups = hs; bundles = cs })
replaced m gs hs bs cs p q = λ i. record { out = m.out; acks = m.acks; groups = p i; bundles = q i }

pub with_new_bundle : (x : model.OffData) (bs : List (List ℕ)) (hs : List ℕ) (n : ℕ) → x.bundles ≡ bs ++ hs ∷ [] → length hs ≡ n → (16 ≤ length bs) ⊎ (64 < length (joined bs) + n) → fits_data x ≡ false
with_new_bundle x bs hs n e s (inl h) = many_bundles x (omega (arith, ap length e, length-append bs (hs ∷ [])))
with_new_bundle x bs hs n e s (inr h) = many_handles x (omega (arith, ap (λ (l : List (List ℕ)). length (joined l)) e, ap length (joined-one bs hs), length-append (joined bs) hs))

pub one_more : (bs : List (List ℕ)) → (16 ≤ length bs) ⊎ (64 ≤ length (joined bs)) → (16 ≤ length bs) ⊎ (64 < length (joined bs) + 1)
one_more bs (inl h) = inl h
one_more bs (inr h) = inr (omega arith)

-- ---- a group that is there

pub seen : (f : model.Group → Bool) (a x : model.Group) (r b : Bool) → a ≡ x → r ≡ f a → r ≡ b → f x ≡ b
seen f a x r b e p q = ap f (sym e) ∙ (sym p ∙ q)

module _ (g i h t : ℕ) (m : model.OffData) where
  abbrev x : model.Group
  x = group_in g m

  pub is_stale : stale t x ≡ true → at g i h t m ≡ done m
  is_stale e = ap (λ (b : Bool). present b (is_beyond i x) i h t x m) e

  pub is_far : stale t x ≡ false → is_beyond i x ≡ true → at g i h t m ≡ beyond
  is_far e f = ap (λ (b : Bool). present b (is_beyond i x) i h t x m) e ∙ ap (λ (b : Bool). present false b i h t x m) f

  pub is_stored : stale t x ≡ false → is_beyond i x ≡ false → (b : Bool) → full (store i h t x) ≡ b → at g i h t m ≡ done (stored_in b (store i h t x) m)
  is_stored e f b q =
      ap (λ (b : Bool). present b (is_beyond i x) i h t x m) e
      ∙ (ap (λ (b : Bool). present false b i h t x m) f ∙ ap (λ (b : Bool). done (stored_in b (store i h t x) m)) q)

  module _ (p : position (is_first x.first) m.groups ≡ Some g) where
    pub there : g < length m.groups
    there = (stands (is_first x.first) m.groups g p).inside

    pub put_there : (y : model.Group) → set m.groups g y ≡ put_by (is_first x.first) y m.groups
    put_there y = sym ((stands (is_first x.first) m.groups g p).is_put y)

    pub gone : remove m.groups g ≡ remove_first (is_first x.first) m.groups
    gone = remove_is m.groups g ∙ sym (stands (is_first x.first) m.groups g p).is_removed

-- ---- a new group

module _ (p : Packet) (i t k : ℕ) (m : model.OffData) (e : k ≡ dist p.last p.first) where
  abbrev n : ℕ
  n = span p.first p.last

  abbrev fresh : model.Group
  fresh = new_group p.first n t

  abbrev pub grown : model.OffData
  grown = model.with_groups (m.groups ++ store i p.handle t fresh ∷ []) m

  wide : length (replicate {A = Option ℕ} n None) ≡ k + 1
  wide = omega (arith, length-replicate {A = Option ℕ} n None)

  pub new_far : k + 1 ≤ i → in_new p i t m ≡ beyond
  new_far h = ap (λ (b : Bool). create b i p.handle t fresh m) (le-leb (length (replicate {A = Option ℕ} n None)) i (omega (arith, wide)))

  pub new_near : i < k + 1 → in_new p i t m ≡ done grown
  new_near h = ap (λ (b : Bool). create b i p.handle t fresh m) (lt-leb (length (replicate {A = Option ℕ} n None)) i (omega (arith, wide)))

  pub new_wide : 32 < k + 1 → all_b fits_group m.groups ≡ true → fits_data grown ≡ false
  new_wide h w = wide_group grown (all_b-one fits_group m.groups (store i p.handle t fresh) w ∙ lt-leb _ 32 (omega (arith, wide, length-set (replicate {A = Option ℕ} n None) i (Some p.handle))))

  pub new_many : 4 ≤ length m.groups → fits_data grown ≡ false
  new_many h = many_groups grown (omega (arith, length-append m.groups (store i p.handle t fresh ∷ [])))

  pub new_items : (gs : List model.Group) (a b : model.Group) → gs ≡ m.groups ++ a ∷ [] → a ≡ store i p.handle t b → b ≡ new_group p.first (k + 1) t → gs ≡ grown.groups
  new_items gs a b q r s =
      let c : k + 1 ≡ n = omega arith in
      q ∙ ap (λ (y : model.Group). m.groups ++ y ∷ []) (r ∙ ap (store i p.handle t) (s ∙ ap (λ (j : ℕ). new_group p.first j t) c))

-- ---- which of them it is

module _ (p : Packet) (t : ℕ) (m : model.OffData) where
  pub plain : (p.ranged ≡ 1 → ⊥) → add_in_packet t p m ≡ one p.handle m
  unfolding add_in_packet
  plain h = ap (λ (b : Bool). placed (range_if b p.first p.last) t p m) (ne_eqb p.ranged 1 h)

  ranged : p.ranged ≡ 1 → add_in_packet t p m ≡ in_group (has (is_first p.first) m.groups) (dist p.number p.first) p.handle t (group_at p.first (span p.first p.last) t m) m
  unfolding add_in_packet
  ranged h = ap (λ (b : Bool). placed (range_if b p.first p.last) t p m) (eq-eqb p.ranged 1 h)

  pub new_is : p.ranged ≡ 1 → (o : Option ℕ) (i : ℕ) → o ≡ position (is_first p.first) m.groups → o ≡ None → i ≡ dist p.number p.first → add_in_packet t p m ≡ in_new p i t m
  new_is h o i q e d =
      let no : has (is_first p.first) m.groups ≡ false = none_stands (is_first p.first) m.groups (sym q ∙ e) in
      ranged h ∙ rw (no, find_absent (is_first p.first) (new_group p.first (span p.first p.last) t) m.groups no, d) refl

  module _ (g : ℕ) (o : Option ℕ) (q : o ≡ position (is_first p.first) m.groups) (e : o ≡ Some g) where
    its_first : (group_in g m).first ≡ p.first
    its_first = eqb-true (group_in g m).first p.first ((stands (is_first p.first) m.groups g (sym q ∙ e)).passes no_group)

    pub stands_there : position (is_first (group_in g m).first) m.groups ≡ Some g
    stands_there = ap (λ (f : ℕ). position (is_first f) m.groups) its_first ∙ (sym q ∙ e)

    pub at_is : p.ranged ≡ 1 → (i : ℕ) → i ≡ dist p.number p.first → add_in_packet t p m ≡ at g i p.handle t m
    at_is h i d =
        let s = stands (is_first p.first) m.groups g (sym q ∙ e) in
        ranged h ∙ rw (s.there, s.is_found (new_group p.first (span p.first p.last) t) no_group, d) refl
