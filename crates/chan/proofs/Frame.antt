-- A packet off the reliable path looks at groups and bundles alone: whatever out list and ack queue stand beside them, the outcome is the
-- same, and they stay as they are. Assumes nothing.
use mathlib.Core.Path.{◌≡◌, refl, sym, ap, ◌∙◌}
use mathlib.Core.Bool.{Bool, true, false, ◌&&◌}
use mathlib.Core.List.{List, []}
use Prim.Native.Nat.{ℕ, ◌≤◌, ◌<◌}
use borrow.Author.Tests.{le-leb, lt-leb}
use lib.Dec.{leb}
use lib.ListN.{length}
use Rattle.std.specs.Prelude.{Result, Ok, Err, ⊤}
use Rattle.list.specs.Pad.{all_b}
use Rattle.list.specs.Find.{has, joined}
use Rattle.list.proofs.Pad.{never}
use Rattle.seq.specs.Num.{dist}
use Rattle.packet.specs.declared.OutEntry.{OutEntry}
use Rattle.packet.specs.declared.Packet.{Packet}
use Rattle.packet.specs.Data.{Range, no_range, range, range_of}
use Rattle.packet.specs.declared.Refusal.{Refusal}
use Rattle.packet.specs.declared.Refusal.TheVariants.{BeyondGroup, OverLimit}
use Rattle.model.specs.State.{Group, OffData, OffChannel, OnChannel, with_out, with_acks, off_with, on_with}
use Rattle.model.specs.Group.{Stored, done, beyond, span, is_first, full, store, stale, stored_in, present, create, is_beyond, in_group, group_at, placed, add_in_packet}
use Rattle.model.specs.Record.{stored_on, stored_off}
use Rattle.model.specs.Room.{fits_group, fits_data, fits_off, fits_on}
use Rattle.model.proofs.Room.{DataFits}
use Rattle.chan.specs.Settled.{kept, refused, within, settled, settled_data}

-- what the rule makes of groups and bundles, with other lists beside them
abbrev pub beside : List OutEntry → List ℕ → Stored → Stored
beside o a (done d) = done (with_out o (with_acks a d))
beside o a beyond = beyond

module _ (d : OffData) where
  abbrev bare : OffData
  bare = record { out = []; acks = []; groups = d.groups; bundles = d.bundles }

  stored_beside : (x : Bool) (g : Group) → ◌≡◌ {A = Stored} (done (stored_in x g d)) (beside d.out d.acks (done (stored_in x g bare)))
  stored_beside true g = refl
  stored_beside false g = refl

  present_beside : (old far : Bool) (i h t : ℕ) (g : Group) → present old far i h t g d ≡ beside d.out d.acks (present old far i h t g bare)
  present_beside true far i h t g = refl
  present_beside false true i h t g = refl
  present_beside false false i h t g = stored_beside (full (store i h t g)) (store i h t g)

  create_beside : (far : Bool) (i h t : ℕ) (g : Group) → create far i h t g d ≡ beside d.out d.acks (create far i h t g bare)
  create_beside true i h t g = refl
  create_beside false i h t g = refl

  group_beside : (there : Bool) (i h t : ℕ) (g : Group) → in_group there i h t g d ≡ beside d.out d.acks (in_group there i h t g bare)
  group_beside true i h t g = present_beside (stale t g) (is_beyond i g) i h t g
  group_beside false i h t g = create_beside (is_beyond i g) i h t g

  placed_beside : (r : Range) (t : ℕ) (p : Packet) → placed r t p d ≡ beside d.out d.acks (placed r t p bare)
  placed_beside no_range t p = refl
  placed_beside (range f l) t p = group_beside (has (is_first f) d.groups) (dist p.number f) p.handle t (group_at f (span f l) t d)

  bare_beside : (t : ℕ) (p : Packet) → add_in_packet t p d ≡ beside d.out d.acks (add_in_packet t p bare)
  unfolding add_in_packet
  bare_beside t p = placed_beside (range_of p) t p

twice : (o u : List OutEntry) (a b : List ℕ) (s : Stored) → beside o a (beside u b s) ≡ beside o a s
twice o u a b beyond = refl
twice o u a b (done d) = refl

-- the lists beside stay
pub added_same : (d : OffData) (t : ℕ) (p : Packet) → add_in_packet t p d ≡ beside d.out d.acks (add_in_packet t p d)
added_same d t p =
    bare_beside d t p ∙ sym (twice d.out d.out d.acks d.acks (add_in_packet t p (bare d))) ∙ ap (λ (s : Stored). beside d.out d.acks s) (sym (bare_beside d t p))

-- and with others it is the same
pub added_beside : (d : OffData) (o : List OutEntry) (a : List ℕ) (t : ℕ) (p : Packet)
    → add_in_packet t p (with_out o (with_acks a d)) ≡ beside o a (add_in_packet t p d)
added_beside d o a t p =
    bare_beside (with_out o (with_acks a d)) t p ∙ sym (twice o d.out a d.acks (add_in_packet t p (bare d))) ∙ ap (λ (s : Stored). beside o a s) (sym (bare_beside d t p))

-- ---- what is settled, of other lists beside

abbrev fits_lists : OffData → Bool
fits_lists d = leb (length d.groups) 4 && all_b fits_group d.groups && leb (length d.bundles) 16 && leb (length (joined d.bundles)) 64

by_lists : (d : OffData) → length d.out ≤ 32 → length d.acks ≤ 64 → fits_data d ≡ fits_lists d
unfolding fits_data
by_lists d o a = rw (le-leb (length d.out) 32 o, le-leb (length d.acks) 64 a)

lists_over : (d : OffData) → fits_lists d ≡ false → fits_data d ≡ false
unfolding fits_data
lists_over d h = at (leb (length d.out) 32) (leb (length d.acks) 64)
  where
    at : (o a : Bool) → o && a && leb (length d.groups) 4 && all_b fits_group d.groups && leb (length d.bundles) 16 && leb (length (joined d.bundles)) 64 ≡ false
    at true true = h
    at true false = refl
    at false a = refl

-- more acks than there is room for
pub acks_over : (d : OffData) → 64 < length d.acks → fits_data d ≡ false
unfolding fits_data
acks_over d h = rw (lt-leb (length d.acks) 64 h) (at (leb (length d.out) 32) (leb (length d.groups) 4) (all_b fits_group d.groups) (leb (length d.bundles) 16) (leb (length (joined d.bundles)) 64))
  where
    at : (o g f e j : Bool) → o && false && g && f && e && j ≡ false
    at true g f e j = refl
    at false g f e j = refl

pub is_err : (e : Refusal) → ◌≡◌ {A = Result ⊤ Refusal} (Ok tt) (Err e) → ⊥
is_err e h = never (sym (ap good h))
  where
    good : Result ⊤ Refusal → Bool
    good (Ok x) = true
    good (Err x) = false

module _ (d : OffData) (w : DataFits d) (o : List OutEntry) (a : List ℕ) where
  -- with fewer entries, and no more acks than there is room for, it is granted where it was
  pub granted_too : length o ≤ 32 → length a ≤ 64 → (s : Stored) → s ≡ beside d.out d.acks s → (settled_data s d).result ≡ Ok tt
      → settled_data (beside o a s) d ≡ kept (with_out o (with_acks a (settled_data s d).channel))
  unfolding settled_data
  granted_too lo la beyond same q = absurd (is_err BeyondGroup (sym q))
  granted_too lo la (done x) same q =
      let y : OffData = with_out d.out (with_acks d.acks x) in
      let e : x ≡ y = unwrap x y same in
      let f : fits_data x ≡ fits_lists x = ap fits_data e ∙ by_lists y w.out w.acks in
      let g : fits_data (with_out o (with_acks a x)) ≡ fits_data x = by_lists (with_out o (with_acks a x)) lo la ∙ sym f in
      ap (λ (b : Bool). within b (with_out o (with_acks a x)) d) g ∙ at (fits_data x) q
    where
      unwrap : (x y : OffData) → ◌≡◌ {A = Stored} (done x) (done y) → x ≡ y
      unwrap x y h = ap inside h
        where
          inside : Stored → OffData
          inside (done z) = z
          inside beyond = x

      at : (b : Bool) → (within b x d).result ≡ Ok tt → within b (with_out o (with_acks a x)) d ≡ kept (with_out o (with_acks a (within b x d).channel))
      at true q = refl
      at false q = absurd (is_err OverLimit (sym q))

  -- what was refused is refused with any others
  pub refused_too : (s : Stored) → s ≡ beside d.out d.acks s → (e : Refusal) → (settled_data s d).result ≡ Err e → settled_data (beside o a s) d ≡ refused e d
  unfolding settled_data
  refused_too beyond same e q = ap (λ (r : Result ⊤ Refusal). record { result = r; channel = d }) q
  refused_too (done x) same e q =
      let y : OffData = with_out d.out (with_acks d.acks x) in
      let u : x ≡ y = unwrap x y same in
      let f : fits_data x ≡ fits_lists x = ap fits_data u ∙ by_lists y w.out w.acks in
      at (fits_data x) refl f q
    where
      unwrap : (x y : OffData) → ◌≡◌ {A = Stored} (done x) (done y) → x ≡ y
      unwrap x y h = ap inside h
        where
          inside : Stored → OffData
          inside (done z) = z
          inside beyond = x

      at : (b : Bool) → fits_data x ≡ b → fits_data x ≡ fits_lists x → (within b x d).result ≡ Err e → within (fits_data (with_out o (with_acks a x))) (with_out o (with_acks a x)) d ≡ refused e d
      at true p f q = absurd (is_err e q)
      at false p f q =
          ap (λ (c : Bool). within c (with_out o (with_acks a x)) d) (lists_over (with_out o (with_acks a x)) (sym f ∙ p)) ∙ ap (λ (r : Result ⊤ Refusal). record { result = r; channel = d }) q

  -- what was granted is refused where there are too many acks
  pub full_then : 64 < length a → (s : Stored) → (settled_data s d).result ≡ Ok tt → settled_data (beside o a s) d ≡ refused OverLimit d
  unfolding settled_data
  full_then la beyond q = absurd (is_err BeyondGroup (sym q))
  full_then la (done x) q = ap (λ (c : Bool). within c (with_out o (with_acks a x)) d) (acks_over (with_out o (with_acks a x)) la)

-- the two lists stay, granted or refused
pub stays : (d : OffData) (s : Stored) → s ≡ beside d.out d.acks s → ((settled_data s d).channel.out ≡ d.out) × ((settled_data s d).channel.acks ≡ d.acks)
unfolding settled_data
stays d beyond same = (refl, refl)
stays d (done x) same = at (fits_data x)
  where
    inside : Stored → OffData
    inside (done z) = z
    inside beyond = x

    at : (b : Bool) → ((within b x d).channel.out ≡ d.out) × ((within b x d).channel.acks ≡ d.acks)
    at true = (ap (λ (s : Stored). (inside s).out) same, ap (λ (s : Stored). (inside s).acks) same)
    at false = (refl, refl)

-- ---- and on the channel

pub lifted_on : (m : OnChannel) (s : Stored) → length m.buffer ≤ 32 → length m.queue ≤ 32
    → settled fits_on (stored_on m s) m ≡ record { result = (settled_data s m.off).result; channel = on_with (settled_data s m.off).channel m }
unfolding settled settled_data
lifted_on m beyond b q = refl
lifted_on m (done x) b q = rw (le-leb (length m.buffer) 32 b, le-leb (length m.queue) 32 q) (at (fits_data x))
  where
    at : (c : Bool) → within (c && true && true) (on_with x m) m ≡ record { result = (within c x m.off).result; channel = on_with (within c x m.off).channel m }
    at true = refl
    at false = refl

pub lifted_off : (m : OffChannel) (s : Stored)
    → settled fits_off (stored_off m s) m ≡ record { result = (settled_data s m.off).result; channel = off_with (settled_data s m.off).channel m }
unfolding settled settled_data
lifted_off m beyond = refl
lifted_off m (done x) = at (fits_data x)
  where
    at : (c : Bool) → within c (off_with x m) m ≡ record { result = (within c x m.off).result; channel = off_with (within c x m.off).channel m }
    at true = refl
    at false = refl
