-- A channel that is there, put back as it was found, changes nothing. Assumes nothing.
use mathlib.Core.Path.{◌≡◌, refl, ap, ◌∙◌}
use mathlib.Core.Bool.{Bool, true, false}
use Prim.Native.Nat.{ℕ, ◌<◌}
use native.Mathlib.Omega.{arith}
use lib.Dec.{ltb, eqb}
use borrow.Author.Tests.{eqb-true, ltb-true}
use Rattle.list.specs.Find.{put_by}
use Rattle.list.proofs.Pad.{and_left, and_right}
use Rattle.list.proofs.Find.{find-passes, find_absent, put_found}
use Rattle.packet.specs.declared.Key.{Key}
use Rattle.packet.specs.Data.{is_set, key_index}
use Rattle.model.specs.State.{OnChannel, Protocol, new_off, new_on, is_off, is_on, has_off, has_on, off_at, on_at, put_off, put_on}
use Rattle.model.specs.Rust.{first_version, made, made_if, has_if, has_key}

-- the key of an on-channel that is found
module _ (a i v : ℕ) (s : Protocol) (here : has_on a i s ≡ true) where
  passes : is_on a i (on_at a i v s) ≡ true
  passes = find-passes (is_on a i) (new_on a i v) s.ons here

  pub on-address : (on_at a i v s).address ≡ a
  on-address = eqb-true (on_at a i v s).address a (and_left (eqb (on_at a i v s).address a) (eqb (on_at a i v s).index i) passes)

  pub on-index : (on_at a i v s).index ≡ i
  on-index = eqb-true (on_at a i v s).index i (and_right (eqb (on_at a i v s).address a) (eqb (on_at a i v s).index i) passes)

  ons-same : put_by (is_on (on_at a i v s).address (on_at a i v s).index) (on_at a i v s) s.ons ≡ s.ons
  ons-same =
      ap (λ (b : ℕ). put_by (is_on b (on_at a i v s).index) (on_at a i v s) s.ons) on-address
      ∙ ap (λ (j : ℕ). put_by (is_on a j) (on_at a i v s) s.ons) on-index
      ∙ put_found (is_on a i) (new_on a i v) s.ons here

  pub put_on-found : put_on (on_at a i v s) s ≡ s
  put_on-found = λ k. record { offs = s.offs; ons = ons-same k; source = s.source; prefix = s.prefix; offset = s.offset; forwarding = s.forwarding }

module _ (a : ℕ) (s : Protocol) (here : has_off a s ≡ true) where
  pub off-address : (off_at a s).address ≡ a
  off-address = eqb-true (off_at a s).address a (find-passes (is_off a) (new_off a) s.offs here)

  offs-same : put_by (is_off (off_at a s).address) (off_at a s) s.offs ≡ s.offs
  offs-same = ap (λ (b : ℕ). put_by (is_off b) (off_at a s) s.offs) off-address ∙ put_found (is_off a) (new_off a) s.offs here

  pub put_off-found : put_off (off_at a s) s ≡ s
  put_off-found = λ k. record { offs = offs-same k; ons = s.ons; source = s.source; prefix = s.prefix; offset = s.offset; forwarding = s.forwarding }

-- "creation stores the version": a stored version above the record's is that of a channel that was there before
pub version-here : (a i v : ℕ) (s : Protocol) → ltb v (on_at a i v s).version ≡ true → has_on a i s ≡ true
version-here a i v s h = at (has_on a i s) refl
  where
    at : (b : Bool) → has_on a i s ≡ b → b ≡ true
    at true e = refl
    at false e =
        let less : v < (on_at a i v s).version = ltb-true v (on_at a i v s).version h in
        let same : (on_at a i v s).version ≡ v = ap (λ (c : OnChannel). c.version) (find_absent (is_on a i) (new_on a i v) s.ons e) in
        absurd (omega arith)

-- to find or create a channel that is there changes nothing
pub made-here : (k : Key) (s : Protocol) → has_key k s ≡ true → made k s ≡ s
unfolding made
made-here k s h = at (is_set k.on) h
  where
    at : (b : Bool) → has_if b k s ≡ true → made_if b k s ≡ s
    at true here = put_on-found k.address (key_index k) (first_version k) s here
    at false here = put_off-found k.address s here
