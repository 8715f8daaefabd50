-- One look at the front of a queue, and the grouping by such looks.
use Rattle.std.proofs.Common.{◌≡◌, ℕ, ◌+◌, ◌-◌, ◌≤◌, ◌<◌, ◌⊎◌, inl, inr, Bool, true, false, ◌&&◌, eqb, ltb, List, [], ◌∷◌, ◌++◌, length, get_or, take, drop, refl, arith, ap, sym, ◌∙◌, eq-eqb, ne_eqb, append_assoc, length-append, length-drop, length-take}
use borrow.Author.Tests.{lt-ltb, le-ltb}
use Rattle.std.proofs.lemmas.List.{length-map, append-nil, take-append-le}
use lib.Seq.{drop-drop, take_all}
use Rattle.seq.specs.Num.{dist}
use Rattle.list.specs.Find.{joined}
use Rattle.list.proofs.Joined.{joined-append}
use Rattle.packet.specs.declared.Packet.{Packet}
use Rattle.packet.specs.Data.{range_of}
use Rattle.model.specs.Group.{is_range, share, handles, go, only, enough, step, span, Grouped, before, group}
use Rattle.model.proofs.Grouping.{step_less, group-stop, group-go}
use Rattle.chan.specs.declared.grouping.Pop.TheVariants.{Stop, Skip, Take}
use Rattle.std.specs.List.{list_all}
use Rattle.chan.specs.Fronts.{told, TooMany}

-- ---- is_range

module _ (p : Packet) (f l : ℕ) where
  pub no_range_at : (p.ranged ≡ 1 → ⊥) → is_range f l (range_of p) ≡ false
  no_range_at r = rw (ne_eqb _ _ r) refl

  pub other_range : p.ranged ≡ 1 → (f ≡ p.first → ⊥) → is_range f l (range_of p) ≡ false
  other_range r h = rw (eq-eqb _ _ r, ne_eqb _ _ h) refl

  pub in_range : p.ranged ≡ 1 → f ≡ p.first → is_range f l (range_of p) ≡ eqb l p.last
  in_range r h = rw (eq-eqb p.ranged 1 r, eq-eqb f p.first h) refl

pub share_all : (f l : ℕ) (ps : List Packet) → share f l ps ≡ list_all (λ p. is_range f l (range_of p)) ps
share_all f l [] = refl
share_all f l (p ∷ ps) = ap (λ b. is_range f l (range_of p) && b) (share_all f l ps)

-- ---- one look at the front

pub look_none : (q : List Packet) → length q ≡ 0 → told Stop q ≡ step q
unfolding step
look_none [] h = refl
look_none (p ∷ q) h = absurd (omega arith)

pub look_one : (q : List Packet) (d : Packet) → 0 < length q → ((get_or q 0 d).ranged ≡ 1 → ⊥) → told (Take 1) q ≡ step q
unfolding step
look_one [] d h r = absurd (omega arith)
look_one (p ∷ q) d h r = rw (ne_eqb p.ranged 1 r) refl

pub look_other : (q : List Packet) (d : Packet) → 0 < length q → (get_or q 0 d).ranged ≡ 1 → ((get_or q 0 d).number ≡ (get_or q 0 d).first → ⊥) → told (Skip 1) q ≡ step q
unfolding step
look_other [] d h r n = absurd (omega arith)
look_other (p ∷ q) d h r n = rw (eq-eqb p.ranged 1 r, ne_eqb p.number p.first n) refl

ranged : (p : Packet) (q : List Packet) → p.ranged ≡ 1 → p.number ≡ p.first → step (p ∷ q) ≡ enough (ltb (length (p ∷ q)) (span p.first p.last)) p.first p.last (span p.first p.last) (p ∷ q)
unfolding step
ranged p q r h = rw (eq-eqb p.ranged 1 r, eq-eqb p.number p.first h) refl

pub look_few : (q : List Packet) (d : Packet) (m : ℕ) → 0 < length q → (get_or q 0 d).ranged ≡ 1 → (get_or q 0 d).number ≡ (get_or q 0 d).first
    → m ≡ dist (get_or q 0 d).last (get_or q 0 d).first → length q < m + 1 → told Stop q ≡ step q
look_few [] d m h r n k l = absurd (omega arith)
look_few (p ∷ q) d m h r n k l =
    sym (ranged p q r n ∙ ap (λ (t : Bool). enough t p.first p.last (span p.first p.last) (p ∷ q)) (lt-ltb (length (p ∷ q)) (span p.first p.last) (omega arith)))

look_share : (q : List Packet) (d : Packet) (m : ℕ) (b : Bool) → 0 < length q → (get_or q 0 d).ranged ≡ 1 → (get_or q 0 d).number ≡ (get_or q 0 d).first
    → m ≡ dist (get_or q 0 d).last (get_or q 0 d).first → m + 1 ≤ length q → share (get_or q 0 d).first (get_or q 0 d).last (take (m + 1) q) ≡ b
    → go (only b (handles (take (m + 1) q))) (drop (m + 1) q) ≡ step q
look_share [] d m b h r n k l e = absurd (omega arith)
look_share (p ∷ q) d m b h r n k l e =
    let same : m + 1 ≡ span p.first p.last = omega arith in
    sym (ranged p q r n
    ∙ ap (λ (s : ℕ). enough (ltb (length (p ∷ q)) s) p.first p.last s (p ∷ q)) (sym same)
    ∙ ap (λ (t : Bool). enough t p.first p.last (m + 1) (p ∷ q)) (le-ltb (length (p ∷ q)) (m + 1) l)
    ∙ ap (λ (t : Bool). go (only t (handles (take (m + 1) (p ∷ q)))) (drop (m + 1) (p ∷ q))) e)

module _ (q : List Packet) (d : Packet) (m : ℕ) (b : Bool) (h : 0 < length q) (r : (get_or q 0 d).ranged ≡ 1) (n : (get_or q 0 d).number ≡ (get_or q 0 d).first)
    (k : m ≡ dist (get_or q 0 d).last (get_or q 0 d).first) (l : m + 1 ≤ length q) (e : b ≡ share (get_or q 0 d).first (get_or q 0 d).last (take (m + 1) q)) where
  pub look_take : b ≡ true → told (Take (m + 1)) q ≡ step q
  look_take t = look_share q d m true h r n k l (sym e ∙ t)

  pub look_skip : b ≡ false → told (Skip (m + 1)) q ≡ step q
  look_skip t = look_share q d m false h r n k l (sym e ∙ t)

-- ---- the grouping, by its looks

-- a look that goes on takes something
pub skips : (q : List Packet) (n : ℕ) → told (Skip n) q ≡ step q → 0 < n
skips q n e = omega (arith, step_less q (sym e), length-drop n q)

pub takes : (q : List Packet) (n : ℕ) → told (Take n) q ≡ step q → 0 < n
takes q n e = omega (arith, step_less q (sym e), length-drop n q)

module _ (ps : List Packet) (at n : ℕ) (old made : List (List ℕ)) (so_far : before made (group (drop at ps)) ≡ before old (group ps)) where
  stopped : told Stop (drop at ps) ≡ step (drop at ps) → before made (record { made = []; rest = drop at ps }) ≡ before old (group ps)
  stopped e = ap (before made) (sym (group-stop (drop at ps) (sym e))) ∙ so_far

  pub stopped_made : told Stop (drop at ps) ≡ step (drop at ps) → made ≡ old ++ (group ps).made
  stopped_made e = sym (append-nil made) ∙ ap (λ (x : Grouped). x.made) (stopped e)

  pub stopped_rest : told Stop (drop at ps) ≡ step (drop at ps) → drop at ps ≡ (group ps).rest
  stopped_rest e = ap (λ (x : Grouped). x.rest) (stopped e)

  pub skipped : told (Skip n) (drop at ps) ≡ step (drop at ps) → before made (group (drop (at + n) ps)) ≡ before old (group ps)
  skipped e = ap (before made) (sym (group-go (drop at ps) (sym e) ∙ ap group (drop-drop n at ps))) ∙ so_far

  pub made_one : told (Take n) (drop at ps) ≡ step (drop at ps) → before (made ++ handles (take n (drop at ps)) ∷ []) (group (drop (at + n) ps)) ≡ before old (group ps)
  made_one e =
      let hs = handles (take n (drop at ps)) in
      let g : group (drop at ps) ≡ before (hs ∷ []) (group (drop (at + n) ps)) = group-go (drop at ps) (sym e) ∙ ap (λ (l : List Packet). before (hs ∷ []) (group l)) (drop-drop n at ps) in
      let a : before (made ++ hs ∷ []) (group (drop (at + n) ps)) ≡ before made (before (hs ∷ []) (group (drop (at + n) ps))) =
      λ i. record { made = append_assoc made (hs ∷ []) (group (drop (at + n) ps)).made i; rest = (group (drop (at + n) ps)).rest } in
      a ∙ ap (before made) (sym g) ∙ so_far

  -- a bundle that finds no room: neither has the end
  pub too_many : told (Take n) (drop at ps) ≡ step (drop at ps) → n ≤ length (drop at ps) → 16 ≤ length made ⊎ 64 < length (joined made) + n → TooMany (old ++ (group ps).made)
  unfolding joined
  too_many e le (inl full) =
      let more = ap (λ (x : Grouped). length x.made) (made_one e) in
      inl (omega (arith, more, length-append (made ++ handles (take n (drop at ps)) ∷ []) (group (drop (at + n) ps)).made, length-append made (handles (take n (drop at ps)) ∷ [])))
  too_many e le (inr full) =
      let hs = handles (take n (drop at ps)) in
      let rest = (group (drop (at + n) ps)).made in
      let more = ap (λ (x : Grouped). length (joined x.made)) (made_one e) in
      let size : length hs ≡ n = length-map (take n (drop at ps)) (λ p. p.handle) ∙ omega (arith, length-take n (drop at ps)) in
      inr (omega (arith, more, size, ap length (joined-append (made ++ hs ∷ []) rest), length-append (joined (made ++ hs ∷ [])) (joined rest), ap length (joined-append made (hs ∷ [])), length-append (joined made) (joined (hs ∷ [])), ap length (append-nil hs)))

-- a slice from `at` on, as clauses read it
pub from_at : (ps : List Packet) (at : ℕ) → take (length ps - at) (drop at ps) ≡ drop at ps
from_at ps at = take_all (length ps - at) (drop at ps) (omega (arith, length-drop at ps))

-- and one from `at` up to `at + n`
pub part_at : (ps : List Packet) (at n : ℕ) → take ((at + n) - at) (drop at ps) ≡ take n (drop at ps)
part_at ps at n = ap (λ (k : ℕ). take k (drop at ps)) (omega arith)

pub part_size : (ps : List Packet) (at n : ℕ) → n ≤ length (drop at ps) → length (take ((at + n) - at) (drop at ps)) ≡ n
part_size ps at n le = omega (arith, length-take ((at + n) - at) (drop at ps))

-- bundles that stand first still do with more after them
pub still_first : (old made more : List (List ℕ)) → take (length old) made ≡ old → take (length old) (made ++ more) ≡ old
still_first old made more h = take-append-le (length old) made more (omega (arith, ap length h, length-take (length old) made)) ∙ h
