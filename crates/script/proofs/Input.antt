-- An input cut into lines, a line at a time, and what the walk over it owes. Assumes nothing.
use mathlib.Core.Path.{◌≡◌, refl, sym, ap, ◌∙◌, subst}
use mathlib.Core.Bool.{Bool, true, false, cond}
use mathlib.Core.List.{List, [], ◌∷◌, ◌++◌, append_assoc, append-nil}
use Prim.Native.Nat.{ℕ, zero, suc, ◌+◌, ◌-◌, ◌≤◌, ◌<◌}
use native.Mathlib.Numerals.{add-one}
use native.Mathlib.Omega.{arith}
use borrow.Author.Tests.{eq-eqb, ne_eqb, lt-ltb, le-ltb, ltb-true, ltb-false, eqb-true, eqb-false}
use lib.Dec.{eqb, ltb}
use Rattle.std.proofs.Common.{min}
use lib.ListN.{length, take, drop, get_or, length-append, length-drop, take-append-drop, drop_of_length-le}
use lib.Seq.{length-take-le, take_at, drop_at, drop-drop, drop-cons, drop-length, take_all, take-length}
use Rattle.list.specs.Find.{written_at}
use Rattle.writing.specs.Answers.{bad_line}
use Rattle.writing.specs.Wrote.{Wrote}
use Rattle.writing.proofs.Places.{retold}
use Rattle.script.specs.Plain.{Plain, start}
use Rattle.script.specs.Input.{Going}
use Rattle.script.specs.Lines.{step_of, Says}
use Rattle.script.proofs.Plain.{plain-run}
use Rattle.script.specs.Input.{Cut, in_front, cut_of, answers, unfinished, cut_answers, run_from, read, run_of, Part, no_part, behind, last_part, part_of, part_from, feed_at, cut, Turned, Told, Left}

-- ---- the first line feed

feed_here : (b : ℕ) (bs : List ℕ) → b ≡ 10 → feed_at (b ∷ bs) ≡ 0
feed_here b bs e = rw (eq-eqb b 10 e)

feed_later : (b : ℕ) (bs : List ℕ) → (b ≡ 10 → ⊥) → feed_at (b ∷ bs) ≡ suc (feed_at bs)
feed_later b bs h = rw (ne_eqb b 10 h) (omega arith)

feed_empty : feed_at [] ≡ 0
feed_empty = refl

pub feed_within : (l : List ℕ) → feed_at l ≤ length l
feed_within [] = omega (arith, feed_empty)
feed_within (b ∷ bs) = within (eqb b 10) refl (feed_within bs)
  where
    within : (x : Bool) → eqb b 10 ≡ x → feed_at bs ≤ length bs → feed_at (b ∷ bs) ≤ length (b ∷ bs)
    within true e h = omega (arith, feed_here b bs (eqb-true b 10 e))
    within false e h = omega (arith, feed_later b bs (eqb-false b 10 e))

pub feed_end : (input : List ℕ) (at end : ℕ) → at ≤ length input → end ≡ at + feed_at (drop at input) → end ≤ length input
feed_end input at end h e = omega (arith, feed_within (drop at input), length-drop at input)

-- ---- "read up to 60,000 bytes"

pub cut_is : (n m : ℕ) → m ≡ min n 60000 → m ≡ cut n
cut_is n m e = at (ltb n 60000) refl
  where
    at : (x : Bool) → ltb n 60000 ≡ x → m ≡ cond x n 60000
    at true h = omega (arith, e, ltb-true n 60000 h)
    at false h = omega (arith, e, ltb-false n 60000 h)

pub cut_small : (n : ℕ) → n < 60000 → n ≡ cut n
cut_small n h = rw (lt-ltb n 60000 h)

pub cut_large : (n : ℕ) → 60000 ≤ n → 60000 ≡ cut n
cut_large n h = rw (le-ltb n 60000 h)

pub cut-within : (n : ℕ) (input : List ℕ) → n ≡ cut (length input) → n ≡ length (take n input)
cut-within n input e = sym (length-take-le n input (part (ltb (length input) 60000) refl))
  where
    part : (x : Bool) → ltb (length input) 60000 ≡ x → n ≤ length input
    part true h = omega (arith, e ∙ sym (cut_small (length input) (ltb-true (length input) 60000 h)))
    part false h = omega (arith, e ∙ sym (cut_large (length input) (ltb-false (length input) 60000 h)), ltb-false (length input) 60000 h)

pub read-part : (n : ℕ) (input : List ℕ) → n ≡ cut (length input) → take n input ≡ read input
unfolding read
read-part n input e = ap (λ (k : ℕ). take k input) e ∙ part (ltb (length input) 60000) refl
  where
    part : (x : Bool) → ltb (length input) 60000 ≡ x → take (cond x (length input) 60000) input ≡ take 60000 input
    part true h = take-length input ∙ sym (take_all 60000 input (omega (arith, ltb-true (length input) 60000 h)))
    part false h = refl

-- ---- the first line of an input

-- the first k bytes as a line, and the cut of what stands behind the next one
abbrev first : ℕ → List ℕ → Cut
first k l = record { lines = take k l ∷ (cut_of (drop (suc k) l)).lines; rest = (cut_of (drop (suc k) l)).rest }

cut_feed : (b : ℕ) (bs : List ℕ) → b ≡ 10 → cut_of (b ∷ bs) ≡ first 0 (b ∷ bs)
unfolding cut_of
cut_feed b bs e = rw (eq-eqb b 10 e)

cut_byte : (b : ℕ) (bs : List ℕ) → (b ≡ 10 → ⊥) → cut_of (b ∷ bs) ≡ in_front b (cut_of bs).lines (cut_of bs).rest
unfolding cut_of
cut_byte b bs h = rw (ne_eqb b 10 h)

cut-empty : cut_of [] ≡ record { lines = []; rest = [] }
unfolding cut_of
cut-empty = refl

cut_line : (l : List ℕ) → feed_at l < length l → cut_of l ≡ first (feed_at l) l
cut_line [] h = absurd (omega arith)
cut_line (b ∷ bs) h = line (eqb b 10) refl (λ (q : feed_at bs < length bs). cut_line bs q)
  where
    line : (x : Bool) → eqb b 10 ≡ x → (feed_at bs < length bs → cut_of bs ≡ first (feed_at bs) bs) → cut_of (b ∷ bs) ≡ first (feed_at (b ∷ bs)) (b ∷ bs)
    line true e more =
        let z : b ≡ 10 = eqb-true b 10 e in
        cut_feed b bs z ∙ ap (λ (k : ℕ). first k (b ∷ bs)) (sym (feed_here b bs z))
    line false e more =
        let z : b ≡ 10 → ⊥ = eqb-false b 10 e in
        let f : feed_at (b ∷ bs) ≡ suc (feed_at bs) = feed_later b bs z in
        cut_byte b bs z
        ∙ ap (λ (c : Cut). in_front b c.lines c.rest) (more (omega arith))
        ∙ ap (λ (k : ℕ). first k (b ∷ bs)) (sym f)

cut-rest : (l : List ℕ) → feed_at l ≡ length l → cut_of l ≡ record { lines = []; rest = l }
cut-rest [] h = cut-empty
cut-rest (b ∷ bs) h = line (eqb b 10) refl (λ (q : feed_at bs ≡ length bs). cut-rest bs q)
  where
    line : (x : Bool) → eqb b 10 ≡ x → (feed_at bs ≡ length bs → cut_of bs ≡ record { lines = []; rest = bs }) → cut_of (b ∷ bs) ≡ record { lines = []; rest = b ∷ bs }
    line true e more = absurd (omega (arith, feed_here b bs (eqb-true b 10 e)))
    line false e more =
        let z : b ≡ 10 → ⊥ = eqb-false b 10 e in
        let f : feed_at (b ∷ bs) ≡ suc (feed_at bs) = feed_later b bs z in
        cut_byte b bs z ∙ ap (λ (c : Cut). in_front b c.lines c.rest) (more (omega arith))

-- ---- its answer, and what is answered to the rest

pub run_none : (s : Plain) → run_from s [] ≡ []
unfolding run_from answers cut_of
run_none s = refl

run_line : (s : Plain) (l : List ℕ) (k : ℕ) → k ≡ feed_at l → k < length l
    → run_from s l ≡ (step_of s (take k l)).text ++ run_from (step_of s (take k l)).state (drop (suc k) l)
unfolding run_from answers
run_line s l k e h =
    ap (λ (c : Cut). cut_answers s c) (cut_line l (omega (arith, e)) ∙ ap (λ (j : ℕ). first j l) (sym e))
    ∙ append_assoc (step_of s (take k l)).text (answers (step_of s (take k l)).state (cut_of (drop (suc k) l)).lines) (unfinished (cut_of (drop (suc k) l)).rest)

run_last : (s : Plain) (l : List ℕ) → feed_at l ≡ length l → 0 < length l → run_from s l ≡ bad_line
unfolding run_from answers
run_last s [] h p = absurd (omega arith)
run_last s (b ∷ bs) h p = ap (λ (c : Cut). cut_answers s c) (cut-rest (b ∷ bs) h)

unfinished_some : (l : List ℕ) → 0 < length l → unfinished l ≡ bad_line
unfinished_some [] h = absurd (omega arith)
unfinished_some (b ∷ bs) h = refl

-- ---- a part of the answers

part-full : (room : ℕ) (s : Plain) (ls : List (List ℕ)) (rest : List ℕ) → room < 800 → part_of room s ls rest ≡ no_part s
unfolding part_of
part-full room s [] rest h = rw (lt-ltb room 800 h)
part-full room s (l ∷ ls) rest h = rw (lt-ltb room 800 h)

part_none : (room : ℕ) (s : Plain) → part_from room s [] ≡ no_part s
unfolding cut_of part_of
part_none room s = same (ltb room 800)
  where
    same : (x : Bool) → cond x (no_part s) (no_part s) ≡ no_part s
    same true = refl
    same false = refl

part-cons : (room : ℕ) (s : Plain) (l : List ℕ) (ls : List (List ℕ)) (rest : List ℕ) → 800 ≤ room
    → part_of room s (l ∷ ls) rest ≡ behind (step_of s l).text (length l + 1) (part_of (room - length (step_of s l).text) (step_of s l).state ls rest)
unfolding part_of
part-cons room s l ls rest h = rw (le-ltb room 800 h)

part-rest : (room : ℕ) (s : Plain) (rest : List ℕ) → 800 ≤ room → part_of room s [] rest ≡ last_part s rest
unfolding part_of
part-rest room s rest h = rw (le-ltb room 800 h)

part_line : (room : ℕ) (s : Plain) (l : List ℕ) (k : ℕ) → 800 ≤ room → k ≡ feed_at l → k < length l
    → part_from room s l ≡ behind (step_of s (take k l)).text (k + 1) (part_from (room - length (step_of s (take k l)).text) (step_of s (take k l)).state (drop (suc k) l))
part_line room s l k h e m =
    let p = part_from (room - length (step_of s (take k l)).text) (step_of s (take k l)).state (drop (suc k) l) in
    ap (λ (c : Cut). part_of room s c.lines c.rest) (cut_line l (omega (arith, e)) ∙ ap (λ (j : ℕ). first j l) (sym e))
    ∙ part-cons room s (take k l) (cut_of (drop (suc k) l)).lines (cut_of (drop (suc k) l)).rest h
    ∙ ap (λ (j : ℕ). behind (step_of s (take k l)).text (j + 1) p) (length-take-le k l (omega arith))

part_last : (room : ℕ) (s : Plain) (l : List ℕ) → 800 ≤ room → feed_at l ≡ length l → part_from room s l ≡ last_part s l
part_last room s l h e = ap (λ (c : Cut). part_of room s c.lines c.rest) (cut-rest l e) ∙ part-rest room s l h

-- its answers, and then those to what it leaves, are all

abbrev Goes : Plain → List ℕ → Part → Type 0
Goes s input p = run_from s input ≡ p.text ++ run_from p.state (drop p.taken input)

goes_last : (s : Plain) (input : List ℕ) → feed_at input ≡ length input → Goes s input (last_part s input)
goes_last s [] h = refl
goes_last s (b ∷ bs) h =
    run_last s (b ∷ bs) h (omega arith)
    ∙ sym (ap (λ (l : List ℕ). bad_line ++ l) (ap (λ (l : List ℕ). run_from s l) (drop-length (b ∷ bs)) ∙ run_none s))

goes_line : (s : Plain) (input : List ℕ) (k : ℕ) (p : Part) → k ≡ feed_at input → k < length input → Goes (step_of s (take k input)).state (drop (suc k) input) p
    → Goes s input (behind (step_of s (take k input)).text (k + 1) p)
goes_line s input k p e m more =
    let t = (step_of s (take k input)).text in
    let over : drop p.taken (drop (suc k) input) ≡ drop (k + 1 + p.taken) input =
    drop-drop p.taken (suc k) input ∙ ap (λ (j : ℕ). drop (j + p.taken) input) (sym (add-one k)) in
    run_line s input k e m
    ∙ ap (λ (l : List ℕ). t ++ l) (more ∙ ap (λ (l : List ℕ). p.text ++ run_from p.state l) over)
    ∙ sym (append_assoc t p.text (run_from p.state (drop (k + 1 + p.taken) input)))

goes_if : (room : ℕ) (s : Plain) (input : List ℕ) → ((n : ℕ) (u : Plain) (l : List ℕ) → length l < length input → Goes u l (part_from n u l)) → Goes s input (part_from room s input)
goes_if room s input more = by_room (ltb room 800) refl
  where
    by_feed : 800 ≤ room → (x : Bool) → ltb (feed_at input) (length input) ≡ x → Goes s input (part_from room s input)
    by_feed h true e =
        let m : feed_at input < length input = ltb-true (feed_at input) (length input) e in
        let t = (step_of s (take (feed_at input) input)).text in
        let u = (step_of s (take (feed_at input) input)).state in
        let rest = drop (suc (feed_at input)) input in
        subst (λ (p : Part). Goes s input p)
        (sym (part_line room s input (feed_at input) h refl m))
        (goes_line s input (feed_at input) (part_from (room - length t) u rest) refl m (more (room - length t) u rest (omega (arith, length-drop (suc (feed_at input)) input))))
    by_feed h false e =
        let z : feed_at input ≡ length input = omega (arith, ltb-false (feed_at input) (length input) e, feed_within input) in
        subst (λ (p : Part). Goes s input p) (sym (part_last room s input h z)) (goes_last s input z)

    by_room : (x : Bool) → ltb room 800 ≡ x → Goes s input (part_from room s input)
    by_room true e = subst (λ (p : Part). Goes s input p) (sym (part-full room s (cut_of input).lines (cut_of input).rest (ltb-true room 800 e))) refl
    by_room false e = by_feed (ltb-false room 800 e) (ltb (feed_at input) (length input)) refl

goes_n : (n room : ℕ) (s : Plain) (input : List ℕ) → length input ≤ n → Goes s input (part_from room s input)
goes_n zero room s input h = goes_if room s input (λ (m : ℕ) (u : Plain) (l : List ℕ) (q : length l < length input). absurd (omega arith))
goes_n (suc n) room s input h = goes_if room s input (λ (m : ℕ) (u : Plain) (l : List ℕ) (q : length l < length input). goes_n n m u l (omega arith))

pub part_said : (room : ℕ) (s : Plain) (input : List ℕ) → run_from s input ≡ (part_from room s input).text ++ run_from (part_from room s input).state (drop (part_from room s input).taken input)
part_said room s input = goes_n (length input) room s input (omega arith)

-- with room for a line, a part takes one
pub part-on : (room : ℕ) (s : Plain) (input : List ℕ) → 800 ≤ room → 0 < length input → 0 < (part_from room s input).taken
part-on room s input h l = by_feed (ltb (feed_at input) (length input)) refl
  where
    by_feed : (x : Bool) → ltb (feed_at input) (length input) ≡ x → 0 < (part_from room s input).taken
    by_feed true e = omega (arith, ap (λ (p : Part). p.taken) (part_line room s input (feed_at input) h refl (ltb-true (feed_at input) (length input) e)))
    by_feed false e =
        let z : feed_at input ≡ length input = omega (arith, ltb-false (feed_at input) (length input) e, feed_within input) in
        omega (arith, ap (λ (p : Part). p.taken) (part_last room s input h z))

-- ---- a turn: one line, or the last one without its line feed

pub turn_line : (r : Going) (input old new out : List ℕ) (end next : ℕ) (x : Plain) → out ≡ new → (r.at < length input) × (r.len + 800 ≤ length old)
    → end ≡ r.at + feed_at (drop r.at input) → end < length input
    → Says (step_of r.state (take (end - r.at) (drop r.at input))) old new r.len next x
    → Turned r input old out (record { state = x; at = end + 1; len = next })
turn_line r input old new out end next x same h e z w =
    let rest = drop r.at input in
    let k = end - r.at in
    let t = (step_of r.state (take k rest)).text in
    let n : length rest ≡ length input - r.at = length-drop r.at input in
    let f : k ≡ feed_at rest = omega arith in
    let m : k < length rest = omega (arith, e, n, z, h.0) in
    let c : k + 1 ≡ end + 1 - r.at = omega (arith, e) in
    let over : drop (suc k) rest ≡ drop (end + 1) input = drop-drop (suc k) r.at input ∙ ap (λ (j : ℕ). drop j input) (place r.at end (feed_at rest) e) in
    record {
      text = t;
      part =
          λ (room : ℕ) (b : 800 ≤ room).
          part_line room r.state rest k b f m
          ∙ ap (λ (j : ℕ). behind t j (part_from (room - length t) (step_of r.state (take k rest)).state (drop (suc k) rest))) c
          ∙ ap (λ (u : Plain). behind t (end + 1 - r.at) (part_from (room - length t) u (drop (suc k) rest))) (sym w.state)
          ∙ ap (λ (l : List ℕ). behind t (end + 1 - r.at) (part_from (room - length t) x l)) over;
      wrote = rw same w.wrote;
      on = omega (arith, h.0);
    }
  where
    place : (a b c : ℕ) → b ≡ a + c → a + suc (b - a) ≡ b + 1
    place a b c p = omega arith

pub turn_last : (r : Going) (input old new out : List ℕ) (end k : ℕ) → out ≡ new → (r.at < length input) × (r.len + 800 ≤ length old)
    → end ≡ r.at + feed_at (drop r.at input) → length input ≤ end → Wrote 64 old new r.len k bad_line
    → Turned r input old out (record { state = r.state; at = end; len = k })
turn_last r input old new out end k same h e g w =
    let z : end ≡ length input = omega (arith, g, feed_end input r.at end (omega (arith, h.0)) e) in
    let rest = drop r.at input in
    let n : length rest ≡ length input - r.at = length-drop r.at input in
    let f : feed_at rest ≡ length rest = omega (arith, h.0) in
    let c : length rest ≡ end - r.at + 0 = omega (arith, h.0) in
    let u : unfinished rest ≡ bad_line = unfinished_some rest (omega (arith, h.0)) in
    let over : drop end input ≡ [] = ap (λ (j : ℕ). drop j input) z ∙ drop-length input in
    record {
      text = bad_line;
      part =
          λ (room : ℕ) (b : 800 ≤ room).
          part_last room r.state rest b f
          ∙ ◌∙◌ {A = Part} (λ i. record { state = r.state; taken = c i; text = u i })
          (sym (ap (λ (p : Part). behind bad_line (end - r.at) p) (ap (λ (l : List ℕ). part_from (room - length bad_line) r.state l) over ∙ part_none (room - length bad_line) r.state)));
      wrote = rw same (retold 64 800 old new bad_line bad_line r.len k refl (omega arith) w);
      on = omega (arith, h.0);
    }

-- ---- all turns

pub record Running (s : Plain) (input : List ℕ) (from : ℕ) (old new : List ℕ) (r : Going) : Type 0 where
  pub part : part_from (length old) s (drop from input) ≡ behind (take r.len new) (r.at - from) (part_from (length old - r.len) r.state (drop r.at input))
  pub kept : drop r.len new ≡ drop r.len old
  pub room : r.len ≤ length new
  pub size : length new ≡ length old
  pub onward : from ≤ r.at

pub run-start : (s : Plain) (input old : List ℕ) (from : ℕ) → Running s input from old old (record { state = s; at = from; len = 0 })
run-start s input old from =
    let p = part_from (length old) s (drop from input) in
    let c : p.taken ≡ from - from + p.taken = omega arith in
    let n : length old ≡ length old - 0 = omega arith in
    record {
      part =
          ◌∙◌ {A = Part} (λ i. record { state = p.state; taken = c i; text = p.text })
          (ap (λ (j : ℕ). behind [] (from - from) (part_from j s (drop from input))) n);
      kept = refl;
      room = omega arith;
      size = refl;
      onward = omega arith;
    }

behind_twice : (a b : List ℕ) (n m k : ℕ) (p : Part) → n + m ≡ k → behind a n (behind b m p) ≡ behind (a ++ b) k p
behind_twice a b n m k p e =
    let c : n + (m + p.taken) ≡ k + p.taken = omega arith in
    λ i. record { state = p.state; taken = c i; text = sym (append_assoc a b p.text) i }

pub run_turn : (s : Plain) (input : List ℕ) (from : ℕ) (old new next : List ℕ) (r x : Going) → Running s input from old new r → r.len + 800 ≤ length new → Turned r input new next x
    → Running s input from old next x
unfolding written_at
run_turn s input from old new next r x v h t =
    let text = t.text in
    let front = take r.len new in
    let n : length (front ++ text) ≡ x.len = length-append front text ∙ (λ i. length-take-le r.len new v.room i + length text) ∙ sym t.wrote.place in
    let e : next ≡ front ++ text ++ drop x.len new = t.wrote.list ∙ ap (λ (j : ℕ). front ++ text ++ drop j new) (sym t.wrote.place) in
    let over : drop x.len new ≡ drop x.len old =
    ap (λ (j : ℕ). drop j new) t.wrote.place
    ∙ sym (drop-drop (length text) r.len new)
    ∙ ap (λ (q : List ℕ). drop (length text) q) v.kept
    ∙ drop-drop (length text) r.len old
    ∙ ap (λ (j : ℕ). drop j old) (sym t.wrote.place) in
    let left : length old - r.len - length text ≡ length old - x.len = omega (arith, t.wrote.place) in
    let p = part_from (length old - x.len) x.state (drop x.at input) in
    record {
      part =
          v.part
          ∙ ap (λ (q : Part). behind front (r.at - from) q)
          (t.part (length old - r.len) (omega (arith, v.size)) ∙ ap (λ (j : ℕ). behind text (x.at - r.at) (part_from j x.state (drop x.at input))) left)
          ∙ behind_twice front text (r.at - from) (x.at - r.at) (x.at - from) p (omega (arith, v.onward, t.on))
          ∙ ap (λ (q : List ℕ). behind q (x.at - from) p) (sym (ap (λ (q : List ℕ). take x.len q) e ∙ take_at (front ++ text) (drop x.len new) x.len n));
      kept = ap (λ (q : List ℕ). drop x.len q) e ∙ drop_at (front ++ text) (drop x.len new) x.len n ∙ over;
      room = omega (arith, t.wrote.place, t.wrote.short);
      size = t.wrote.size ∙ v.size;
      onward = omega (arith, v.onward, t.on);
    }

pub turn_room : (s : Plain) (input : List ℕ) (from : ℕ) (old new : List ℕ) (r : Going) → Running s input from old new r → r.at < length input → 800 ≤ length new - r.len
    → (r.at < length input) × (r.len + 800 ≤ length new)
turn_room s input from old new r v h k = (h, omega (arith, v.room))

-- no more is answered: no more room, or the end
told : (s : Plain) (all input : List ℕ) (from : ℕ) (old new : List ℕ) (r : Going) → input ≡ read all → Running s input from old new r
    → part_from (length old - r.len) r.state (drop r.at input) ≡ no_part r.state
    → Told (part_from (length old) s (drop from (read all))) from old new r
unfolding written_at
told s all input from old new r e v z =
    let p = part_from (length old) s (drop from input) in
    let q : p ≡ behind (take r.len new) (r.at - from) (no_part r.state) = v.part ∙ ap (λ (x : Part). behind (take r.len new) (r.at - from) x) z in
    let t : p.text ≡ take r.len new = ap (λ (x : Part). x.text) q ∙ append-nil (take r.len new) in
    let n : length p.text ≡ r.len = ap length t ∙ length-take-le r.len new v.room in
    let here : r.len ≡ 0 + length p.text = omega (arith, n) in
    subst (λ (l : List ℕ). Told (part_from (length old) s (drop from l)) from old new r) e
    (record {
      state = sym (ap (λ (x : Part). x.state) q);
      at = omega (arith, ap (λ (x : Part). x.taken) q, v.onward);
      wrote =
          record {
            place = here;
            short = omega (arith, n, v.room, v.size);
            size = v.size;
            list =
                sym (take-append-drop r.len new)
                ∙ ap (λ (l : List ℕ). take r.len new ++ l) (v.kept ∙ ap (λ (j : ℕ). drop j old) here)
                ∙ ap (λ (l : List ℕ). l ++ drop (0 + length p.text) old) (sym t);
          };
    })

pub run-full : (s : Plain) (all input : List ℕ) (from : ℕ) (old new : List ℕ) (r : Going) → input ≡ read all → Running s input from old new r → length new - r.len < 800
    → Told (part_from (length old) s (drop from (read all))) from old new r
run-full s all input from old new r e v h =
    told s all input from old new r e v (part-full (length old - r.len) r.state (cut_of (drop r.at input)).lines (cut_of (drop r.at input)).rest (omega (arith, v.size)))

pub run_over : (s : Plain) (all input : List ℕ) (from : ℕ) (old new : List ℕ) (r : Going) → input ≡ read all → Running s input from old new r → length input ≤ r.at
    → Told (part_from (length old) s (drop from (read all))) from old new r
run_over s all input from old new r e v h =
    told s all input from old new r e v
    (ap (λ (l : List ℕ). part_from (length old - r.len) r.state l) (drop_of_length-le input h) ∙ part_none (length old - r.len) r.state)

-- ---- the parts one after the other

pub left-start : (input : List ℕ) (s : Plain) → s ≡ start → Left input s 0
left-start input s e = record { written = []; all = plain-run input ∙ ap (λ (u : Plain). run_from u (read input)) (sym e) }

abbrev Next : List ℕ → Plain → ℕ → List ℕ → List ℕ → Going → Type 0
Next input s at old new x = Told (part_from (length old) s (drop at (read input))) at old new x

pub left-next : (input : List ℕ) (s : Plain) (at : ℕ) (old new : List ℕ) (x : Going) → Left input s at → Next input s at old new x → Left input x.state x.at
left-next input s at old new x l t =
    let rest = drop at (read input) in
    let p = part_from (length old) s rest in
    let over : drop p.taken rest ≡ drop x.at (read input) = drop-drop p.taken at (read input) ∙ ap (λ (j : ℕ). drop j (read input)) (sym t.at) in
    record {
      written = l.written ++ p.text;
      all =
          l.all
          ∙ ap (λ (q : List ℕ). l.written ++ q) (part_said (length old) s rest ∙ ap (λ (q : List ℕ). p.text ++ run_from p.state q) over ∙ ap (λ (u : Plain). p.text ++ run_from u (drop x.at (read input))) (sym t.state))
          ∙ sym (append_assoc l.written p.text (run_from x.state (drop x.at (read input))));
    }

-- at the end all is written
pub left-none : (input : List ℕ) (s : Plain) (at : ℕ) → length (read input) ≤ at → (l : Left input s at) → run_of input ≡ l.written
left-none input s at h l =
    l.all
    ∙ ap (λ (q : List ℕ). l.written ++ run_from s q) (drop_of_length-le (read input) h)
    ∙ ap (λ (q : List ℕ). l.written ++ q) (run_none s)
    ∙ append-nil l.written

pub read_all : (input : List ℕ) → length input ≤ 60000 → read input ≡ input
unfolding read
read_all input h = take_all 60000 input h

pub left_less : (input : List ℕ) (s : Plain) (at : ℕ) (old new : List ℕ) (x : Going) → length input ≤ 60000 → at < length input → 800 ≤ length old → Next input s at old new x → at < x.at
left_less input s at old new x h k b t =
    let n : length (drop at (read input)) ≡ length (read input) - at = length-drop at (read input) in
    let m : length (read input) ≡ length input = ap length (read_all input h) in
    omega (arith, t.at, part-on (length old) s (drop at (read input)) b (omega (arith, n, m)))

-- what is written lies in the buffer
pub left-within : (p : Part) (at : ℕ) (old new : List ℕ) (x : Going) → Told p at old new x → length new ≡ length old → x.len ≤ length new
left-within p at old new x t e = omega (arith, t.wrote.place, t.wrote.short)
