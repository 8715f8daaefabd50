-- The known bytes of the reader and the writer while the driver answers. Assumes nothing.
use Rattle.std.proofs.Common.{◌≡◌, ◌∙◌, sym, ap, subst, ℕ, ◌+◌, ◌≤◌, ◌<◌, List, [], ◌++◌, Some, None, IfSome, Result, Ok, Err, OnOk, length, take, drop, arith, append_assoc, append-nil, refl, Bool, true, false}
use Rattle.std.specs.Io.KnownBytes.{Appends, Consumes, IsAtEnd}
use Rattle.std.proofs.KnownBytes.{Appends-nil, Appends-trans}
use Rattle.std.specs.declared.option.Option.{Option}
use borrow.Author.Tests.{ltb-true, ltb-false}
use lib.Dec.{ltb}
use lib.Seq.{take_at, take_all, drop-drop}
use Rattle.list.specs.Find.{written_at}
use Rattle.script.specs.Plain.{Plain, start, plain_answers}
use Rattle.script.specs.Input.{run_of, run_from, read, cut_of, unfinished, Part, part_from, Told, Left, Going}
use Rattle.script.proofs.Plain.{plain-run}
use Rattle.script.proofs.Input.{part_said, left-none, read_all}

-- the writer held a when the driver began and holds b now: what was written since, and then the answers to the rest, are all answers
pub record Writing (input : List ℕ) (s : Plain) (at : ℕ) (a b : Option (List ℕ)) : Type 0 where
  pub left : Left input s at
  pub wrote : Appends a b left.written

pub writing_start : (input : List ℕ) (s : Plain) (a : Option (List ℕ)) → s ≡ start → Writing input s 0 a a
writing_start input s a e =
    record { left = record { written = []; all = plain-run input ∙ ap (λ (u : Plain). run_from u (read input)) (sym e) }; wrote = Appends-nil a }

told_text : (p : Part) (from : ℕ) (old new : List ℕ) (x : Going) → Told p from old new x → take x.len new ≡ p.text
unfolding written_at
told_text p from old new x t =
    let n : length p.text ≡ x.len = omega (arith, t.wrote.place) in
    ap (take x.len) t.wrote.list ∙ take_at p.text (drop (0 + length p.text) old) x.len n

pub writing_next : (input : List ℕ) (s : Plain) (at : ℕ) (old new : List ℕ) (x : Going) (a b c : Option (List ℕ)) → Writing input s at a b
    → Told (part_from (length old) s (drop at (read input))) at old new x → Appends b c (take x.len new) → Writing input x.state x.at a c
writing_next input s at old new x a b c w t q =
    let l = w.left in
    let rest = drop at (read input) in
    let p = part_from (length old) s rest in
    let over : drop p.taken rest ≡ drop x.at (read input) = drop-drop p.taken at (read input) ∙ ap (λ (j : ℕ). drop j (read input)) (sym t.at) in
    record {
      left =
          record {
            written = l.written ++ p.text;
            all =
                l.all
                ∙ ap (λ (q : List ℕ). l.written ++ q) (part_said (length old) s rest ∙ ap (λ (q : List ℕ). p.text ++ run_from p.state q) over ∙ ap (λ (u : Plain). p.text ++ run_from u (drop x.at (read input))) (sym t.state))
                ∙ sym (append_assoc l.written p.text (run_from x.state (drop x.at (read input))));
          };
      wrote = subst (λ (z : List ℕ). Appends a c (l.written ++ z)) (told_text p at old new x t) (Appends-trans a b c l.written (take x.len new) w.wrote q);
    }

pub writing_end : (input : List ℕ) (s : Plain) (at : ℕ) (a b : Option (List ℕ)) → length input ≤ 60000 → length input ≤ at → Writing input s at a b
    → Appends a b (run_of input)
writing_end input s at a b h k w =
    let m : length (read input) ≡ length input = ap length (read_all input h) in
    subst (λ (z : List ℕ). Appends a b z) (sym (left-none input s at (omega (arith, m)) w.left)) w.wrote

-- where the reader's bytes are known, the answers to what was read of them are the answers to them
pub read_whole : (a b : Option (List ℕ)) (bs : List ℕ) (P : List ℕ → Type 0) → length bs ≤ 60000 → Consumes a b bs → (length bs < 60000 → IsAtEnd b)
    → P (run_of bs) → IfSome a (λ (xs : List ℕ). P (run_of xs))
unfolding run_of read
read_whole None b bs P h c e p = tt
read_whole (Some x) None bs P h c e p = absurd c
read_whole (Some x) (Some y) bs P h c e p = subst (λ (z : List ℕ). P (plain_answers start (cut_of z).lines ++ unfinished (cut_of z).rest)) (same (ltb (length bs) 60000) refl) p
  where
    same : (t : Bool) → ltb (length bs) 60000 ≡ t → take 60000 bs ≡ take 60000 x
    same true q = ap (take 60000) (sym (c ∙ ap (λ (l : List ℕ). bs ++ l) (e (ltb-true (length bs) 60000 q)) ∙ append-nil bs))
    same false q =
        let n : length bs ≡ 60000 = omega (arith, ltb-false (length bs) 60000 q) in
        take_all 60000 bs h ∙ sym (ap (take 60000) c ∙ take_at bs y 60000 n)

pub answers_whole : {T E : Type 0} (r : Result T E) (a b : Option (List ℕ)) (bs : List ℕ) (P : List ℕ → Type 0) → length bs ≤ 60000 → Consumes a b bs
    → (length bs < 60000 → IsAtEnd b) → OnOk r (P (run_of bs)) → OnOk r (IfSome a (λ (xs : List ℕ). P (run_of xs)))
answers_whole (Ok x) a b bs P h c e p = read_whole a b bs P h c e p
answers_whole (Err x) a b bs P h c e p = tt
