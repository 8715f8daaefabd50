-- What the driver writes is what the driver in the specification's words writes, for every input: nine held records are as many as any more.
use mathlib.Core.Path.{◌≡◌, refl, sym, ap, ◌∙◌}
use mathlib.Core.Bool.{Bool, true, false, cond}
use mathlib.Core.List.{List, [], ◌∷◌, ◌++◌}
use Prim.Native.Nat.{ℕ, ◌+◌, ◌≤◌, ◌<◌}
use native.Mathlib.Omega.{arith}
use borrow.Author.Tests.{lt-ltb, le-ltb, lt-leb, ltb-true, ltb-false}
use lib.Dec.{ltb}
use lib.ListN.{length, take, length-append}
use lib.Seq.{length-take-le, take_all, take-append-le}
use Rattle.packet.specs.declared.Record.{Record}
use Rattle.model.specs.Calls.{accept}
use Rattle.model.specs.Port.{delivery_made, deliver, on_time, accept_s, reply}
use Rattle.tab.specs.declared.Table.{Table}
use Rattle.tab.specs.Tables.{state_of}
use Rattle.tab.specs.Test.{wfb}
use Rattle.tab.specs.Calls.{table_reply, called_if, called, TableReply}
use Rattle.std.specs.Prelude.{Result, Ok, Err}
use Rattle.reading.specs.declared.Command.{Command}
use Rattle.reading.specs.declared.Command.TheVariants.{In, Pig, Pop}
use Rattle.reading.specs.declared.Bad.{Bad}
use Rattle.reading.specs.declared.Bad.TheVariants.{Line, Arrival}
use Rattle.reading.specs.Grammar.{line_of}
use Rattle.script.specs.Plain.{Plain, plain, Said, say, after_call, plain_kind, plain_step, plain_answers, start}
use Rattle.script.specs.Holding.{more}
use Rattle.script.specs.Lines.{by_kind, step_of}
use Rattle.script.specs.Input.{cut_of, answers, unfinished, run_from, read, run_of}

-- at most nine of the held records
abbrev nine : List Record → List Record
nine hs = take 9 hs

abbrev bounded : Plain → Plain
bounded p = plain p.table (nine p.held)

few : (rs : List Record) → length rs ≤ 9 → nine rs ≡ rs
few rs h = take_all 9 rs h

more_is : (hs : List Record) (r : Record) → more (nine hs) r ≡ nine (hs ++ r ∷ [])
more_is hs r = at (ltb (length hs) 9) refl
  where
    n : length (hs ++ r ∷ []) ≡ length hs + 1
    n = length-append hs (r ∷ [])

    at : (x : Bool) → ltb (length hs) 9 ≡ x → more (nine hs) r ≡ nine (hs ++ r ∷ [])
    at true e =
        let h : length hs < 9 = ltb-true (length hs) 9 e in
        ap (λ (l : List Record). more l r) (few hs (omega arith)) ∙ rw (lt-ltb (length hs) 9 h) (sym (few (hs ++ r ∷ []) (omega (arith, n))))
    at false e =
        let h : 9 ≤ length hs = ltb-false (length hs) 9 e in
        let m : length (nine hs) ≡ 9 = length-take-le 9 hs h in
        rw (le-ltb (length (nine hs)) 9 (omega (arith, m))) (sym (take-append-le 9 hs (r ∷ []) h))

-- which records a delivery that is too long has makes no difference
long_made : (rs : List Record) → 8 < length rs → delivery_made rs ≡ false
long_made rs h = rw (lt-leb (length rs) 8 h)

long_if : (g : Bool) (time a : ℕ) (rs qs : List Record) (t : Table) → 8 < length rs → 8 < length qs → called_if g (accept time a rs) t ≡ called_if g (accept time a qs) t
unfolding reply accept_s
long_if false time a rs qs t h k = refl
long_if true time a rs qs t h k =
    ap (λ (b : Bool). table_reply (deliver b (on_time time (state_of t)) time a rs (state_of t))) (long_made rs h)
    ∙ sym (ap (λ (b : Bool). table_reply (deliver b (on_time time (state_of t)) time a qs (state_of t))) (long_made qs k))

long : (time a : ℕ) (rs qs : List Record) (t : Table) → 8 < length rs → 8 < length qs → called (accept time a rs) t ≡ called (accept time a qs) t
unfolding called
long time a rs qs t h k = long_if (wfb t) time a rs qs t h k

delivered_is : (time a : ℕ) (rs : List Record) (t : Table) → called (accept time a (nine rs)) t ≡ called (accept time a rs) t
delivered_is time a rs t = at (ltb (length rs) 9) refl
  where
    at : (x : Bool) → ltb (length rs) 9 ≡ x → called (accept time a (nine rs)) t ≡ called (accept time a rs) t
    at true e = ap (λ (l : List Record). called (accept time a l) t) (few rs (omega (arith, ltb-true (length rs) 9 e)))
    at false e =
        let h : 9 ≤ length rs = ltb-false (length rs) 9 e in
        let m : length (nine rs) ≡ 9 = length-take-le 9 rs h in
        long time a (nine rs) rs t (omega (arith, m)) (omega arith)

-- ---- a line, and all of them

abbrev at_most : Said → Said
at_most s = say (bounded s.state) s.text

in_is : (p : Plain) (time a : ℕ) (r : Record) → called (accept time a (more (nine p.held) r)) p.table ≡ called (accept time a (p.held ++ r ∷ [])) p.table
in_is p time a r = ap (λ (l : List Record). called (accept time a l) p.table) (more_is p.held r) ∙ delivered_is time a (p.held ++ r ∷ []) p.table

kind_is : (c : Result Command Bad) (p : Plain) → by_kind c (bounded p) ≡ at_most (plain_kind c p)
kind_is (Ok (In time a r)) p = ap (λ (o : TableReply). after_call o []) (in_is p time a r)
kind_is (Ok (Pig r)) p = ap (λ (l : List Record). say (plain p.table l) []) (more_is p.held r)
kind_is (Ok (Pop k)) p = refl
kind_is (Err Line) p = refl
kind_is (Err Arrival) p = refl

step_is : (p : Plain) (line : List ℕ) → step_of (bounded p) line ≡ at_most (plain_step p line)
unfolding step_of plain_step
step_is p line = kind_is (line_of line) p

answers_are : (p : Plain) (ls : List (List ℕ)) → answers (bounded p) ls ≡ plain_answers p ls
unfolding answers plain_answers
answers_are p [] = refl
answers_are p (l ∷ ls) =
    ap (λ (x : Said). x.text ++ answers x.state ls) (step_is p l)
    ∙ ap (λ (t : List ℕ). (plain_step p l).text ++ t) (answers_are (plain_step p l).state ls)

pub plain-run : (input : List ℕ) → run_of input ≡ run_from start (read input)
unfolding run_of run_from
plain-run input = ap (λ (t : List ℕ). t ++ unfinished (cut_of (read input)).rest) (sym (answers_are start (cut_of (read input)).lines))
