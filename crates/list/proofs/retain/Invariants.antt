use Rattle.std.proofs.Common.{◌≡◌, Bool, ℕ, ◌≤◌, take, length, get_or}
use Rattle.std.specs.Fn.{FnReturnsAt}
use Rattle.list.specs.Find.{keep_by}
use Rattle.list.proofs.retain.Given as goal

abbrev pub invariant-loop-i : goal.invariant-loop-i
invariant-loop-i g l = record {
  behind : l.kept ≤ l.i;
  size : length l.places ≡ length l.initial.places;
  rest : (j : ℕ) (d : _) → l.i ≤ j → get_or l.places j d ≡ get_or l.initial.places j d;
  items : (test : _ → Bool) → ((x : _) → (b : Bool) → FnReturnsAt g.F.Fn l.keep x b → b ≡ test x)
      → take l.kept l.places ≡ keep_by test (take l.i l.initial.places);
}
