use Rattle.std.proofs.Common.{◌≡◌, ℕ, ◌≤◌, take, length, get_or, map}
use Rattle.std.specs.Fn.{FnReturnsAt}
use Rattle.list.proofs.map.Given as goal

abbrev pub invariant-loop-i : goal.invariant-loop-i
invariant-loop-i g l = record {
  size : length l.places ≡ length l.initial.places;
  rest : (j : ℕ) (d : _) → l.i ≤ j → get_or l.places j d ≡ get_or l.initial.places j d;
  items : (made : _ → _) → ((x : _) → (y : _) → FnReturnsAt g.F.Fn l.change x y → y ≡ made x)
      → take l.i l.places ≡ map made (take l.i l.initial.places);
}
