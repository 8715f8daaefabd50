-- The bundle that is next fits a list of 64 places. Assumes nothing.
use Rattle.std.proofs.Common.{ℕ, ◌≤◌, List, [], ◌∷◌, length, arith}
use Rattle.list.specs.Find.{joined}
use Rattle.list.proofs.Joined.{length-joined-front}
use Rattle.queues.specs.declared.bundles.Bundles.{Bundles}
use Rattle.queues.specs.Made.{bundles_of, front, IsBundles}
use Rattle.queues.proofs.Cuts.{total_is}

one_of_all : (bs : List (List ℕ)) → length (front bs) ≤ length (joined bs)
one_of_all [] = length-joined-front []
one_of_all (b ∷ bs) = length-joined-front (b ∷ bs)

pub front_fits : (b : Bundles) → IsBundles b → length (front (bundles_of b)) ≤ 64
front_fits b w = omega (arith, one_of_all (bundles_of b), total_is b w, w.handles.fits)
