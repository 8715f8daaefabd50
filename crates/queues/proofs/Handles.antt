-- Which handles are in lists.
use Rattle.std.proofs.Common.{◌≡◌, Bool, List, [], ◌∷◌, ◌||◌, length, take, refl, arith, ap, sym, ◌∙◌, length-take, ℕ}
use Rattle.std.specs.List.{list_any}
use lib.Seq.{take_all}
use Rattle.list.specs.Find.{has, joined, sum}
use Rattle.list.proofs.Joined.{has-joined}
use Rattle.model.specs.Rust.{is_handle, holds_bundle}
use Rattle.queues.specs.Made.{bundles_of, IsBundles}
use Rattle.queues.specs.declared.bundles.Bundles.{Bundles}
use Rattle.queues.proofs.Cuts.{joined-split_by}

pub has_any : {A : Type 0} (f : A → Bool) (xs : List A) → has f xs ≡ list_any f xs
unfolding has
has_any f [] = refl
has_any f (x ∷ xs) = ap (λ b. f x || b) (has_any f xs)

-- a handle is in a bundle where it is among all handles
pub held : (b : Bundles) (h : ℕ) → IsBundles b → has (is_handle h) (take b.total b.handles) ≡ has (holds_bundle h) (bundles_of b)
held b h w =
    let hs = take b.total b.handles in
    let size : length hs ≡ sum (take b.len b.lengths) = omega (arith, w.whole, length-take b.total b.handles, w.handles.size, w.handles.fits) in
    let all : joined (bundles_of b) ≡ hs = joined-split_by (take b.len b.lengths) hs ∙ take_all (sum (take b.len b.lengths)) hs (omega arith) in
    sym (has-joined (is_handle h) (bundles_of b) ∙ ap (has (is_handle h)) all)
