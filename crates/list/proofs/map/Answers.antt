use Rattle.std.proofs.Common.{◌≡◌, arith, refl, ◌∙◌, length-set}
use Rattle.std.proofs.lemmas.Fn.{says_at}
use Rattle.list.proofs.Edits.{edited, blank_at}
use Rattle.list.proofs.Swaps.{changed, set_past}
use Rattle.list.proofs.map.Goals as goal

pub loop-i-init : goal.loop-i-init
loop-i-init g c = record { size = refl; rest = λ j d h. refl; items = λ made f. refl }

pub loop-i-preserved : goal.loop-i-preserved
loop-i-preserved g c =
    let fits = c.requires.list.fits in
    let item = c.index-places-i.is ∙ c.loop-i.invariant.rest c.loop-i.i c.index-places-i.result (omega arith) in
    record {
      size = length-set c.loop-i.places c.loop-i.i _ ∙ c.loop-i.invariant.size;
      rest = λ j d h.
          set_past c.loop-i.places c.loop-i.i j c.change.result d (omega arith) ∙ c.loop-i.invariant.rest j d (omega arith);
      items = λ made f.
          changed made c.loop-i.places c.args.places.now c.loop-i.i c.index-places-i.result c.change.result (omega arith) c.loop-i.invariant.size
          (c.loop-i.invariant.items made f) item (f _ c.change.result (says_at g.F.Fn c.change.ensures refl));
    }

pub returns-clause-list : goal.returns-clause-list
returns-clause-list g c =
    edited _ _ c.args.len.now _ c.args.places.now _ c.requires.list c.loop-i.invariant.size c.requires.list.fits
    (λ k d le here. c.loop-i.invariant.rest k d (omega arith) ∙ blank_at _ _ _ _ c.requires.list k d le here)

pub returns-clause-items : goal.returns-clause-items
returns-clause-items g c =
    let last : c.loop-i.i ≡ c.args.len.now = omega arith in
    λ made f. rw (← last) (c.loop-i.invariant.items made f)
