use Rattle.std.proofs.Common.{refl, ◌∙◌, arith}
use Rattle.writing.proofs.Places.{bundle_start, bundle_step, bundle_end}
use Rattle.writing.proofs.Page.write_bundle.Goals as goal

pub loop-h-init : goal.loop-h-init
loop-h-init c = record { same = refl; made = bundle_start _ _ _ _ _ c.requires.few c.requires.room c.worded.ensures.wrote }

pub worded-requires-in-loop-h : goal.worded-requires-in-loop-h
worded-requires-in-loop-h c =
    let m = c.loop-h.invariant.made in
    omega (arith, m.far, m.room, m.size, m.few, m.within, c.loop-h-test.true)

pub loop-h-preserved : goal.loop-h-preserved
loop-h-preserved c =
    record {
      same = c.worded-in-loop-h.ensures.same ∙ c.loop-h.invariant.same;
      made = bundle_step _ _ _ _ _ _ _ _ c.loop-h.invariant.made c.loop-h-test.true c.worded-in-loop-h.ensures.wrote;
    }

pub text-requires : goal.text-requires
text-requires c =
    let m = c.loop-h.invariant.made in
    omega (arith, m.far, m.room, m.size, m.few, m.within)

pub returns-clause-wrote : goal.returns-clause-wrote
returns-clause-wrote c =
    bundle_end _ _ _ _ _ _ _ _ _ _ c.requires.room c.worded.ensures.wrote c.loop-h.invariant.made c.loop-h-test.false c.text.ensures.wrote
