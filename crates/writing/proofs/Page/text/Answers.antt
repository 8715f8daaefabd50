use Rattle.std.proofs.Common.{◌<◌, length, arith, length-take-le, refl, ◌∙◌}
use Rattle.writing.proofs.Places.{nothing, text_step, text_end}
use Rattle.writing.proofs.Page.text.Goals as goal

pub loop-b-init : goal.loop-b-init
loop-b-init c = record { same = refl; wrote = nothing _ _ _ }

pub push-requires : goal.push-requires
push-requires c =
    let w = c.loop-b.invariant.wrote in
    let h : c.loop-b.b-index < length c.args.text.now = c.loop-b-test.true in
    omega (arith, w.place, w.size, length-take-le c.loop-b.b-index c.args.text.now (omega arith), c.requires)

pub loop-b-preserved : goal.loop-b-preserved
loop-b-preserved c =
    record {
      same = c.push.ensures.same ∙ c.loop-b.invariant.same;
      wrote = text_step _ _ _ c.args.text.now _ _ _ c.loop-b.b-index c.requires c.loop-b-test.true c.loop-b.invariant.wrote c.push.ensures.wrote;
    }

pub returns-clause-wrote : goal.returns-clause-wrote
returns-clause-wrote c = text_end _ _ c.args.text.now _ _ c.loop-b.b-index c.loop-b-test.false c.loop-b.invariant.wrote
