use Rattle.std.proofs.Common.{rules, arith, refl, ◌≤◌, ◌<◌, length}
use Rattle.script.proofs.Input.{left_less}
use Rattle.driver.proofs.Answering.{writing_start, writing_next, writing_end}
use Rattle.driver.proofs.answer.Goals as goal

pub loop-at-init : goal.loop-at-init
loop-at-init g c = (refl, c.new-relay.ensures.held, writing_start _ _ _ c.new-relay.ensures.start)

pub loop-at-smaller : goal.loop-at-smaller
loop-at-smaller g c =
    let b : 800 ≤ length c.loop-at.out = omega (arith, c.loop-at.invariant.0) in
    let h : c.loop-at.at < c.run-r.result.at = left_less c.args.input.now _ _ _ _ _ c.requires c.loop-at-test.true b c.run-r.ensures.told in
    let l : c.loop-at.at < length c.args.input.now = c.loop-at-test.true in
    omega arith

pub loop-at-preserved : goal.loop-at-preserved
loop-at-preserved g c =
    (search rules, c.run-r.ensures.held c.loop-at.invariant.1, writing_next _ _ _ _ _ _ _ _ _ c.loop-at.invariant.2 c.run-r.ensures.told c.in_ok-write_all.ensures.bytes)

pub returns : goal.returns
returns g c = writing_end _ _ _ _ _ c.requires (omega (arith, c.loop-at-test.false)) c.loop-at.invariant.2
