use Rattle.std.proofs.Common.{◌≤◌, ◌<◌, ◌-◌, length, arith}
use Rattle.script.proofs.Input.{run-start, run_turn, turn_room, run-full, run_over, cut-within, read-part}
use Rattle.script.proofs.Relay.run.Goals as goal

pub slice_bounds-read-end : goal.slice_bounds-read-end
slice_bounds-read-end c = cut-within c.cut-n.result c.args.input.now c.cut-n.ensures

pub loop-r-init : goal.loop-r-init
loop-r-init c = (λ h. h, run-start _ _ _ _)

pub overflow_sub-out : goal.overflow_sub-out
overflow_sub-out c = c.loop-r.invariant.1.room

pub returns-then-out-r-lt-ROOM-clause-told : goal.returns-then-out-r-lt-ROOM-clause-told
returns-then-out-r-lt-ROOM-clause-told c = let l : length c.loop-r.out - c.loop-r.r.len < 800 = omega (arith, c.if-out-r-lt-ROOM.true) in
    run-full _ c.args.input.now _ _ _ _ _ (read-part c.cut-n.result c.args.input.now c.cut-n.ensures) c.loop-r.invariant.1 l

pub turn-r-requires : goal.turn-r-requires
turn-r-requires c = let l : 800 ≤ length c.loop-r.out - c.loop-r.r.len = omega (arith, c.if-out-r-lt-ROOM.false) in
    turn_room _ _ _ _ _ _ c.loop-r.invariant.1 c.loop-r-test.true l

pub loop-r-smaller : goal.loop-r-smaller
loop-r-smaller c = let h : c.loop-r.r.at < c.turn-r.result.at = c.turn-r.ensures.turned.on in
    let l = c.loop-r-test.true in
    omega arith

pub loop-r-preserved : goal.loop-r-preserved
loop-r-preserved c = let l : 800 ≤ length c.loop-r.out - c.loop-r.r.len = omega (arith, c.if-out-r-lt-ROOM.false) in
    (λ h. c.turn-r.ensures.held (c.loop-r.invariant.0 h), run_turn _ _ _ _ _ _ _ _ c.loop-r.invariant.1 (turn_room _ _ _ _ _ _ c.loop-r.invariant.1 c.loop-r-test.true l).1 c.turn-r.ensures.turned)

pub returns-clause-told : goal.returns-clause-told
returns-clause-told c = run_over _ c.args.input.now _ _ _ _ _ (read-part c.cut-n.result c.args.input.now c.cut-n.ensures) c.loop-r.invariant.1 c.loop-r-test.false
