use Rattle.std.proofs.Common.{◌≤◌, arith, length, drop, length-drop}
use Rattle.list.proofs.Edits.{on_err}
use Rattle.queues.specs.Made.{bundles_of}
use Rattle.chan.proofs.Steps.{from_at, part_at, part_size, skips, takes, stopped_made, stopped_rest, skipped, made_one, too_many, still_first}
use Rattle.chan.proofs.grouping.group.Goals as goal

pub returns-in-Stop-clause-items : goal.returns-in-Stop-clause-items
returns-in-Stop-clause-items c = stopped_made c.args.packets.now c.loop-n.at 0 _ _ c.loop-n.invariant.rest (rw from_at at c.in-Stop.ensures.says)

pub returns-in-Stop-clause-rest : goal.returns-in-Stop-clause-rest
returns-in-Stop-clause-rest c = stopped_rest c.args.packets.now c.loop-n.at 0 _ _ c.loop-n.invariant.rest (rw from_at at c.in-Stop.ensures.says)

pub loop-n-smaller-in-Skip : goal.loop-n-smaller-in-Skip
loop-n-smaller-in-Skip c =
    let some = skips (drop c.loop-n.at c.args.packets.now) c.in-Skip.n (rw from_at at c.in-Skip.ensures.says) in
    let most : c.in-Skip.n ≤ length (drop c.loop-n.at c.args.packets.now) = rw from_at at c.in-Skip.ensures.most in
    omega (arith, some, most, length-drop c.loop-n.at c.args.packets.now)

pub loop-n-preserved-in-Skip : goal.loop-n-preserved-in-Skip
loop-n-preserved-in-Skip c =
    let most : c.in-Skip.n ≤ length (drop c.loop-n.at c.args.packets.now) = rw from_at at c.in-Skip.ensures.most in
    record {
      within = omega (arith, most, c.loop-n.invariant.within, length-drop c.loop-n.at c.args.packets.now);
      bundles = c.loop-n.invariant.bundles;
      first = c.loop-n.invariant.first;
      rest = skipped c.args.packets.now c.loop-n.at c.in-Skip.n _ _ c.loop-n.invariant.rest (rw from_at at c.in-Skip.ensures.says);
    }

pub returns-in_err-push-in-Take-clause-full : goal.returns-in_err-push-in-Take-clause-full
returns-in_err-push-in-Take-clause-full c =
    let most : c.in-Take.n ≤ length (drop c.loop-n.at c.args.packets.now) = rw from_at at c.in-Take.ensures.most in
    on_err _ (too_many c.args.packets.now c.loop-n.at c.in-Take.n _ (bundles_of c.loop-n.made) c.loop-n.invariant.rest (rw from_at at c.in-Take.ensures.says) most
    (rw (part_size c.args.packets.now c.loop-n.at c.in-Take.n most) at c.in_err-push-in-Take.ensures.full))

pub loop-n-smaller : goal.loop-n-smaller
loop-n-smaller c =
    let some = takes (drop c.loop-n.at c.args.packets.now) c.in-Take.n (rw from_at at c.in-Take.ensures.says) in
    let most : c.in-Take.n ≤ length (drop c.loop-n.at c.args.packets.now) = rw from_at at c.in-Take.ensures.most in
    omega (arith, some, most, length-drop c.loop-n.at c.args.packets.now)

pub loop-n-preserved : goal.loop-n-preserved
loop-n-preserved c =
    let most : c.in-Take.n ≤ length (drop c.loop-n.at c.args.packets.now) = rw from_at at c.in-Take.ensures.most in
    record {
      within = omega (arith, most, c.loop-n.invariant.within, length-drop c.loop-n.at c.args.packets.now);
      bundles = c.in_ok-push-in-Take.ensures.bundles;
      first = rw c.in_ok-push-in-Take.ensures.items (still_first (bundles_of c.args.made.now) (bundles_of c.loop-n.made) _ c.loop-n.invariant.first);
      rest =
          rw (c.in_ok-push-in-Take.ensures.items, part_at c.args.packets.now c.loop-n.at c.in-Take.n)
          (made_one c.args.packets.now c.loop-n.at c.in-Take.n _ _ c.loop-n.invariant.rest (rw from_at at c.in-Take.ensures.says));
    }
