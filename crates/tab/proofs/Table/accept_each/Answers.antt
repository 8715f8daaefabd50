use Rattle.std.proofs.Common.{◌≡◌, Ok, Err, true, false, refl, sym, ap, ◌∙◌, arith, rules, length, ◌≤◌, ◌<◌}
use Rattle.tab.specs.Tables.{state_of}
use Rattle.tab.proofs.Delivered.{played_start, played_step, played_state, played_done}
use Rattle.tab.proofs.Table.accept_each.Goals as goal

pub loop-r-init : goal.loop-r-init
loop-r-init c = record { table = c.requires.table; played = played_start c.args.time c.args.address c.args.records.now (state_of c.args.self.now) _ c.none-done.ensures }

pub loop-r-preserved : goal.loop-r-preserved
loop-r-preserved c = record {
  table = c.accept_record-result.ensures.table;
  played = played_step c.args.time c.args.address c.args.records.now _ _ _ _ c.loop-r.invariant.played _ _ _ _ c.loop-r-test.true c.accept_record-result.ensures.result c.accept_record-result.ensures.state c.then-done.ensures;
}

pub returns-clause-delivery : goal.returns-clause-delivery
returns-clause-delivery c = played_done c.args.time c.args.address c.args.records.now _ _ _ _ c.loop-r.invariant.played c.loop-r-test.false

pub returns-clause-state : goal.returns-clause-state
returns-clause-state c = played_state c.args.time c.args.address c.args.records.now _ _ _ _ c.loop-r.invariant.played c.loop-r-test.false
