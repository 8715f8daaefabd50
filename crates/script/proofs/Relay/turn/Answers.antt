-- A line with its line feed, or the last one without.
use Rattle.std.proofs.Common.{rules}
use Rattle.script.specs.Holding.{plain_of}
use Rattle.script.specs.Input.{going}
use Rattle.script.proofs.Input.{turn_line, turn_last}
use Rattle.script.proofs.Relay.turn.Goals as goal

pub returns-then-end-input-clause-turned : goal.returns-then-end-input-clause-turned
returns-then-end-input-clause-turned c =
    turn_line (going (plain_of c.args.self.now) c.args.r) c.args.input.now _ c.step.new.page.buf.now _ _ _ _ (search rules) c.requires c.feed-end.ensures c.if-end-input.true c.step.ensures.says

pub returns-clause-turned : goal.returns-clause-turned
returns-clause-turned c =
    turn_last (going (plain_of c.args.self.now) c.args.r) c.args.input.now _ c.write_bad.new.self.buf.now _ _ _ (search rules) c.requires c.feed-end.ensures c.if-end-input.false c.write_bad.ensures.wrote
