use Rattle.std.proofs.Common.{◌∙◌, sym, arith}
use Rattle.chan.proofs.Sent.{few_due, as_many}
use Rattle.chan.proofs.OffChannel.count_due.Goals as goal

pub returns-clause-rows : goal.returns-clause-rows
returns-clause-rows c = c.count_due.ensures ∙ sym (as_many _ _)

pub returns-clause-few : goal.returns-clause-few
returns-clause-few c = omega (arith, c.count_due.ensures, few_due _ c.args.clock c.requires.off.out)
