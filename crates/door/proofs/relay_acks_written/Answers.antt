use Rattle.std.proofs.Common.{List, ℕ, sym, ap, ◌∙◌}
use Rattle.model.specs.Calls as call
use Rattle.tab.specs.Calls.{called}
use Rattle.packet.specs.Refusals.{number}
use Rattle.tab.specs.Answers.{code_of}
use Rattle.door.proofs.Long.{names-long, wrote-table, wrote-answer}
use Rattle.door.proofs.relay_acks_written.Goals as goal

pub returns-in-Some-clause-code : goal.returns-in-Some-clause-code
returns-in-Some-clause-code c =
    c.code.ensures ∙ c.acks_written.ensures.code ∙ ap (λ (ns : List ℕ). code_of (called (call.acks_written c.args.k.now ns) c.args.t.now).answer) c.in-Some.ensures.some

pub returns-in-None-clause-table : goal.returns-in-None-clause-table
returns-in-None-clause-table c = wrote-table c.args.k.now _ (names-long c.args.n.now c.in-None.ensures.none) c.args.t.now

pub returns-in-None-clause-code : goal.returns-in-None-clause-code
returns-in-None-clause-code c =
    c.code-in-None.ensures ∙ ap number c.too_long.ensures ∙ sym (ap code_of (wrote-answer c.args.k.now _ (names-long c.args.n.now c.in-None.ensures.none) c.args.t.now))
