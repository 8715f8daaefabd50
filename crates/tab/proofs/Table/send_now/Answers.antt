use Rattle.std.proofs.Common.{◌∙◌, sym, ne_eqb}
use Rattle.tab.proofs.Named.{key_absent, key_there}
use Rattle.tab.proofs.SendPlace.{absent_state, absent_answer, loose_state, loose_answer}
use Rattle.tab.proofs.Table.send_now.Goals as goal

pub returns-in-None-clause-state : goal.returns-in-None-clause-state
returns-in-None-clause-state c = absent_state _ c.requires.table _ _ _ _ c.requires.asked c.requires.now (key_absent _ _ _ c.position.ensures.first c.in-None.is)

pub returns-in-None-clause-answer : goal.returns-in-None-clause-answer
returns-in-None-clause-answer c = absent_answer _ c.requires.table _ _ _ _ c.requires.asked c.requires.now (key_absent _ _ _ c.position.ensures.first c.in-None.is)

pub returns-then-reliable-ne1-clause-state : goal.returns-then-reliable-ne1-clause-state
returns-then-reliable-ne1-clause-state c =
    loose_state _ c.requires.table _ _ _ _ c.requires.asked c.requires.now (key_there _ _ _ _ c.position.ensures.first c.in-Some.is) (ne_eqb c.args.reliable 1 c.if-reliable-ne1.true) _ c.send_loose.ensures.state

pub returns-then-reliable-ne1-clause-answer : goal.returns-then-reliable-ne1-clause-answer
returns-then-reliable-ne1-clause-answer c =
    loose_answer _ c.requires.table _ _ _ _ c.requires.asked c.requires.now (key_there _ _ _ _ c.position.ensures.first c.in-Some.is) (ne_eqb c.args.reliable 1 c.if-reliable-ne1.true) _ _ c.send_loose.ensures.answer c.view_at-view.ensures
