use Rattle.std.proofs.Common.{◌≡◌, ◌∙◌, eq-eqb, Err, rules}
use Rattle.packet.specs.declared.Refusal.TheVariants.{OverLimit}
use Rattle.tab.proofs.Steps.{on_good, on_set}
use Rattle.tab.proofs.SendPlace.{on_granted_state, on_granted_answer, on_full_state, on_full_answer}
use Rattle.tab.proofs.Table.send_on.Goals as goal

pub send-requires-clause-list : goal.send-requires-clause-list
send-requires-clause-list c = (on_good _ c.requires.table _ c.requires.there _).off.out

pub returns-in_err-first-clause-state : goal.returns-in_err-first-clause-state
returns-in_err-first-clause-state c =
    let o = eq-eqb c.args.key.now.on 1 c.requires.on in
    on_full_state _ c.requires.table _ _ c.requires.place _ _ c.requires.asked c.requires.now o c.requires.there _ _ c.in_err-first.ensures.full c.in_err-first.ensures.unchanged

pub returns-in_err-first-clause-answer : goal.returns-in_err-first-clause-answer
returns-in_err-first-clause-answer c =
    let o = eq-eqb c.args.key.now.on 1 c.requires.on in
    let e : c.from_residual.result ≡ Err OverLimit = search rules in
    e ∙ on_full_answer _ c.requires.table _ _ c.requires.place _ _ c.requires.asked c.requires.now o c.requires.there _ c.send.new.self c.in_err-first.ensures.full

pub returns-clause-table : goal.returns-clause-table
returns-clause-table c = on_set _ c.requires.table _ c.requires.there _ (c.in_ok-first.ensures.channel (on_good _ c.requires.table _ c.requires.there _))

pub returns-clause-state : goal.returns-clause-state
returns-clause-state c =
    let o = eq-eqb c.args.key.now.on 1 c.requires.on in
    on_granted_state _ c.requires.table _ _ c.requires.place _ _ c.requires.asked c.requires.now o c.requires.there _ _ c.in_ok-first.ensures.items (c.in_ok-first.ensures.channel (on_good _ c.requires.table _ c.requires.there _))

pub returns-clause-answer : goal.returns-clause-answer
returns-clause-answer c =
    let o = eq-eqb c.args.key.now.on 1 c.requires.on in
    on_granted_answer _ c.requires.table _ _ c.requires.place _ _ c.requires.asked c.requires.now o c.requires.there _ _ c.in_ok-first.ensures.items (c.in_ok-first.ensures.channel (on_good _ c.requires.table _ c.requires.there _))
    _ _ c.get.result c.answer.ensures c.view-view.ensures (c.get.ensures ∙ c.in_ok-first.ensures.first)
