use Rattle.std.proofs.Common.{Ok, ap, sym, ◌∙◌}
use Rattle.model.specs.State as model
use Rattle.tab.specs.Tables.{state_of}
use Rattle.tab.specs.Calls.{answer_of, view_in}
use Rattle.tab.specs.Found.{made_reply}
use Rattle.tab.proofs.Table.make_off.Goals as goal

pub returns-in-Ok-clause-answer : goal.returns-in-Ok-clause-answer
unfolding answer_of
returns-in-Ok-clause-answer c =
    let s = state_of c.args.self.now in
    let x = model.new_off c.args.address in
    ap Ok (c.view.ensures ∙ ap (λ (m : model.OffChannel). model.off_view m) c.new-c.ensures.items)
    ∙ (λ j. answer_of view_in (made_reply (sym c.in-Ok.ensures.room j) (model.off_view x) (model.put_off x s.protocol) s).answer)

pub returns-in-Err-clause-answer : goal.returns-in-Err-clause-answer
unfolding answer_of
returns-in-Err-clause-answer c =
    let s = state_of c.args.self.now in
    let x = model.new_off c.args.address in
    λ j. answer_of view_in (made_reply (sym c.in-Err.ensures.full j) (model.off_view x) (model.put_off x s.protocol) s).answer
