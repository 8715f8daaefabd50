use Rattle.std.proofs.Common.{◌≡◌, List, ℕ, refl, sym, ap, ◌∙◌}
use Rattle.model.specs.Calls as call
use Rattle.tab.specs.Calls.{called, answer_of, prepared_in}
use Rattle.packet.specs.Refusals.{number}
use Rattle.tab.specs.Answers.{code_of, prepared_of}
use Rattle.door.proofs.Fitting.{prepared-says}
use Rattle.door.proofs.Long.{handles-long, send-table, send-answer}
use Rattle.door.proofs.relay_prepare.Goals as goal

pub returns-in-Some-clause-answer : goal.returns-in-Some-clause-answer
returns-in-Some-clause-answer c =
    let e = c.prepare.ensures.answer ∙ ap (λ (hs : List ℕ). answer_of prepared_in (called (call.prepare c.args.time c.args.k.now c.args.reliable hs) c.args.t.now).answer) c.in-Some.ensures.some in
    prepared-says _ _ _ _ refl e c.answered.ensures.answer

pub returns-in-Some-clause-code : goal.returns-in-Some-clause-code
returns-in-Some-clause-code c =
    c.answered.ensures.code ∙ c.prepare.ensures.code ∙ ap (λ (hs : List ℕ). code_of (called (call.prepare c.args.time c.args.k.now c.args.reliable hs) c.args.t.now).answer) c.in-Some.ensures.some

pub returns-in-None-clause-table : goal.returns-in-None-clause-table
returns-in-None-clause-table c = send-table c.args.time c.args.k.now c.args.reliable _ (handles-long c.args.h.now c.in-None.ensures.none) c.args.t.now

pub returns-in-None-clause-answer : goal.returns-in-None-clause-answer
returns-in-None-clause-answer c =
    c.answered-in-None.ensures.answer ∙ sym (ap prepared_of (send-answer c.args.time c.args.k.now c.args.reliable _ (handles-long c.args.h.now c.in-None.ensures.none) c.args.t.now))

pub returns-in-None-clause-code : goal.returns-in-None-clause-code
returns-in-None-clause-code c =
    c.answered-in-None.ensures.code ∙ ap number c.too_long.ensures ∙ sym (ap code_of (send-answer c.args.time c.args.k.now c.args.reliable _ (handles-long c.args.h.now c.in-None.ensures.none) c.args.t.now))
