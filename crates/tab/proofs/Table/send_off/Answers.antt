use Rattle.std.proofs.Common.{◌≡◌, ◌∙◌, Err, rules}
use Rattle.packet.specs.declared.Refusal.TheVariants.{OverLimit}
use Rattle.tab.proofs.Steps.{off_good, off_set}
use Rattle.tab.proofs.SendPlace.{off_granted_state, off_granted_answer, off_full_state, off_full_answer}
use Rattle.tab.proofs.Table.send_off.Goals as goal

pub send-requires : goal.send-requires
send-requires c = (off_good _ c.requires.table _ c.requires.there _).off.out

pub returns-in_err-send-clause-state : goal.returns-in_err-send-clause-state
returns-in_err-send-clause-state c =
    off_full_state _ c.requires.table _ _ c.requires.place _ _ c.requires.asked c.requires.now c.requires.off c.requires.there _ _ _ c.alloc-first.ensures.first c.in_err-send.ensures.full c.in_err-send.ensures.unchanged

pub returns-in_err-send-clause-answer : goal.returns-in_err-send-clause-answer
returns-in_err-send-clause-answer c =
    let e : c.from_residual.result ≡ Err OverLimit = search rules in
    e ∙ off_full_answer _ c.requires.table _ _ c.requires.place _ _ c.requires.asked c.requires.now c.requires.off c.requires.there _ c.send.new.self _ c.alloc-first.ensures.first c.in_err-send.ensures.full

pub returns-clause-table : goal.returns-clause-table
returns-clause-table c =
    let h = off_set _ c.requires.table _ c.requires.there _ (c.in_ok-send.ensures.channel (off_good _ c.requires.table _ c.requires.there _)) in
    record { forwarding = h.forwarding; offs = h.offs; each_off = h.each_off; ons = h.ons; each_on = h.each_on }

pub returns-clause-state : goal.returns-clause-state
returns-clause-state c =
    off_granted_state _ c.requires.table _ _ c.requires.place _ _ c.requires.asked c.requires.now c.requires.off c.requires.there _ _ _ c.alloc-first.ensures.first c.in_ok-send.ensures.items (c.in_ok-send.ensures.channel (off_good _ c.requires.table _ c.requires.there _)) _ c.alloc-first.ensures.next

pub returns-clause-answer : goal.returns-clause-answer
returns-clause-answer c =
    off_granted_answer _ c.requires.table _ _ c.requires.place _ _ c.requires.asked c.requires.now c.requires.off c.requires.there _ _ _ c.alloc-first.ensures.first c.in_ok-send.ensures.items (c.in_ok-send.ensures.channel (off_good _ c.requires.table _ c.requires.there _))
    _ _ (rw c.get.ensures at c.answer.ensures) c.view-view.ensures
