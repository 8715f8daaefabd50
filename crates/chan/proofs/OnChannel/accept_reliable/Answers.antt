use Rattle.std.proofs.Common.{◌≡◌, Err, refl, ap, ◌∙◌, rules}
use Rattle.chan.proofs.Fits.{on_fits}
use Rattle.packet.specs.declared.Refusal.TheVariants.{OverLimit}
use Rattle.chan.specs.Channels.{on_of}
use Rattle.chan.proofs.Came.{on_full_result, on_full_items, on_over_result, on_over_items, on_taken_result, on_taken_items, is_full_by, has_room_by}
use Rattle.chan.proofs.OnChannel.accept_reliable.Goals as goal

pub returns-then-is_ack_queue_full-clause-result : goal.returns-then-is_ack_queue_full-clause-result
returns-then-is_ack_queue_full-clause-result c = on_full_result c.args.forwarding c.args.r.now (on_of c.args.self.now) (on_fits c.args.self.now c.requires) _ refl (is_full_by c.args.self.now.off c.requires.off _ c.is_ack_queue_full.ensures c.if-is_ack_queue_full.true)

pub returns-then-is_ack_queue_full-clause-items : goal.returns-then-is_ack_queue_full-clause-items
returns-then-is_ack_queue_full-clause-items c = on_full_items c.args.forwarding c.args.r.now (on_of c.args.self.now) (on_fits c.args.self.now c.requires) _ refl (is_full_by c.args.self.now.off c.requires.off _ c.is_ack_queue_full.ensures c.if-is_ack_queue_full.true)

pub returns-in_err-add_in_reliable_packet-clause-result : goal.returns-in_err-add_in_reliable_packet-clause-result
returns-in_err-add_in_reliable_packet-clause-result c =
    let e : c.from_residual.result ≡ Err OverLimit = search rules in
    e ∙ on_over_result c.args.forwarding c.args.r.now (on_of c.args.self.now) (on_fits c.args.self.now c.requires) _ c.packet.ensures c.in_err-add_in_reliable_packet.ensures.full

pub returns-in_err-add_in_reliable_packet-clause-items : goal.returns-in_err-add_in_reliable_packet-clause-items
returns-in_err-add_in_reliable_packet-clause-items c = ap on_of c.in_err-add_in_reliable_packet.ensures.unchanged ∙ on_over_items c.args.forwarding c.args.r.now (on_of c.args.self.now) (on_fits c.args.self.now c.requires) _ c.packet.ensures c.in_err-add_in_reliable_packet.ensures.full

pub returns-clause-result : goal.returns-clause-result
returns-clause-result c = on_taken_result c.args.forwarding c.args.r.now (on_of c.args.self.now) (on_fits c.args.self.now c.requires) _ c.packet.ensures (has_room_by c.args.self.now.off c.requires.off _ c.is_ack_queue_full.ensures c.if-is_ack_queue_full.false) (c.in_ok-add_in_reliable_packet.ensures.fits c.requires)

pub returns-clause-items : goal.returns-clause-items
returns-clause-items c =
    on_taken_items c.args.forwarding c.args.r.now (on_of c.args.self.now) (on_fits c.args.self.now c.requires) _ c.packet.ensures (has_room_by c.args.self.now.off c.requires.off _ c.is_ack_queue_full.ensures c.if-is_ack_queue_full.false) (c.in_ok-add_in_reliable_packet.ensures.fits c.requires) _ _ _ _
    c.in_ok-add_in_reliable_packet.ensures.items c.acked_on.ensures.items c.queue_ack.ensures.items c.observe.ensures.items
