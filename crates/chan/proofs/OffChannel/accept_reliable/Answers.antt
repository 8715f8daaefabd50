use Rattle.std.proofs.Common.{◌≡◌, Err, ap, ◌∙◌, rules}
use Rattle.chan.proofs.Fits.{off_fits}
use Rattle.model.specs.State.{OffData}
use Rattle.chan.specs.Channels.{off_of}
use Rattle.chan.proofs.Came.{reliable_err_result, reliable_err_channel, reliable_err_items, reliable_full_result, reliable_full_channel, acks_kept, reliable_ok_result, reliable_ok_items, is_full_by, has_room_by, room_left}
use Rattle.chan.proofs.OffChannel.accept_reliable.Goals as goal

pub returns-in-Err-clause-result : goal.returns-in-Err-clause-result
returns-in-Err-clause-result c = reliable_err_result c.args.time c.args.r.now (off_of c.args.self.now) (off_fits c.args.self.now c.requires) _ c.packet.ensures _ c.in-Err.ensures.items _ c.in-Err.ensures.answer

pub returns-in-Err-clause-items : goal.returns-in-Err-clause-items
returns-in-Err-clause-items c = reliable_err_channel c.args.time c.args.r.now (off_of c.args.self.now) (off_fits c.args.self.now c.requires) _ c.packet.ensures _ c.in-Err.ensures.items _ c.in-Err.ensures.answer

pub returns-in-Ok-clause-result : goal.returns-in-Ok-clause-result
returns-in-Ok-clause-result c = reliable_full_result c.args.time c.args.r.now (off_of c.args.self.now) (off_fits c.args.self.now c.requires) _ c.packet.ensures _ c.in-Ok.ensures.items (is_full_by c.args.self.now.off c.requires.off _ c.is_ack_queue_full.ensures c.if-is_ack_queue_full.true) c.in-Ok.ensures.answer

pub returns-in-Ok-clause-items : goal.returns-in-Ok-clause-items
returns-in-Ok-clause-items c = reliable_full_channel c.args.time c.args.r.now (off_of c.args.self.now) (off_fits c.args.self.now c.requires) _ c.packet.ensures _ c.in-Ok.ensures.items (is_full_by c.args.self.now.off c.requires.off _ c.is_ack_queue_full.ensures c.if-is_ack_queue_full.true) c.in-Ok.ensures.answer

pub returns-in_err-add_in_packet-clause-result : goal.returns-in_err-add_in_packet-clause-result
returns-in_err-add_in_packet-clause-result c =
    let e : c.from_residual.result ≡ Err c.in_err-add_in_packet.field-0.0 = search rules in
    e ∙ reliable_err_result c.args.time c.args.r.now (off_of c.args.self.now) (off_fits c.args.self.now c.requires) _ c.packet-2.ensures _ c.in_err-add_in_packet.ensures.items _ c.in_err-add_in_packet.ensures.answer

pub returns-in_err-add_in_packet-clause-items : goal.returns-in_err-add_in_packet-clause-items
returns-in_err-add_in_packet-clause-items c = reliable_err_items c.args.time c.args.r.now (off_of c.args.self.now) (off_fits c.args.self.now c.requires) _ c.packet-2.ensures _ c.in_err-add_in_packet.ensures.items _ c.in_err-add_in_packet.ensures.answer

pub queue_ack-requires-clause-room : goal.queue_ack-requires-clause-room
queue_ack-requires-clause-room c =
    room_left c.args.self.now.off _ (c.acked_off.ensures.data (c.in_ok-add_in_packet.ensures.data c.requires.off)) (has_room_by c.args.self.now.off c.requires.off _ c.is_ack_queue_full.ensures c.if-is_ack_queue_full.false)
    (ap (λ (d : OffData). d.acks) c.acked_off.ensures.items ∙ acks_kept c.args.time c.args.r.now (off_of c.args.self.now) (off_fits c.args.self.now c.requires) _ c.packet-2.ensures _ c.in_ok-add_in_packet.ensures.items)

pub returns-clause-result : goal.returns-clause-result
returns-clause-result c = reliable_ok_result c.args.time c.args.r.now (off_of c.args.self.now) (off_fits c.args.self.now c.requires) _ c.packet-2.ensures _ c.in_ok-add_in_packet.ensures.items (has_room_by c.args.self.now.off c.requires.off _ c.is_ack_queue_full.ensures c.if-is_ack_queue_full.false) c.in_ok-add_in_packet.ensures.answer

pub returns-clause-items : goal.returns-clause-items
returns-clause-items c =
    reliable_ok_items c.args.time c.args.r.now (off_of c.args.self.now) (off_fits c.args.self.now c.requires) _ c.packet-2.ensures _ c.in_ok-add_in_packet.ensures.items (has_room_by c.args.self.now.off c.requires.off _ c.is_ack_queue_full.ensures c.if-is_ack_queue_full.false) c.in_ok-add_in_packet.ensures.answer _ _
    c.acked_off.ensures.items c.queue_ack.ensures.items
