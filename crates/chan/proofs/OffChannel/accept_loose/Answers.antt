use Rattle.std.proofs.Common.{◌≡◌, Err, ◌∙◌, rules}
use Rattle.chan.proofs.Fits.{off_fits}
use Rattle.chan.specs.Channels.{off_of}
use Rattle.chan.proofs.Came.{off_err_result, off_err_items, off_ok_result, off_ok_items}
use Rattle.chan.proofs.OffChannel.accept_loose.Goals as goal

pub returns-in_err-add_in_packet-clause-result : goal.returns-in_err-add_in_packet-clause-result
returns-in_err-add_in_packet-clause-result c =
    let e : c.from_residual.result ≡ Err c.in_err-add_in_packet.field-0.0 = search rules in
    e ∙ off_err_result c.args.time c.args.r.now (off_of c.args.self.now) (off_fits c.args.self.now c.requires) _ c.packet.ensures _ c.in_err-add_in_packet.ensures.items _ c.in_err-add_in_packet.ensures.answer

pub returns-in_err-add_in_packet-clause-items : goal.returns-in_err-add_in_packet-clause-items
returns-in_err-add_in_packet-clause-items c = off_err_items c.args.time c.args.r.now (off_of c.args.self.now) (off_fits c.args.self.now c.requires) _ c.packet.ensures _ c.in_err-add_in_packet.ensures.items _ c.in_err-add_in_packet.ensures.answer

pub returns-clause-result : goal.returns-clause-result
returns-clause-result c = off_ok_result c.args.time c.args.r.now (off_of c.args.self.now) (off_fits c.args.self.now c.requires) _ c.packet.ensures _ c.in_ok-add_in_packet.ensures.items c.in_ok-add_in_packet.ensures.answer

pub returns-clause-items : goal.returns-clause-items
returns-clause-items c = off_ok_items c.args.time c.args.r.now (off_of c.args.self.now) (off_fits c.args.self.now c.requires) _ c.packet.ensures _ c.in_ok-add_in_packet.ensures.items c.in_ok-add_in_packet.ensures.answer _ c.acked_off.ensures.items
