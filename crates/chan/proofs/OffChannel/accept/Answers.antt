use Rattle.std.proofs.Common.{sym, ap, ◌∙◌}
use borrow.Author.Tests.{eq-eqb, ne_eqb}
use Rattle.model.specs.State.{OffData, off_with}
use Rattle.model.specs.Record.{off_record}
use Rattle.model.specs.Room.{fits_off}
use Rattle.chan.specs.Channels.{off_of}
use Rattle.chan.specs.Settled.{settled}
use Rattle.chan.proofs.Ruled.{off_cumulative, off_last, off_reliable, off_loose}
use Rattle.chan.proofs.Came.{refused_result, refused_channel, by_result, by_channel}
use Rattle.chan.proofs.OffChannel.accept.Goals as goal

pub returns-then-cumulative-clause-result : goal.returns-then-cumulative-clause-result
returns-then-cumulative-clause-result c = refused_result (settled fits_off (off_record c.args.time c.args.r.now (off_of c.args.self.now)) (off_of c.args.self.now)) _ _ (off_cumulative c.args.time c.args.r.now (off_of c.args.self.now) (eq-eqb _ 1 c.if-cumulative.true))

pub returns-then-cumulative-clause-items : goal.returns-then-cumulative-clause-items
returns-then-cumulative-clause-items c = refused_channel (settled fits_off (off_record c.args.time c.args.r.now (off_of c.args.self.now)) (off_of c.args.self.now)) _ _ (off_cumulative c.args.time c.args.r.now (off_of c.args.self.now) (eq-eqb _ 1 c.if-cumulative.true))

pub returns-in-Err-clause-result : goal.returns-in-Err-clause-result
returns-in-Err-clause-result c = refused_result (settled fits_off (off_record c.args.time c.args.r.now (off_of c.args.self.now)) (off_of c.args.self.now)) _ _ (off_last c.args.time c.args.r.now (off_of c.args.self.now) _ (ne_eqb _ 1 c.if-cumulative.false) (sym c.in-Err.ensures))

pub returns-in-Err-clause-items : goal.returns-in-Err-clause-items
returns-in-Err-clause-items c = ap (λ (d : OffData). off_with d (off_of c.args.self.now)) c.acked_off.ensures.items ∙ refused_channel (settled fits_off (off_record c.args.time c.args.r.now (off_of c.args.self.now)) (off_of c.args.self.now)) _ _ (off_last c.args.time c.args.r.now (off_of c.args.self.now) _ (ne_eqb _ 1 c.if-cumulative.false) (sym c.in-Err.ensures))

pub returns-then-r-eq1-clause-result : goal.returns-then-r-eq1-clause-result
returns-then-r-eq1-clause-result c = by_result (settled fits_off (off_record c.args.time c.args.r.now (off_of c.args.self.now)) (off_of c.args.self.now)) _ _ (off_reliable c.args.time c.args.r.now (off_of c.args.self.now) (ne_eqb _ 1 c.if-cumulative.false) (sym c.in_default.ensures) (eq-eqb _ 1 c.if-r-eq1.true)) c.accept_reliable.ensures.result

pub returns-then-r-eq1-clause-items : goal.returns-then-r-eq1-clause-items
returns-then-r-eq1-clause-items c = by_channel (settled fits_off (off_record c.args.time c.args.r.now (off_of c.args.self.now)) (off_of c.args.self.now)) _ _ (off_reliable c.args.time c.args.r.now (off_of c.args.self.now) (ne_eqb _ 1 c.if-cumulative.false) (sym c.in_default.ensures) (eq-eqb _ 1 c.if-r-eq1.true)) c.accept_reliable.ensures.items

pub returns-clause-result : goal.returns-clause-result
returns-clause-result c = by_result (settled fits_off (off_record c.args.time c.args.r.now (off_of c.args.self.now)) (off_of c.args.self.now)) _ _ (off_loose c.args.time c.args.r.now (off_of c.args.self.now) (ne_eqb _ 1 c.if-cumulative.false) (sym c.in_default.ensures) (ne_eqb _ 1 c.if-r-eq1.false)) c.accept_loose.ensures.result

pub returns-clause-items : goal.returns-clause-items
returns-clause-items c = by_channel (settled fits_off (off_record c.args.time c.args.r.now (off_of c.args.self.now)) (off_of c.args.self.now)) _ _ (off_loose c.args.time c.args.r.now (off_of c.args.self.now) (ne_eqb _ 1 c.if-cumulative.false) (sym c.in_default.ensures) (ne_eqb _ 1 c.if-r-eq1.false)) c.accept_loose.ensures.items
