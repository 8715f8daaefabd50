use Rattle.std.proofs.Common.{sym, ap, ◌∙◌}
use borrow.Author.Tests.{eq-eqb, ne_eqb}
use Rattle.model.specs.State.{OffData, on_with}
use Rattle.model.specs.Record.{on_record}
use Rattle.model.specs.Room.{fits_on}
use Rattle.chan.specs.Channels.{on_of}
use Rattle.chan.specs.Settled.{settled}
use Rattle.chan.proofs.Ruled.{on_old, on_last, on_reliable, on_loose}
use Rattle.chan.proofs.Came.{refused_result, refused_channel, by_result, by_channel, ltb_yes, ltb_no}
use Rattle.chan.proofs.OnChannel.accept.Goals as goal

pub returns-then-version_of-self-clause-result : goal.returns-then-version_of-self-clause-result
returns-then-version_of-self-clause-result c = refused_result (settled fits_on (on_record c.args.forwarding c.args.time c.args.r.now (on_of c.args.self.now)) (on_of c.args.self.now)) _ _ (on_old c.args.forwarding c.args.time c.args.r.now (on_of c.args.self.now) (ltb_yes _ _ _ c.version_of.ensures c.if-version_of-self.true))

pub returns-then-version_of-self-clause-items : goal.returns-then-version_of-self-clause-items
returns-then-version_of-self-clause-items c = refused_channel (settled fits_on (on_record c.args.forwarding c.args.time c.args.r.now (on_of c.args.self.now)) (on_of c.args.self.now)) _ _ (on_old c.args.forwarding c.args.time c.args.r.now (on_of c.args.self.now) (ltb_yes _ _ _ c.version_of.ensures c.if-version_of-self.true))

pub returns-in-Err-clause-result : goal.returns-in-Err-clause-result
returns-in-Err-clause-result c = refused_result (settled fits_on (on_record c.args.forwarding c.args.time c.args.r.now (on_of c.args.self.now)) (on_of c.args.self.now)) _ _ (on_last c.args.forwarding c.args.time c.args.r.now (on_of c.args.self.now) _ (ltb_no _ _ _ c.version_of.ensures c.if-version_of-self.false) (sym c.in-Err.ensures))

pub returns-in-Err-clause-items : goal.returns-in-Err-clause-items
returns-in-Err-clause-items c = ap (λ (d : OffData). on_with d (on_of c.args.self.now)) c.acked_on.ensures.items ∙ refused_channel (settled fits_on (on_record c.args.forwarding c.args.time c.args.r.now (on_of c.args.self.now)) (on_of c.args.self.now)) _ _ (on_last c.args.forwarding c.args.time c.args.r.now (on_of c.args.self.now) _ (ltb_no _ _ _ c.version_of.ensures c.if-version_of-self.false) (sym c.in-Err.ensures))

pub returns-then-r-eq1-clause-result : goal.returns-then-r-eq1-clause-result
returns-then-r-eq1-clause-result c = by_result (settled fits_on (on_record c.args.forwarding c.args.time c.args.r.now (on_of c.args.self.now)) (on_of c.args.self.now)) _ _ (on_reliable c.args.forwarding c.args.time c.args.r.now (on_of c.args.self.now) (ltb_no _ _ _ c.version_of.ensures c.if-version_of-self.false) (sym c.in_default.ensures) (eq-eqb _ 1 c.if-r-eq1.true)) c.accept_reliable.ensures.result

pub returns-then-r-eq1-clause-items : goal.returns-then-r-eq1-clause-items
returns-then-r-eq1-clause-items c = by_channel (settled fits_on (on_record c.args.forwarding c.args.time c.args.r.now (on_of c.args.self.now)) (on_of c.args.self.now)) _ _ (on_reliable c.args.forwarding c.args.time c.args.r.now (on_of c.args.self.now) (ltb_no _ _ _ c.version_of.ensures c.if-version_of-self.false) (sym c.in_default.ensures) (eq-eqb _ 1 c.if-r-eq1.true)) c.accept_reliable.ensures.items

pub returns-clause-result : goal.returns-clause-result
returns-clause-result c = by_result (settled fits_on (on_record c.args.forwarding c.args.time c.args.r.now (on_of c.args.self.now)) (on_of c.args.self.now)) _ _ (on_loose c.args.forwarding c.args.time c.args.r.now (on_of c.args.self.now) (ltb_no _ _ _ c.version_of.ensures c.if-version_of-self.false) (sym c.in_default.ensures) (ne_eqb _ 1 c.if-r-eq1.false)) c.accept_loose.ensures.result

pub returns-clause-items : goal.returns-clause-items
returns-clause-items c = by_channel (settled fits_on (on_record c.args.forwarding c.args.time c.args.r.now (on_of c.args.self.now)) (on_of c.args.self.now)) _ _ (on_loose c.args.forwarding c.args.time c.args.r.now (on_of c.args.self.now) (ltb_no _ _ _ c.version_of.ensures c.if-version_of-self.false) (sym c.in_default.ensures) (ne_eqb _ 1 c.if-r-eq1.false)) c.accept_loose.ensures.items
