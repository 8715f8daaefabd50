use Rattle.std.proofs.Common.{◌≡◌, Err, ap, ◌∙◌, rules}
use Rattle.chan.proofs.Fits.{on_fits, data_fits_as}
use Rattle.packet.specs.declared.Refusal.TheVariants.{OverLimit}
use Rattle.model.specs.State.{OffData, on_with}
use Rattle.model.specs.Record.{granted}
use Rattle.model.specs.Rust.{forward_on}
use Rattle.model.specs.Room.{fits_on}
use Rattle.chan.specs.Channels.{on_of}
use Rattle.chan.specs.Settled.{settled}
use Rattle.chan.proofs.Came.{refused_result, refused_channel, kept_result, kept_channel, out_over, out_kept}
use Rattle.chan.proofs.OnChannel.accept_out.Goals as goal

pub returns-in_err-forwarded-clause-result : goal.returns-in_err-forwarded-clause-result
returns-in_err-forwarded-clause-result c =
    let e : c.from_residual.result ≡ Err OverLimit = search rules in
    e ∙ refused_result (settled fits_on (granted (forward_on c.args.time c.args.r.now (on_of c.args.self.now))) (on_of c.args.self.now)) _ _ (out_over c.args.time c.args.r.now (on_of c.args.self.now) (on_fits c.args.self.now c.requires) c.in_err-forwarded.ensures.full)

pub returns-in_err-forwarded-clause-items : goal.returns-in_err-forwarded-clause-items
returns-in_err-forwarded-clause-items c =
    ap (λ d. on_of (record c.args.self.now { off = d })) c.in_err-forwarded.ensures.unchanged ∙ refused_channel (settled fits_on (granted (forward_on c.args.time c.args.r.now (on_of c.args.self.now))) (on_of c.args.self.now)) _ _ (out_over c.args.time c.args.r.now (on_of c.args.self.now) (on_fits c.args.self.now c.requires) c.in_err-forwarded.ensures.full)

pub returns-clause-result : goal.returns-clause-result
returns-clause-result c = kept_result (settled fits_on (granted (forward_on c.args.time c.args.r.now (on_of c.args.self.now))) (on_of c.args.self.now)) _ (out_kept c.args.time c.args.r.now (on_of c.args.self.now) (on_fits c.args.self.now c.requires) (data_fits_as _ _ c.in_ok-forwarded.ensures.data c.in_ok-forwarded.ensures.items))

pub returns-clause-items : goal.returns-clause-items
returns-clause-items c =
    ap (λ (d : OffData). on_with d (on_of c.args.self.now)) c.in_ok-forwarded.ensures.items
    ∙ kept_channel (settled fits_on (granted (forward_on c.args.time c.args.r.now (on_of c.args.self.now))) (on_of c.args.self.now)) _ (out_kept c.args.time c.args.r.now (on_of c.args.self.now) (on_fits c.args.self.now c.requires) (data_fits_as _ _ c.in_ok-forwarded.ensures.data c.in_ok-forwarded.ensures.items))
