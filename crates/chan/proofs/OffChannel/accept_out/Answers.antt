use Rattle.std.proofs.Common.{◌≡◌, Err, ap, ◌∙◌, rules}
use Rattle.chan.proofs.Fits.{data_fits_as}
use Rattle.packet.specs.Data.{is_set}
use Rattle.packet.specs.declared.Refusal.TheVariants.{OverLimit}
use Rattle.model.specs.State.{OffData, off_with}
use Rattle.model.specs.Rust.{forward_off}
use Rattle.model.specs.Room.{fits_off}
use Rattle.chan.specs.Channels.{off_of}
use Rattle.chan.specs.Settled.{settled}
use Rattle.chan.proofs.Came.{refused_result, refused_channel, kept_result, kept_channel, off_out_cumulative, off_out_over, off_out_kept, some_set, none_set}
use Rattle.chan.proofs.OffChannel.accept_out.Goals as goal

pub returns-in-Some-clause-result : goal.returns-in-Some-clause-result
returns-in-Some-clause-result c = refused_result (settled fits_off (forward_off (is_set c.args.r.now.hascumulative) c.args.time c.args.r.now (off_of c.args.self.now)) (off_of c.args.self.now)) _ _ (off_out_cumulative c.args.time c.args.r.now (off_of c.args.self.now) (some_set c.args.r.now _ c.in-Some.ensures))

pub returns-in-Some-clause-items : goal.returns-in-Some-clause-items
returns-in-Some-clause-items c = refused_channel (settled fits_off (forward_off (is_set c.args.r.now.hascumulative) c.args.time c.args.r.now (off_of c.args.self.now)) (off_of c.args.self.now)) _ _ (off_out_cumulative c.args.time c.args.r.now (off_of c.args.self.now) (some_set c.args.r.now _ c.in-Some.ensures))

pub returns-in_err-forwarded-in-None-clause-result : goal.returns-in_err-forwarded-in-None-clause-result
returns-in_err-forwarded-in-None-clause-result c =
    let e : c.from_residual.result ≡ Err OverLimit = search rules in
    e ∙ refused_result (settled fits_off (forward_off (is_set c.args.r.now.hascumulative) c.args.time c.args.r.now (off_of c.args.self.now)) (off_of c.args.self.now)) _ _ (off_out_over c.args.time c.args.r.now (off_of c.args.self.now) (none_set c.args.r.now c.in-None.ensures) c.in_err-forwarded-in-None.ensures.full)

pub returns-in_err-forwarded-in-None-clause-items : goal.returns-in_err-forwarded-in-None-clause-items
returns-in_err-forwarded-in-None-clause-items c =
    ap (λ d. off_of (record c.args.self.now { off = d })) c.in_err-forwarded-in-None.ensures.unchanged ∙ refused_channel (settled fits_off (forward_off (is_set c.args.r.now.hascumulative) c.args.time c.args.r.now (off_of c.args.self.now)) (off_of c.args.self.now)) _ _ (off_out_over c.args.time c.args.r.now (off_of c.args.self.now) (none_set c.args.r.now c.in-None.ensures) c.in_err-forwarded-in-None.ensures.full)

pub returns-in_ok-forwarded-in-None-clause-result : goal.returns-in_ok-forwarded-in-None-clause-result
returns-in_ok-forwarded-in-None-clause-result c = kept_result (settled fits_off (forward_off (is_set c.args.r.now.hascumulative) c.args.time c.args.r.now (off_of c.args.self.now)) (off_of c.args.self.now)) _ (off_out_kept c.args.time c.args.r.now (off_of c.args.self.now) (none_set c.args.r.now c.in-None.ensures) (data_fits_as _ _ c.in_ok-forwarded-in-None.ensures.data c.in_ok-forwarded-in-None.ensures.items))

pub returns-in_ok-forwarded-in-None-clause-items : goal.returns-in_ok-forwarded-in-None-clause-items
returns-in_ok-forwarded-in-None-clause-items c =
    ap (λ (d : OffData). off_with d (off_of c.args.self.now)) c.in_ok-forwarded-in-None.ensures.items
    ∙ kept_channel (settled fits_off (forward_off (is_set c.args.r.now.hascumulative) c.args.time c.args.r.now (off_of c.args.self.now)) (off_of c.args.self.now)) _ (off_out_kept c.args.time c.args.r.now (off_of c.args.self.now) (none_set c.args.r.now c.in-None.ensures) (data_fits_as _ _ c.in_ok-forwarded-in-None.ensures.data c.in_ok-forwarded-in-None.ensures.items))
