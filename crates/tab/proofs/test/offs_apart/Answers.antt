use Rattle.std.proofs.Common.{◌<◌, length, sym, ap, arith, rules, ◌∙◌}
use Rattle.std.proofs.lemmas.List.{places}
use Rattle.list.proofs.Pad.{get_d_default}
use Rattle.model.specs.Wellformed.{same_off}
use Rattle.chan.specs.declared.OffChannel.{OffChannel}
use Rattle.chan.specs.Channels.{off_of, no_off_channel}
use Rattle.tab.proofs.Keys.{off_again, off_once, none_left}
use Rattle.tab.proofs.test.offs_apart.Goals as goal

pub returns-then-has_off : goal.returns-then-has_off
returns-then-has_off c =
    let lt : c.loop-i.i < length c.args.s.now = omega arith in
    sym (c.loop-i.invariant ∙ off_again c.args.s.now c.loop-i.i _ _ _ no_off_channel lt (ap (λ (x : OffChannel). x.address) (get_d_default _ _ _ _ lt)) (search (rules, places)) c.has_off.ensures c.if-has_off.true)

pub loop-i-preserved : goal.loop-i-preserved
loop-i-preserved c =
    let lt : c.loop-i.i < length c.args.s.now = omega arith in
    c.loop-i.invariant ∙ off_once c.args.s.now c.loop-i.i _ _ _ no_off_channel lt (ap (λ (x : OffChannel). x.address) (get_d_default _ _ _ _ lt)) (search (rules, places)) c.has_off.ensures c.if-has_off.false

pub returns : goal.returns
returns c = sym (c.loop-i.invariant ∙ none_left same_off off_of c.args.s.now c.loop-i.i (omega arith))
