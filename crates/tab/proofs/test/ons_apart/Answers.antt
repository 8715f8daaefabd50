use Rattle.std.proofs.Common.{◌<◌, length, sym, ap, arith, rules, ◌∙◌}
use Rattle.std.proofs.lemmas.List.{places}
use Rattle.list.proofs.Pad.{get_d_default}
use Rattle.model.specs.Wellformed.{same_on}
use Rattle.chan.specs.declared.OnChannel.{OnChannel}
use Rattle.chan.specs.Channels.{on_of, no_on_channel}
use Rattle.tab.proofs.Keys.{on_again, on_once, none_left}
use Rattle.tab.proofs.test.ons_apart.Goals as goal

pub returns-then-has_on : goal.returns-then-has_on
returns-then-has_on c =
    let lt : c.loop-i.i < length c.args.s.now = omega arith in
    sym (c.loop-i.invariant ∙ on_again c.args.s.now c.loop-i.i _ _ _ _ no_on_channel lt (ap (λ (x : OnChannel). x.address) (get_d_default _ _ _ _ lt)) (ap (λ (x : OnChannel). x.index) (get_d_default _ _ _ _ lt)) (search (rules, places)) c.has_on.ensures c.if-has_on.true)

pub loop-i-preserved : goal.loop-i-preserved
loop-i-preserved c =
    let lt : c.loop-i.i < length c.args.s.now = omega arith in
    c.loop-i.invariant ∙ on_once c.args.s.now c.loop-i.i _ _ _ _ no_on_channel lt (ap (λ (x : OnChannel). x.address) (get_d_default _ _ _ _ lt)) (ap (λ (x : OnChannel). x.index) (get_d_default _ _ _ _ lt)) (search (rules, places)) c.has_on.ensures c.if-has_on.false

pub returns : goal.returns
returns c = sym (c.loop-i.invariant ∙ none_left same_on on_of c.args.s.now c.loop-i.i (omega arith))
