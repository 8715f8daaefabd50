use Rattle.std.proofs.Common.{ap, sym, ◌∙◌}
use Rattle.model.specs.Group.{Stored}
use Rattle.chan.specs.Channels.{data_of}
use Rattle.chan.specs.Settled.{settled_data}
use Rattle.chan.proofs.Adding.{plain, at_is, new_is, stands_there}
use Rattle.chan.proofs.OffData.add_in_packet.Goals as goal

pub returns-then-p-ne1-clause-answer : goal.returns-then-p-ne1-clause-answer
returns-then-p-ne1-clause-answer c =
    let m = data_of c.args.self.now in
    c.add_one.ensures.given.answer ∙ ap (λ (o : Stored). (settled_data o m).result) (sym (plain c.args.p c.args.time m c.if-p-ne1.true))

pub returns-then-p-ne1-clause-items : goal.returns-then-p-ne1-clause-items
returns-then-p-ne1-clause-items c =
    let m = data_of c.args.self.now in
    c.add_one.ensures.given.items ∙ ap (λ (o : Stored). (settled_data o m).channel) (sym (plain c.args.p c.args.time m c.if-p-ne1.true))

pub add_at-requires-clause-there : goal.add_at-requires-clause-there
add_at-requires-clause-there c = stands_there c.args.p c.args.time (data_of c.args.self.now) c.in-Some.g _ c.position.ensures c.in-Some.is

pub returns-in-Some-clause-answer : goal.returns-in-Some-clause-answer
returns-in-Some-clause-answer c =
    let m = data_of c.args.self.now in
    let is = at_is c.args.p c.args.time m c.in-Some.g _ c.position.ensures c.in-Some.is c.if-p-ne1.false _ c.distance-place.ensures in
    c.add_at.ensures.given.answer ∙ ap (λ (o : Stored). (settled_data o m).result) (sym is)

pub returns-in-Some-clause-items : goal.returns-in-Some-clause-items
returns-in-Some-clause-items c =
    let m = data_of c.args.self.now in
    let is = at_is c.args.p c.args.time m c.in-Some.g _ c.position.ensures c.in-Some.is c.if-p-ne1.false _ c.distance-place.ensures in
    c.add_at.ensures.given.items ∙ ap (λ (o : Stored). (settled_data o m).channel) (sym is)

pub returns-in-None-clause-answer : goal.returns-in-None-clause-answer
returns-in-None-clause-answer c =
    let m = data_of c.args.self.now in
    let is = new_is c.args.p c.args.time m c.if-p-ne1.false _ _ c.position.ensures c.in-None.is c.distance-place.ensures in
    c.add_new.ensures.given.answer ∙ ap (λ (o : Stored). (settled_data o m).result) (sym is)

pub returns-in-None-clause-items : goal.returns-in-None-clause-items
returns-in-None-clause-items c =
    let m = data_of c.args.self.now in
    let is = new_is c.args.p c.args.time m c.if-p-ne1.false _ _ c.position.ensures c.in-None.is c.distance-place.ensures in
    c.add_new.ensures.given.items ∙ ap (λ (o : Stored). (settled_data o m).channel) (sym is)
