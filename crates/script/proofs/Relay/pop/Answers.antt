-- A refusal, no bundle, or one that has room in 64 places.
use Rattle.std.proofs.Common.{◌≤◌, sym, ap, ◌∙◌, Ok, Err, arith, rules, length, length-take-le}
use Rattle.std.specs.declared.option.Option.TheVariants.{None, Some}
use Rattle.script.specs.Holding.{plain_of}
use Rattle.script.proofs.Says.{numbered, wider, popped_says, popped_short}
use Rattle.script.proofs.Relay.pop.Goals as goal

pub slice_bounds-handles-end : goal.slice_bounds-handles-end
slice_bounds-handles-end c =
    let e = sym (c.in-Ok-Some.is ∙ ap Ok c.in-Ok-Some.field-0-is) ∙ c.next_bundle.ensures.answer in
    let m : c.in-Ok-Some.n ≤ 64 = popped_short (plain_of c.args.self.now) c.args.key.now c.next_bundle.new.self c.next_bundle.new.lent (Ok (Some c.in-Ok-Some.n)) c.args.page.now.buf.now c.args.page.now.buf.now 0 0 e in
    search rules

pub slice_bounds-write_bundle-end : goal.slice_bounds-write_bundle-end
slice_bounds-write_bundle-end c =
    let e = sym (c.in-Ok-Some.is ∙ ap Ok c.in-Ok-Some.field-0-is) ∙ c.next_bundle.ensures.answer in
    let m : c.in-Ok-Some.n ≤ 64 = popped_short (plain_of c.args.self.now) c.args.key.now c.next_bundle.new.self c.next_bundle.new.lent (Ok (Some c.in-Ok-Some.n)) c.args.page.now.buf.now c.args.page.now.buf.now 0 0 e in
    let h : c.in-Ok-Some.n ≤ length c.next_bundle.new.lent = search rules in
    sym (length-take-le _ _ h)

pub write_bundle-requires : goal.write_bundle-requires
write_bundle-requires c =
    let e = sym (c.in-Ok-Some.is ∙ ap Ok c.in-Ok-Some.field-0-is) ∙ c.next_bundle.ensures.answer in
    let m : c.in-Ok-Some.n ≤ 64 = popped_short (plain_of c.args.self.now) c.args.key.now c.next_bundle.new.self c.next_bundle.new.lent (Ok (Some c.in-Ok-Some.n)) c.args.page.now.buf.now c.args.page.now.buf.now 0 0 e in
    let h : c.in-Ok-Some.n ≤ length c.next_bundle.new.lent = search rules in
    record { few = omega (arith, m, length-take-le c.in-Ok-Some.n c.next_bundle.new.lent h); room = c.requires }

pub returns-in-Ok-None-clause-says : goal.returns-in-Ok-None-clause-says
returns-in-Ok-None-clause-says c =
    popped_says (plain_of c.args.self.now) c.args.key.now _ _ (Ok None) _ _ _ _ c.next_bundle.ensures.table (sym (c.in-Ok-None.is ∙ ap Ok c.in-Ok-None.field-0-is) ∙ c.next_bundle.ensures.answer) c.next_bundle.ensures.lent (wider _ _ _ _ _ c.write_none.ensures.wrote)

pub returns-in-Ok-Some-clause-says : goal.returns-in-Ok-Some-clause-says
returns-in-Ok-Some-clause-says c =
    popped_says (plain_of c.args.self.now) c.args.key.now _ _ (Ok (Some c.in-Ok-Some.n)) _ _ _ _ c.next_bundle.ensures.table (sym (c.in-Ok-Some.is ∙ ap Ok c.in-Ok-Some.field-0-is) ∙ c.next_bundle.ensures.answer) c.next_bundle.ensures.lent c.write_bundle.ensures.wrote

pub returns-in-Err-clause-says : goal.returns-in-Err-clause-says
returns-in-Err-clause-says c =
    popped_says (plain_of c.args.self.now) c.args.key.now _ _ (Err c.in-Err.refusal) _ _ _ _ c.next_bundle.ensures.table (sym c.in-Err.is ∙ c.next_bundle.ensures.answer) c.next_bundle.ensures.lent (wider _ _ _ _ _ (numbered _ _ _ _ _ _ c.code.ensures c.write_no.ensures.wrote))
