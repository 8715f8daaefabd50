use Rattle.std.proofs.Common.{arith, ◌∙◌, ◌≤◌, length}
use Rattle.writing.proofs.Places.{number_made, number_room}
use Rattle.writing.proofs.Page.number.Goals as goal

pub text-requires : goal.text-requires
text-requires c =
    let h : length c.as_bytes.result.now ≤ 10 = number_room _ c.args.n c.ranges.n (c.as_bytes.ensures.value ∙ c.format.ensures.text) in
    omega (arith, h, c.requires)

pub returns-clause-wrote : goal.returns-clause-wrote
returns-clause-wrote c =
    number_made _ _ _ _ _ c.args.n c.ranges.n (c.as_bytes.ensures.value ∙ c.format.ensures.text) c.text.ensures.wrote
