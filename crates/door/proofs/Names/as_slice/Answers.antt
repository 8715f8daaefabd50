use Rattle.std.proofs.Common.{◌≡◌, ◌≤◌, sym, arith, rules, length}
use Rattle.list.proofs.Pad.{pad-short}
use Rattle.door.proofs.Names.as_slice.Goals as goal

pub returns-clause-some : goal.returns-clause-some
returns-clause-some c =
    let n : length c.args.self.now.numbers ≡ 64 = search rules in
    let few : c.args.self.now.count ≤ 64 = search rules in
    sym (pad-short c.args.self.now.count 0 c.args.self.now.numbers (omega (arith, n, few)))
