use Rattle.std.proofs.Common.{◌≡◌, ◌≤◌, sym, arith, rules, length}
use Rattle.list.proofs.Pad.{pad-short}
use Rattle.door.proofs.Handles.as_slice.Goals as goal

pub returns-clause-some : goal.returns-clause-some
returns-clause-some c =
    let n : length c.args.self.now.handles ≡ 16 = search rules in
    let few : c.args.self.now.count ≤ 16 = search rules in
    sym (pad-short c.args.self.now.count 0 c.args.self.now.handles (omega (arith, n, few)))
