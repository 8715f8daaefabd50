use Rattle.std.proofs.Common.{◌≡◌, arith, length, take, length-take-le}
use Rattle.std.specs.Io.KnownBytes.{Appends}
use Rattle.driver.proofs.Answering.{answers_whole}
use Rattle.driver.proofs.drive.Goals as goal

pub returns : goal.returns
returns g c =
    let n = c.in_ok-n.n in
    let bs = take n c.read_full.new.buf in
    let m : length bs ≡ n = length-take-le n c.read_full.new.buf c.in_ok-n.ensures.within in
    answers_whole c.answer.result _ _ bs (λ z. Appends (g.W.Write.contents c.args.to.now) (g.W.Write.contents c.answer.new.to) z) (omega (arith, m, c.in_ok-n.ensures.within)) c.in_ok-n.ensures.bytes (λ h. c.in_ok-n.ensures.end (omega (arith, m, h))) c.answer.ensures
