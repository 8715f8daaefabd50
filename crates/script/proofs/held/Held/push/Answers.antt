-- The places past the new record stay blank.
use Rattle.std.proofs.Common.{arith}
use Rattle.list.proofs.Edits.{pushed}
use Rattle.packet.specs.Data.{no_record}
use Rattle.script.proofs.held.Held.push.Goals as goal

pub returns-then-self-lt-PLACES-clause-held : goal.returns-then-self-lt-PLACES-clause-held
returns-then-self-lt-PLACES-clause-held c =
    λ h. pushed 9 c.args.self.now.count no_record c.args.r c.args.self.now.records h (omega (arith, c.if-self-lt-PLACES.true))
