-- The three commands, and a line that cannot be read.
use Rattle.std.proofs.Common.{Ok, Err, refl, ap, List}
use Rattle.packet.specs.declared.Record.{Record}
use Rattle.reading.specs.declared.Command.TheVariants.{In, Pig, Pop}
use Rattle.reading.specs.declared.Bad.TheVariants.{Line, Arrival}
use Rattle.script.specs.Plain.{plain}
use Rattle.script.specs.Holding.{plain_of}
use Rattle.script.proofs.Says.{as_read, silent, bad}
use Rattle.script.proofs.Relay.step.Goals as goal

pub returns-in-Ok-In-clause-says : goal.returns-in-Ok-In-clause-says
returns-in-Ok-In-clause-says c =
    let a = c.in-Ok-In in
    as_read (plain_of c.args.self.now) c.args.line.now (Ok (In a.time a.address a.r)) _ _ _ _ _ (cc (a.is, a.field-0-is, c.read_line.ensures)) c.deliver.ensures.says

pub returns-in-Ok-Pig-clause-says : goal.returns-in-Ok-Pig-clause-says
returns-in-Ok-Pig-clause-says c =
    let a = c.in-Ok-Pig in
    as_read (plain_of c.args.self.now) c.args.line.now (Ok (Pig a.r)) _ _ _ _ _ (cc (a.is, a.field-0-is, c.read_line.ensures)) (silent _ _ _ _ (ap (λ (l : List Record). plain c.args.self.now.table l) c.push.ensures.items))

pub returns-in-Ok-Pop-clause-says : goal.returns-in-Ok-Pop-clause-says
returns-in-Ok-Pop-clause-says c =
    let a = c.in-Ok-Pop in
    as_read (plain_of c.args.self.now) c.args.line.now (Ok (Pop a.key)) _ _ _ _ _ (cc (a.is, a.field-0-is, c.read_line.ensures)) c.pop.ensures.says

pub returns-in-Err-Line-clause-says : goal.returns-in-Err-Line-clause-says
returns-in-Err-Line-clause-says c =
    let a = c.in-Err-Line in
    as_read (plain_of c.args.self.now) c.args.line.now (Err Line) _ _ _ _ _ (cc (a.is, a.field-0-is, c.read_line.ensures)) (bad _ _ _ _ _ _ refl c.write_bad.ensures.wrote)

pub returns-in-Err-Arrival-clause-says : goal.returns-in-Err-Arrival-clause-says
returns-in-Err-Arrival-clause-says c =
    let a = c.in-Err-Arrival in
    as_read (plain_of c.args.self.now) c.args.line.now (Err Arrival) _ _ _ _ _ (cc (a.is, a.field-0-is, c.read_line.ensures)) (bad _ _ _ _ _ _ c.use_up.ensures.used c.write_bad-in-Err-Arrival.ensures.wrote)
