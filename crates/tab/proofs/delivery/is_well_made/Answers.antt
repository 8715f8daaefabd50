use Rattle.tab.proofs.Delivered.{made_last, made_empty}
use Rattle.tab.proofs.delivery.is_well_made.Goals as goal

pub returns-in-None : goal.returns-in-None
returns-in-None c = made_empty c.args.records.now c.in-None.ensures.value

pub returns-in-Some : goal.returns-in-Some
returns-in-Some c = made_last c.args.records.now c.in-Some.r.now _ c.if-records-gt-MAX_RECORDS.false c.in-Some.ensures.value c.well_made.ensures
