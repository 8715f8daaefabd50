use Rattle.kept.proofs.Kept.{new-good, kept, kept_run, limits, limits_run}
use Rattle.kept.proofs.keeps_well_formed.Goals as goal

pub returns : goal.returns
returns c = record { fresh = new-good; call = kept; always = kept_run; limits = limits; limits_run = limits_run }
