use Rattle.list.proofs.Edits.{on_err}
use Rattle.model.specs.Reorder.{arrive}
use Rattle.chan.specs.Channels.{on_of}
use Rattle.chan.specs.Arriving.{reliable}
use Rattle.chan.proofs.Fits.{beyond_on, on_fits_as, side_within_as, side_kept}
use Rattle.chan.proofs.OnChannel.add_in_reliable_packet.Goals as goal

pub returns-in_err-add_alone-clause-full : goal.returns-in_err-add_alone-clause-full
returns-in_err-add_alone-clause-full c = on_err _ (beyond_on (arrive (reliable c.args.self.now) c.args.p) (on_of c.args.self.now) c.in_err-add_alone.ensures.full)

pub returns-then-comes_alone-clause-fits : goal.returns-then-comes_alone-clause-fits
returns-then-comes_alone-clause-fits c w = on_fits_as _ _ (side_kept _ _ c.in_ok-add_alone.ensures.others c.in_ok-add_alone.ensures.side w) c.in_ok-add_alone.ensures.items

pub returns-then-comes_alone-clause-within : goal.returns-then-comes_alone-clause-within
returns-then-comes_alone-clause-within c = side_within_as _ _ (on_of c.args.self.now) c.in_ok-add_alone.ensures.side c.in_ok-add_alone.ensures.items

pub returns-in_err-add_by_queue-clause-full : goal.returns-in_err-add_by_queue-clause-full
returns-in_err-add_by_queue-clause-full c = on_err _ (beyond_on (arrive (reliable c.args.self.now) c.args.p) (on_of c.args.self.now) c.in_err-add_by_queue.ensures.full)

pub returns-clause-fits : goal.returns-clause-fits
returns-clause-fits c w = on_fits_as _ _ (side_kept _ _ c.in_ok-add_by_queue.ensures.others c.in_ok-add_by_queue.ensures.side w) c.in_ok-add_by_queue.ensures.items

pub returns-clause-within : goal.returns-clause-within
returns-clause-within c = side_within_as _ _ (on_of c.args.self.now) c.in_ok-add_by_queue.ensures.side c.in_ok-add_by_queue.ensures.items
