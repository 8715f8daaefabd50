use Rattle.list.proofs.Pad.{length_of_map}
use Rattle.queues.proofs.Firsts.{firsts_are}
use Rattle.queues.proofs.group_test.firsts_apart.Goals as goal

pub returns : goal.returns
returns c = search (firsts_are, length_of_map)
