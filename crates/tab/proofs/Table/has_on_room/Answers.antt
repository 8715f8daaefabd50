use Rattle.tab.proofs.Put.{on_room_is}
use Rattle.tab.proofs.Table.has_on_room.Goals as goal

pub returns : goal.returns
returns c = on_room_is c.args.self.now c.requires
