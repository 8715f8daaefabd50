use Rattle.tab.proofs.Put.{off_room_is}
use Rattle.tab.proofs.Table.has_off_room.Goals as goal

pub returns : goal.returns
returns c = off_room_is c.args.self.now c.requires
