use Rattle.std.proofs.Common.{arith, refl}
use Rattle.list.proofs.Edits.{on_err}
use Rattle.tab.proofs.Steps.{off_push, off_new, off_room, off_full}
use Rattle.tab.proofs.Table.add_off.Goals as goal

pub returns-in_err-push-clause-full : goal.returns-in_err-push-clause-full
returns-in_err-push-clause-full c =
    on_err _ (off_full c.args.self.now c.requires.table (omega (arith, c.requires.table.offs.size, c.in_err-push.ensures.full)))

pub returns-clause-table : goal.returns-clause-table
returns-clause-table c =
    off_push c.args.self.now c.requires.table _ _ _ _ _ c.in_ok-push.ensures.items c.requires.table.offs.size c.none.ensures c.in_ok-push.ensures.list c.requires.channel

pub returns-clause-state : goal.returns-clause-state
returns-clause-state c =
    off_new c.args.self.now c.requires.table _ 4 c.none.result _ _ c.in_ok-push.ensures.items _ _ c.requires.new refl refl

pub returns-clause-room : goal.returns-clause-room
returns-clause-room c =
    off_room c.args.self.now c.requires.table (omega (arith, c.requires.table.offs.size, c.in_ok-push.ensures.variant.0 refl))
