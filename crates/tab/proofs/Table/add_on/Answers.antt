use Rattle.std.proofs.Common.{arith, refl}
use Rattle.list.proofs.Edits.{on_err}
use Rattle.tab.proofs.Steps.{on_push, on_new, on_room, on_full}
use Rattle.tab.proofs.Table.add_on.Goals as goal

pub returns-in_err-push-clause-full : goal.returns-in_err-push-clause-full
returns-in_err-push-clause-full c =
    on_err _ (on_full c.args.self.now c.requires.table (omega (arith, c.requires.table.ons.size, c.in_err-push.ensures.full)))

pub returns-clause-table : goal.returns-clause-table
returns-clause-table c =
    on_push c.args.self.now c.requires.table _ _ _ _ _ c.in_ok-push.ensures.items c.requires.table.ons.size c.none.ensures c.in_ok-push.ensures.list c.requires.channel

pub returns-clause-state : goal.returns-clause-state
returns-clause-state c =
    on_new c.args.self.now c.requires.table _ 8 c.none.result _ _ c.in_ok-push.ensures.items _ _ _ c.requires.new refl refl refl

pub returns-clause-room : goal.returns-clause-room
returns-clause-room c =
    on_room c.args.self.now c.requires.table (omega (arith, c.requires.table.ons.size, c.in_ok-push.ensures.variant.0 refl))
