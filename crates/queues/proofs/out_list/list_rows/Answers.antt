use Rattle.std.proofs.Common.{ℕ, length-set, subst, arith, sym, ◌∙◌}
use Rattle.list.proofs.Copies.{Writing, writing_start, writing_end}
use Rattle.queues.proofs.Resent.{room_here, row_yes, row_no, no_rows}
use Rattle.queues.proofs.out_list.list_rows.Goals as goal
use Rattle.queues.proofs.out_list.list_rows.Goals.{then-listed, else-listed}

pub loop-e-init : goal.loop-e-init
loop-e-init c = writing_start _ _ _ c.requires.room

pub bounds-lent-next : goal.bounds-lent-next
bounds-lent-next c = omega (arith, room_here _ c.args.clock c.args.entries.now c.loop-e.e-index _ _ _ _ _ c.loop-e-test.true c.loop-e.invariant (sym c.listed.ensures ∙ c.if-listed.true))

pub bounds-lent-next-then-listed : goal.bounds-lent-next-then-listed
bounds-lent-next-then-listed c =
    omega (arith, length-set {A = ℕ}, room_here _ c.args.clock c.args.entries.now c.loop-e.e-index _ _ _ _ _ c.loop-e-test.true c.loop-e.invariant (sym c.listed.ensures ∙ c.if-listed.true))

pub loop-e-preserved : goal.loop-e-preserved
loop-e-preserved c =
    elim c.if-listed.branch [
      | then-listed w ↦ rw (w.lent-is, w.next-is) (row_yes _ c.args.clock c.args.entries.now c.loop-e.e-index _ _ _ _ _ c.loop-e-test.true c.loop-e.invariant (sym c.listed.ensures ∙ w.if-listed.true))
      | else-listed w ↦ rw (w.lent-is, w.next-is) (row_no _ c.args.clock c.args.entries.now c.loop-e.e-index _ _ _ _ _ c.loop-e-test.true c.loop-e.invariant (sym c.listed.ensures ∙ w.if-listed.false))
    ]

pub returns-clause-rows : goal.returns-clause-rows
returns-clause-rows c =
    (writing_end _ _ _ _ _ (subst (Writing _ _ _ _ _) (no_rows _ c.args.clock c.args.entries.now c.loop-e.e-index c.loop-e-test.false) c.loop-e.invariant)).1

pub returns-clause-next : goal.returns-clause-next
returns-clause-next c =
    (writing_end _ _ _ _ _ (subst (Writing _ _ _ _ _) (no_rows _ c.args.clock c.args.entries.now c.loop-e.e-index c.loop-e-test.false) c.loop-e.invariant)).0
