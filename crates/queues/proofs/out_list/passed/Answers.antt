use Rattle.std.proofs.Common.{arith, refl, sym, ◌∙◌}
use Rattle.queues.proofs.Resent.{pass_on, stop_equal, stop_less, none_left}
use Rattle.queues.proofs.out_list.passed.Goals as goal

pub loop-e-init : goal.loop-e-init
loop-e-init c = record { all = refl; rest = refl }

pub loop-e-preserved : goal.loop-e-preserved
loop-e-preserved c =
    record {
      all = omega arith;
      rest = sym (rw c.loop-e.invariant.all (pass_on c.args.number c.args.entries.now c.loop-e.e-index c.loop-e-test.true (sym c.compare.ensures ∙ c.in-Greater.is))) ∙ c.loop-e.invariant.rest;
    }

pub returns-in-Equal-clause-rest : goal.returns-in-Equal-clause-rest
returns-in-Equal-clause-rest c =
    rw c.loop-e.invariant.all (stop_equal c.args.number c.args.entries.now c.loop-e.e-index c.loop-e-test.true (sym c.compare.ensures ∙ c.in-Equal.is)) ∙ c.loop-e.invariant.rest

pub returns-in-Less-clause-rest : goal.returns-in-Less-clause-rest
returns-in-Less-clause-rest c =
    rw c.loop-e.invariant.all (stop_less c.args.number c.args.entries.now c.loop-e.e-index c.loop-e-test.true (sym c.compare.ensures ∙ c.in-Less.is)) ∙ c.loop-e.invariant.rest

pub returns-clause-rest : goal.returns-clause-rest
returns-clause-rest c = none_left c.args.number c.args.entries.now c.loop-e.n (omega arith) ∙ c.loop-e.invariant.rest
