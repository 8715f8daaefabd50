-- Every contract is a pair of equations, so that it admits one outcome.
use mathlib.Core.Path.{◌≡◌, sym, ◌∙◌}
use Rattle.model.specs.Calls as call
use Rattle.model.specs.Calls.{Call, Answer}
use Rattle.tab.specs.declared.Table.{Table}
use Rattle.tab.specs.Calls.{delivery_of, answer_of, view_in, bundle_in, prepared_in, done_in, rows_in}
use Rattle.histories.specs.Same.{Given, Gives, One, Same}

equal : {X : Type 0} (z : X) → One {X = X} (λ x. x ≡ z)
equal z x y p q = p ∙ sym q

both : {X : Type 0} (of : Answer → X) (e : Call) (t : Table) → One {X = Given X} (Gives of e t)
both of e t x y p q = let a = p.0 ∙ sym q.0 in let b = p.1 ∙ sym q.1 in λ i. record { answer = a i; table = b i }

pub same : Same
same =
    record {
      well_formed = λ t. equal _;
      accept = λ t time a rs. both delivery_of (call.accept time a rs) t;
      accept_out = λ t time a r. both (answer_of view_in) (call.accept_out time a r) t;
      channel = λ t k. both (answer_of view_in) (call.channel k) t;
      next_bundle = λ t k l. both (answer_of bundle_in) (call.next_bundle k l) t;
      next_bundle_lent = λ t k l. equal _;
      prepare = λ t time k reliable hs. both (answer_of prepared_in) (call.prepare time k reliable hs) t;
      acks_written = λ t k ns. both (answer_of done_in) (call.acks_written k ns) t;
      take_resends = λ t time timeout give_up l. both (answer_of rows_in) (call.take_resends time timeout give_up l) t;
      take_resends_lent = λ t time timeout give_up l. equal _;
      holds = λ t h. equal _;
      last_accepted_prefix = λ t. equal _;
      reset_prefix_offset = λ t. both (answer_of done_in) call.reset_prefix_offset t;
      transfer_prefix_offset = λ t. both (answer_of done_in) call.transfer_prefix_offset t;
    }
