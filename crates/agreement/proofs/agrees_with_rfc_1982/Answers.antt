use Rattle.seq.proofs.Serial.{legal-serial, equal_iff, less_iff, after_greater, greater_iff, undefined_iff, half_greater, add_agrees, add-serial, add-after, observe_moves, observe_serial, observe_not_back, observe_forward, alloc_forward}
use Rattle.agreement.proofs.agrees_with_rfc_1982.Goals as goal

pub returns : goal.returns
returns c = record {
  legal_serial = legal-serial;
  equal_iff = equal_iff;
  less_iff = less_iff;
  after_greater = after_greater;
  greater_iff = greater_iff;
  undefined_iff = undefined_iff;
  half_greater = half_greater;
  add_agrees = add_agrees;
  add_serial = add-serial;
  add_after = add-after;
  observe_moves = observe_moves;
  observe_serial = observe_serial;
  observe_not_back = observe_not_back;
  observe_forward = observe_forward;
  alloc_forward = alloc_forward;
}
