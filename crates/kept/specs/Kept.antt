-- Every call of the model keeps a state well formed, and so does every history from a new one; so no count ever passes its limit.
use Rattle.std.specs.Prelude.{◌≡◌, Bool, true, List}
use Rattle.model.specs.State.{State, new}
use Rattle.model.specs.Calls.{Call}
use Rattle.model.specs.Port.{reply}
use Rattle.model.specs.History.{run}
use Rattle.model.specs.Room.{fits}
use Rattle.model.specs.Wellformed.{well_formed}

pub record KeptWellFormed : Type 0 where
  pub fresh : (f : Bool) → well_formed (new f) ≡ true
  pub call : (e : Call) (s : State) → well_formed s ≡ true → well_formed (reply e s).state ≡ true
  pub always : (es : List Call) (f : Bool) → well_formed (run es (new f)).state ≡ true
  -- no count passes its limit in a state that a call leaves, or that a history from a new table ends in
  pub limits : (e : Call) (s : State) → well_formed s ≡ true → fits (reply e s).state.protocol ≡ true
  pub limits_run : (es : List Call) (f : Bool) → fits (run es (new f)).state.protocol ≡ true
