-- What one look at the front of the contiguous queue answers.
use Rattle.std.specs.Prelude.{List, [], ◌∷◌, ℕ, ◌<◌, ◌⊎◌, length, take, drop}
use Rattle.list.specs.Find.{joined}
use Rattle.packet.specs.declared.Packet.{Packet}
use Rattle.model.specs.Group.{Step, stop, go, handles}
use Rattle.chan.specs.declared.grouping.Pop.{Pop}
use Rattle.chan.specs.declared.grouping.Pop.TheVariants.{Stop, Skip, Take}

-- what an answer at the front of q says, as the model's step
abbrev pub told : Pop → List Packet → Step
told Stop q = stop
told (Skip n) q = go [] (drop n q)
told (Take n) q = go (handles (take n q) ∷ []) (drop n q)

-- how many packets it takes
abbrev pub taken : Pop → ℕ
taken Stop = 0
taken (Skip n) = n
taken (Take n) = n

-- more than "16 bundles holding 64 handles in all"
abbrev pub TooMany : List (List ℕ) → Type 0
TooMany bs = (16 < length bs) ⊎ (64 < length (joined bs))
