-- What next bundle makes of the bundles that wait in a channel, and what a report of written acknowledgements makes of its queue.
use Rattle.std.specs.Prelude.{Bool, true, false, List, [], ◌∷◌, ℕ, leb, length}
use Rattle.std.specs.declared.option.Option.{Option}
use Rattle.std.specs.declared.option.Option.TheVariants.{None, Some}
use Rattle.packet.specs.declared.Refusal.TheVariants.{OutOfRange, ListTooShort, ChannelAbsent}
use Rattle.model.specs.Refusals.{Refusal}
use Rattle.model.specs.Calls.{Answer, refused, no_bundle, bundle, done}

-- the bundle has room in the lent list, or it is refused
abbrev pub offered_if : Bool → List ℕ → Answer
offered_if true b = bundle b
offered_if false b = refused ListTooShort

-- the first bundle is handed out, oldest first; without one there is none, whatever the lent list's length
abbrev pub offered : List (List ℕ) → ℕ → Answer
offered [] places = no_bundle
offered (b ∷ bs) places = offered_if (leb (length b) places) b

-- the bundles that stay
abbrev pub left_if : Bool → List ℕ → List (List ℕ) → List (List ℕ)
left_if true b bs = bs
left_if false b bs = b ∷ bs

abbrev pub left_after : List (List ℕ) → ℕ → List (List ℕ)
left_after [] places = []
left_after (b ∷ bs) places = left_if (leb (length b) places) b bs

-- the names were all in the queue, or one was lacking
abbrev pub wrote_answer : Option (List ℕ) → Answer
wrote_answer None = refused OutOfRange
wrote_answer (Some qs) = done

-- the queue after the report; as it was where a name was lacking
abbrev pub queue_after : Option (List ℕ) → List ℕ → List ℕ
queue_after None qs = qs
queue_after (Some rest) qs = rest

-- names on an absent channel: any is lacking, and with none the channel is
abbrev pub absent_refusal : List ℕ → Refusal
absent_refusal [] = ChannelAbsent
absent_refusal (n ∷ ns) = OutOfRange
