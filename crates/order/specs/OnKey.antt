-- What a history of calls, oldest first, does at one on-channel: the records granted on it, the bundles handed out for it, and what
-- waits there. The channel is named by its address a and its index i, 0 where it has none.
use Rattle.std.specs.Prelude.{Bool, cond, ◌&&◌, List, [], ◌∷◌, ◌++◌, ℕ, eqb}
use Rattle.list.specs.Find.{keep_by}
use Rattle.packet.specs.declared.Record.{Record}
use Rattle.packet.specs.declared.Key.{Key}
use Rattle.packet.specs.Data.{is_set, index_of, key_index}
use Rattle.model.specs.State.{OnChannel, State, on_at}
use Rattle.model.specs.Calls.{Call, accept, accept_out, channel, next_bundle, prepare, acks_written, take_resends, holds, last_accepted_prefix, reset_prefix_offset, transfer_prefix_offset, Answer, refused, delivered, undelivered, found, no_bundle, bundle, prepared, done, resends, held, prefix_is}
use Rattle.model.specs.Port.{Result, takes, refuses, reply}
use Rattle.model.specs.History.{results_of}

abbrev pub same_key : ℕ → ℕ → ℕ → ℕ → Bool
same_key b j a i = eqb b a && eqb j i

-- ---- records granted

-- a record that came from address b is for the channel
abbrev pub is_for : ℕ → ℕ → ℕ → Record → Bool
is_for a i b r = is_set r.on && same_key b (index_of r) a i

abbrev pub is_reliable : Record → Bool
is_reliable r = is_set r.reliable

-- a record in front of others, where it was not refused
abbrev pub taken_if : Result → Record → List Record → List Record
taken_if (takes v) r rs = r ∷ rs
taken_if (refuses x) r rs = rs

-- of a delivery's records those that were not refused, by its results
unfoldable pub taken : List Record → List Result → List Record
taken [] xs = []
taken (r ∷ rs) [] = []
taken (r ∷ rs) (x ∷ xs) = taken_if x r (taken rs xs)

-- the records that a call brings and that are granted on the channel
abbrev pub granted_by : ℕ → ℕ → Call → State → List Record
granted_by a i (accept t b rs) s = keep_by (is_for a i b) (taken rs (results_of (accept t b rs) s))
granted_by a i (accept_out t b r) s = []
granted_by a i (channel k) s = []
granted_by a i (next_bundle k l) s = []
granted_by a i (prepare t k reliable hs) s = []
granted_by a i (acks_written k ns) s = []
granted_by a i (take_resends t timeout give_up l) s = []
granted_by a i (holds h) s = []
granted_by a i last_accepted_prefix s = []
granted_by a i reset_prefix_offset s = []
granted_by a i transfer_prefix_offset s = []

-- those of a history, oldest first
unfoldable pub granted : ℕ → ℕ → List Call → State → List Record
granted a i [] s = []
granted a i (e ∷ es) s = granted_by a i e s ++ granted a i es (reply e s).state

-- ---- bundles

-- a key names the channel
abbrev pub names : ℕ → ℕ → Key → Bool
names a i k = is_set k.on && same_key k.address (key_index k) a i

-- the bundle in an answer
abbrev pub bundle_in : Answer → List (List ℕ)
bundle_in (refused x) = []
bundle_in (delivered v n) = []
bundle_in (undelivered x n) = []
bundle_in (found v) = []
bundle_in no_bundle = []
bundle_in (bundle b) = b ∷ []
bundle_in (prepared p) = []
bundle_in done = []
bundle_in (resends xs) = []
bundle_in (held b) = []
bundle_in (prefix_is n) = []

-- the bundle that a call hands out for the channel, by its answer
abbrev pub handed_in : ℕ → ℕ → Call → Answer → List (List ℕ)
handed_in a i (accept t b rs) x = []
handed_in a i (accept_out t b r) x = []
handed_in a i (channel k) x = []
handed_in a i (next_bundle k l) x = cond (names a i k) (bundle_in x) []
handed_in a i (prepare t k reliable hs) x = []
handed_in a i (acks_written k ns) x = []
handed_in a i (take_resends t timeout give_up l) x = []
handed_in a i (holds h) x = []
handed_in a i last_accepted_prefix x = []
handed_in a i reset_prefix_offset x = []
handed_in a i transfer_prefix_offset x = []

abbrev pub handed_by : ℕ → ℕ → Call → State → List (List ℕ)
handed_by a i e s = handed_in a i e (reply e s).answer

-- those of a history, oldest first
unfoldable pub handed_out : ℕ → ℕ → List Call → State → List (List ℕ)
handed_out a i [] s = []
handed_out a i (e ∷ es) s = handed_by a i e s ++ handed_out a i es (reply e s).state

-- ---- the channel as it stands, a new one where it is absent (the version plays no part)

abbrev pub channel_of : ℕ → ℕ → State → OnChannel
channel_of a i s = on_at a i 0 s.protocol

-- "next-bundle calls, repeated now, would hand it out"
abbrev pub waiting : ℕ → ℕ → State → List (List ℕ)
waiting a i s = (channel_of a i s).off.bundles

abbrev pub expected_of : ℕ → ℕ → State → ℕ
expected_of a i s = (channel_of a i s).expected
