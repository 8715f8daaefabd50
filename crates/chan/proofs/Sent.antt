-- Reliable packets join the out list, one after the other.
use Rattle.std.proofs.Common.{◌≡◌, ℕ, suc, ◌+◌, ◌≤◌, ◌<◌, List, [], ◌∷◌, ◌++◌, map, length, get_or, drop, refl, sym, ap, arith, append_assoc, length-append, length-drop}
use Rattle.std.proofs.lemmas.List.{append-nil}
use lib.ListN.{drop_of_length-le}
use Rattle.seq.specs.Num.{add}
use Rattle.list.proofs.Positions.{drop_here}
use Rattle.packet.specs.declared.OutEntry.{OutEntry}
use Rattle.packet.specs.Data.{no_entry}
use Rattle.model.specs.Rust.{sent_entry, sent_entries, young, due, row}
use Rattle.list.specs.Find.{keep_by}
use Rattle.list.proofs.Find.{length-keep}
use Rattle.list.proofs.Edits.{length_items}
use Rattle.std.proofs.lemmas.List.{length-map}
use Rattle.queues.specs.declared.out_list.OutList.{OutList}
use Rattle.queues.specs.declared.out_list.Clock.{Clock}
use Rattle.queues.specs.Out.{entries, IsOutList, due_entries}

pub length_sent : (t n : ℕ) (hs : List ℕ) → length (sent_entries t n hs) ≡ length hs
unfolding sent_entries
length_sent t n [] = refl
length_sent t n (h ∷ hs) = ap suc (length_sent t (add n 1) hs)

pub join_next : (t n m i : ℕ) (hs : List ℕ) (es fs : List OutEntry) → i < length hs → fs ≡ es ++ sent_entry t n (get_or hs i 0) ∷ [] → m ≡ add n 1
    → fs ++ sent_entries t m (drop (i + 1) hs) ≡ es ++ sent_entries t n (drop i hs)
unfolding sent_entries
join_next t n m i hs es fs lt e q =
    rw (drop_here hs i 0 lt, e, q) (append_assoc es (sent_entry t n (get_or hs i 0) ∷ []) (sent_entries t (add n 1) (drop (i + 1) hs)))

pub join_last : (t n i : ℕ) (hs : List ℕ) (es : List OutEntry) → length hs ≤ i → es ≡ es ++ sent_entries t n (drop i hs)
unfolding sent_entries
join_last t n i hs es le = rw (drop_of_length-le hs {i = i} le) (sym (append-nil es))

pub join_beyond : (t n m i : ℕ) (hs : List ℕ) (es fs : List OutEntry) → i < length hs → fs ++ sent_entries t m (drop i hs) ≡ es ++ sent_entries t n hs → 32 ≤ length fs
    → 32 < length es + length hs
join_beyond t n m i hs es fs lt e full =
    omega (arith, ap length e, length-append fs (sent_entries t m (drop i hs)), length-append es (sent_entries t n hs), length_sent t m (drop i hs), length_sent t n hs, length-drop i hs)

-- ---- a resend

-- a list has few rows
pub few_due : (o : OutList) (c : Clock) → IsOutList o → length (due_entries c (entries o)) ≤ 32
few_due o c h =
    omega (arith, length-keep (due c.time c.timeout) (keep_by (young c.time c.give_up) (entries o)), length-keep (young c.time c.give_up) (entries o), length_items 32 o.len no_entry o.entries h, h.fits)

pub as_many : (a : ℕ) (es : List OutEntry) → length (map (row a) es) ≡ length es
as_many a es = length-map es (row a)
