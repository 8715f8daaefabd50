-- What stands beside it: the same at every moment of a longer history, what waits, and what the words of the statement mean.
use Rattle.std.specs.Prelude.{◌≡◌, Bool, true, leb, List, [], ◌∷◌, ◌++◌, map, reverse, length, get_or, replicate, All, ℕ, suc, ◌+◌, ◌≤◌, ◌<◌}
use Rattle.std.specs.declared.option.Option.TheVariants.{None, Some}
use Rattle.std.specs.declared.cmp.Ordering.TheVariants.{Less, Equal, Greater}
use Rattle.list.specs.Pad.{all_b}
use Rattle.seq.specs.Num.{cmp, wrap}
use Rattle.packet.specs.declared.Key.{Key}
use Rattle.packet.specs.declared.Packet.{Packet}
use Rattle.packet.specs.Data.{Range, packet, key_made}
use Rattle.model.specs.State.{State, new}
use Rattle.model.specs.Group.{group}
use Rattle.model.specs.Reorder.{insert_buffered}
use Rattle.model.specs.Calls.{Call, next_bundle}
use Rattle.model.specs.History.{run}
use Rattle.order.specs.Sent.{Arrival, sent_as, received, copy, missing, Near, firsts, sent_before}
use Rattle.order.specs.OnKey.{is_reliable, names, granted, handed_out, waiting, expected_of}

-- a moment of a history: what arrived by then is the earlier part of the arrivals, and the equations hold of it
pub record Moment (f : Bool) (es : List Call) (a i : ℕ) (s : ℕ → Range) (h : List Arrival) : Type 0 where
  pub later : List Arrival
  pub sofar : List Arrival
  pub parts : later ++ sofar ≡ h
  pub brought : map packet (granted a i es (new f)) ≡ map (sent_as s) (reverse sofar)
  pub bundles : handed_out a i es (new f) ++ waiting a i (run es (new f)).state ≡ (group (sent_before s sofar (missing sofar))).made
  pub expected : expected_of a i (run es (new f)).state ≡ wrap (missing sofar)

-- a bundle that the lent list takes
abbrev pub taking : List ℕ → List ℕ → Bool
taking l b = leb (length b) (length l)

pub record EverInOrder : Type 0 where
  -- the hypotheses on a whole history give the equations at every moment of it
  pub always :
      (f : Bool) (es fs : List Call) (a i : ℕ) (s : ℕ → Range) (h : List Arrival) →
      all_b is_reliable (granted a i (es ++ fs) (new f)) ≡ true →
      map packet (granted a i (es ++ fs) (new f)) ≡ map (sent_as s) (reverse h) →
      Near h →
      Moment f es a i s h
  -- as many next-bundle calls on the channel as bundles wait, with a lent list that takes each, hand out just these, in their order
  pub repeated_now :
      (a i : ℕ) (k : Key) (l : List ℕ) (s : State) →
      key_made k ≡ true →
      names a i k ≡ true →
      all_b (taking l) (waiting a i s) ≡ true →
      handed_out a i (replicate (length (waiting a i s)) (next_bundle k l)) s ≡ waiting a i s

-- the buffer: places strictly increase, past the missing one and less than 2^27 from it
abbrev pub Climbs : ℕ → ℕ → List Arrival → Type 0
Climbs p t [] = Unit {0}
Climbs p t (a ∷ l) = (p ≤ a.place) × (a.place < t) × Climbs (suc a.place) t l

pub record Meant : Type 0 where
  -- when every packet sent so far has arrived, the missing one is the next to be sent
  pub all_arrived : (h : List Arrival) (n : ℕ) → ((q : ℕ) → q < n → copy h q ≡ None → ⊥) → copy h n ≡ None → missing h ≡ n
  -- the first copy of a place stays the first
  pub copy_first : (g : List Arrival) (a : Arrival) (h : List Arrival) → copy h a.place ≡ None → copy (g ++ (a ∷ h)) a.place ≡ Some a.handle
  -- the packets sent before the missing one: as many as its place, the i-th sent at place i
  pub sent_length : (h : List Arrival) → length (firsts (copy h) 0 (missing h)) ≡ missing h
  pub sent_at : (h : List Arrival) (i x : ℕ) (d : Arrival) → i < missing h → copy h i ≡ Some x → get_or (firsts (copy h) 0 (missing h)) i d ≡ record { place = i; handle = x }
  pub buffer_climbs : (s : ℕ → Range) (h : List Arrival) → Near h → (l : List Arrival) × ((received s h).buffer ≡ map (sent_as s) l) × Climbs (suc (missing h)) (missing h + 0x800_0000) l
  -- a packet past the missing one is buffered between those that it is Greater than and those that it is Less than; beside one that it is
  -- Equal to it is dropped
  pub inserted_between : (p : Packet) (xs ys : List Packet) → All (λ b. cmp p.number b.number ≡ Greater) xs → All (λ b. cmp p.number b.number ≡ Less) ys → insert_buffered p (xs ++ ys) ≡ xs ++ (p ∷ ys)
  pub dropped_beside : (p b : Packet) (xs ys : List Packet) → cmp p.number b.number ≡ Equal → All (λ b. cmp p.number b.number ≡ Less) ys → insert_buffered p (xs ++ (b ∷ ys)) ≡ xs ++ (b ∷ ys)
