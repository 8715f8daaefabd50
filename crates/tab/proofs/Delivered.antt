-- A delivery: its records one after the other, and its answer. Assumes nothing.
use mathlib.Core.Path.{◌≡◌, refl, ap, sym, ◌∙◌}
use mathlib.Core.Bool.{Bool, true, false, ◌&&◌}
use mathlib.Core.List.{List, [], ◌∷◌}
use Prim.Native.Nat.{ℕ, suc, ◌+◌, ◌-◌, ◌≤◌, ◌<◌}
use native.Mathlib.Omega.{arith}
use borrow.Author.Tests.{le-leb, lt-leb}
use lib.Dec.{leb}
use lib.ListN.{length, get_or, drop, drop_of_length-le}
use Rattle.std.specs.Prelude.{Result, Ok, Err}
use Rattle.std.specs.List.{slice_get}
use Rattle.std.specs.declared.option.Option.TheVariants.{None, Some}
use Rattle.std.proofs.lemmas.Option.{slice_get_within, get_or_from_slice_get, slice_get-get_or}
use Rattle.list.proofs.Pad.{never}
use Rattle.list.proofs.Positions.{drop_here}
use Rattle.packet.specs.declared.Record.{Record}
use Rattle.packet.specs.declared.View.{View}
use Rattle.packet.specs.Data.{well_made}
use Rattle.packet.specs.declared.Refusal.TheVariants.{NotWellFormed, OutOfRange, TimeBelow}
use Rattle.model.specs.State.{State, with_time}
use Rattle.model.specs.Refusals.{Refusal}
use Rattle.model.specs.Calls as call
use Rattle.model.specs.Port as port
use Rattle.tab.specs.declared.delivery.Delivery.{Delivery}
use Rattle.tab.specs.Calls.{delivery_of}
use Rattle.tab.specs.Played.{result_of, none_played, next, next_of, after}

-- ---- the answer so far, carried through all results from the first, is the model's answer

abbrev done_of : port.Result → ℕ → Delivery
done_of (port.takes v) n = record { count = n; last = Ok v }
done_of (port.refuses x) n = record { count = n; last = Err x }

next_is : (d : Delivery) (x : port.Result) → next d x ≡ done_of x (d.count + port.count_one x 0)
next_is d (port.takes v) = refl
next_is d (port.refuses x) = let e : d.count ≡ d.count + 0 = omega arith in λ k. record { count = e k; last = Err x }

count_next : (d : Delivery) (x : port.Result) (n : ℕ) → (next d x).count + n ≡ d.count + port.count_one x n
count_next d (port.takes v) n = omega arith
count_next d (port.refuses x) n = refl

after_is : (d : Delivery) (x : port.Result) (xs : List port.Result) → after d (x ∷ xs) ≡ done_of (port.last_result (x ∷ xs)) (d.count + port.count (x ∷ xs))
unfolding after port.last_result port.count
after_is d x [] = next_is d x
after_is d x (y ∷ ys) = after_is (next d x) y ys ∙ ap (λ (n : ℕ). done_of (port.last_result (y ∷ ys)) n) (count_next d x (port.count (y ∷ ys)))

after_all : (xs : List port.Result) → after none_played xs ≡ done_of (port.last_result xs) (port.count xs)
unfolding after port.last_result port.count
after_all [] = refl
after_all (x ∷ xs) = after_is none_played x xs ∙ ap (λ (n : ℕ). done_of (port.last_result (x ∷ xs)) n) (omega arith)

pub answer_is : (p : port.Played) → after none_played p.results ≡ delivery_of (port.played_reply p).answer
answer_is p = after_all p.results ∙ at (port.last_result p.results)
  where
    at : (x : port.Result) → done_of x (port.count p.results) ≡ delivery_of (port.delivery_answer x (port.count p.results))
    at (port.takes v) = refl
    at (port.refuses x) = refl

-- ---- one record after the other

next_by : (d : Delivery) (x : port.Result) → next_of d (result_of x) ≡ next d x
next_by d (port.takes v) = refl
next_by d (port.refuses x) = refl

play_more : (t a : ℕ) (r : Record) (rs : List Record) (s : State) → port.play t a (r ∷ rs) s ≡ port.ahead (port.record_step t a r s).result (port.play t a rs (port.record_step t a r s).state)
unfolding port.play
play_more t a r rs s = refl

play_none : (t a : ℕ) (s : State) → port.play t a [] s ≡ record { results = []; state = s }
unfolding port.play
play_none t a s = refl

after_more : (d : Delivery) (x : port.Result) (xs : List port.Result) → after d (x ∷ xs) ≡ after (next d x) xs
unfolding after
after_more d x xs = refl

after_none : (d : Delivery) → after d [] ≡ d
unfolding after
after_none d = refl

-- what is still to come of a delivery, after i of its records
pub record Played (t a : ℕ) (rs : List Record) (i : ℕ) (s : State) (d : Delivery) (whole : port.Played) : Type 0 where
  pub state : (port.play t a (drop i rs) s).state ≡ whole.state
  pub done : after d (port.play t a (drop i rs) s).results ≡ after none_played whole.results
  pub count : d.count ≤ i

pub played_start : (t a : ℕ) (rs : List Record) (s : State) (d : Delivery) → d ≡ none_played → Played t a rs 0 s d (port.play t a rs s)
played_start t a rs s d e = record {
  state = refl;
  done = ap (λ (x : Delivery). after x (port.play t a rs s).results) e;
  count = omega (arith, ap (λ (x : Delivery). x.count) e);
}

module _ (t a : ℕ) (rs : List Record) (i : ℕ) (s : State) (d : Delivery) (whole : port.Played) (w : Played t a rs i s d whole) where
  pub played_step : (z : Record) (u : State) (x : Result View Refusal) (e : Delivery) → i < length rs
      → x ≡ result_of (port.record_step t a (get_or rs i z) s).result → u ≡ (port.record_step t a (get_or rs i z) s).state → e ≡ next_of d x
      → Played t a rs (i + 1) u e whole
  played_step z u x e lt px pu pe =
      let r = get_or rs i z in
      let y = (port.record_step t a r s).result in
      let more : port.play t a (drop i rs) s ≡ port.ahead y (port.play t a (drop (i + 1) rs) u) =
      ap (λ (l : List Record). port.play t a l s) (drop_here rs i z lt) ∙ play_more t a r (drop (i + 1) rs) s ∙ ap (λ (v : State). port.ahead y (port.play t a (drop (i + 1) rs) v)) (sym pu) in
      let step : e ≡ next d y = pe ∙ ap (λ (q : Result View Refusal). next_of d q) px ∙ next_by d y in
      record {
        state = ap (λ (p : port.Played). p.state) (sym more) ∙ w.state;
        done =
            ap (λ (q : Delivery). after q (port.play t a (drop (i + 1) rs) u).results) step
            ∙ sym (after_more d y (port.play t a (drop (i + 1) rs) u).results)
            ∙ ap (λ (p : port.Played). after d p.results) (sym more)
            ∙ w.done;
        count = omega (arith, w.count, next_count d y, ap (λ (q : Delivery). q.count) step);
      }
    where
      next_count : (d : Delivery) (y : port.Result) → (next d y).count ≤ d.count + 1
      next_count d (port.takes v) = omega arith
      next_count d (port.refuses x) = omega arith

  over : length rs ≤ i → port.play t a (drop i rs) s ≡ record { results = []; state = s }
  over h = ap (λ (l : List Record). port.play t a l s) (drop_of_length-le rs {i = i} h) ∙ play_none t a s

  pub played_state : length rs ≤ i → s ≡ whole.state
  played_state h = ap (λ (p : port.Played). p.state) (sym (over h)) ∙ w.state

  pub played_done : length rs ≤ i → d ≡ after none_played whole.results
  played_done h = sym (after_none d) ∙ ap (λ (p : port.Played). after d p.results) (sym (over h)) ∙ w.done

-- ---- the delivery as a whole

module _ (t a : ℕ) (rs : List Record) (s : State) where
  pub delivered : port.delivery_made rs ≡ true → s.latest ≤ t → port.reply (call.accept t a rs) s ≡ port.played_reply (port.play t a rs (with_time t s))
  unfolding port.reply port.accept_s
  delivered h l = rw (h, le-leb s.latest t l)

  pub not_made : port.delivery_made rs ≡ false → port.reply (call.accept t a rs) s ≡ record { answer = call.undelivered OutOfRange 0; state = s }
  unfolding port.reply port.accept_s
  not_made h = rw h

  pub not_in_time : port.delivery_made rs ≡ true → t < s.latest → port.reply (call.accept t a rs) s ≡ record { answer = call.undelivered TimeBelow 0; state = s }
  unfolding port.reply port.accept_s
  not_in_time h l = rw (h, lt-leb s.latest t l)

-- ---- a delivery is well made by its length and its last record

last_at : (z : Record) (r : Record) (rs : List Record) → port.last_made (r ∷ rs) ≡ well_made (get_or (r ∷ rs) (length rs) z)
unfolding port.last_made
last_at z r [] = refl
last_at z r (q ∷ rs) = last_at z q rs

pub made_none : (rs : List Record) → length rs ≡ 0 → false ≡ port.delivery_made rs
unfolding port.last_made
made_none [] h = refl
made_none (r ∷ rs) h = absurd (omega (arith, h))

pub made_long : (rs : List Record) → 8 < length rs → false ≡ port.delivery_made rs
made_long rs h = sym (ap (λ (x : Bool). x && port.last_made rs) (lt-leb (length rs) 8 h))

pub made_by_last : (rs : List Record) (z : Record) (b : Bool) → length rs ≤ 8 → 0 < length rs → b ≡ well_made (get_or rs (length rs - 1) z) → b ≡ port.delivery_made rs
made_by_last [] z b h n e = absurd (omega (arith, n))
made_by_last (r ∷ rs) z b h n e =
    e ∙ ap (λ (k : ℕ). well_made (get_or (r ∷ rs) k z)) (omega arith) ∙ sym (last_at z r rs) ∙ sym (ap (λ (x : Bool). x && port.last_made (r ∷ rs)) (le-leb (length (r ∷ rs)) 8 h))

pub made_last : (rs : List Record) (r : Record) (b : Bool) → length rs ≤ 8 → Some r ≡ slice_get rs (length rs - 1) → b ≡ well_made r → b ≡ port.delivery_made rs
made_last rs r b h q e =
    let inside = slice_get_within rs (length rs - 1) r (sym q) in
    made_by_last rs r b h (omega (arith, inside)) (e ∙ ap well_made (sym (get_or_from_slice_get rs (length rs - 1) r r (sym q))))

pub made_empty : (rs : List Record) → None ≡ slice_get rs (length rs - 1) → false ≡ port.delivery_made rs
made_empty [] q = made_none [] refl
made_empty (r ∷ rs) q = let e = q ∙ slice_get-get_or (r ∷ rs) (length (r ∷ rs) - 1) r (omega arith) in never (cc)
