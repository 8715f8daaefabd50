-- A report of written acknowledgements: the model's reply, by the tests 2 and 13, or by what is in the queue.
use Rattle.std.proofs.Common.{◌≡◌, ℕ, List, [], ◌∷◌, Option, None, Some, Ok, Err, true, false, refl, sym, ◌∙◌}
use Rattle.list.specs.Find.{has}
use Rattle.packet.specs.declared.Key.{Key}
use Rattle.packet.specs.Data.{key_made}
use Rattle.packet.specs.declared.Refusal.TheVariants.{OutOfRange}
use Rattle.model.specs.State as model
use Rattle.model.specs.Acks.{take_written}
use Rattle.model.specs.Refusals.{left}
use Rattle.model.specs.Rust.{has_key, data_of, put_data}
use Rattle.model.specs.Calls as Calls
use Rattle.model.specs.Port.{untimed, refuse, wrote_of, wrote, wrote_if, queue_if, acks_written_s, reply}
use Rattle.tab.specs.Calls.{answer_of, done_in}
use Rattle.tab.specs.Offers.{wrote_answer, queue_after, absent_refusal}
use Rattle.tab.proofs.Named.{key_kept}

-- ---- one queue

pub all_taken : (o : Option (List ℕ)) (qs : List ℕ) → o ≡ Some qs → Ok tt ≡ answer_of done_in (wrote_answer o)
unfolding answer_of
all_taken o qs e = rw e refl

pub one_lacks : (o : Option (List ℕ)) → o ≡ None → Err OutOfRange ≡ answer_of done_in (wrote_answer o)
unfolding answer_of
one_lacks o e = rw e refl

pub queue_taken : (o : Option (List ℕ)) (q qs : List ℕ) → o ≡ Some qs → qs ≡ queue_after o q
queue_taken o q qs e = rw e refl

pub queue_kept : (o : Option (List ℕ)) (q : List ℕ) → o ≡ None → q ≡ queue_after o q
queue_kept o q e = rw e refl

-- it changes nothing
pub absent_leaves : (l : List ℕ) (s : model.State) → left (absent_refusal l) (untimed s) ≡ s
absent_leaves [] s = refl
absent_leaves (n ∷ l) s = refl

pub absent_answers : (l : List ℕ) → Err (absent_refusal l) ≡ answer_of done_in (Calls.refused (absent_refusal l))
unfolding answer_of
absent_answers l = refl

-- ---- the model's reply

module _ (k : Key) (ns : List ℕ) (s : model.State) where
  pub wrote_malformed : key_made k ≡ false → reply (Calls.acks_written k ns) s ≡ refuse OutOfRange (untimed s)
  unfolding reply acks_written_s
  wrote_malformed e = λ j. wrote_of (e j) k ns s

  none_there : (l : List ℕ) → has_key k s.protocol ≡ false → wrote (take_written l []) k s ≡ refuse (absent_refusal l) (untimed s)
  unfolding take_written has
  none_there [] here = λ j. wrote_if (here j) [] k s
  none_there (n ∷ l) here = refl

  pub wrote_absent : key_made k ≡ true → has_key k s.protocol ≡ false → reply (Calls.acks_written k ns) s ≡ refuse (absent_refusal ns) (untimed s)
  unfolding reply acks_written_s
  wrote_absent e here = (λ j. wrote_of (e j) k ns s) ∙ (λ j. wrote (take_written ns (queue_if (here j) k s)) k s) ∙ none_there ns here

  abbrev pub with_queue : List ℕ → model.State
  with_queue qs = model.with_protocol (put_data k (model.with_acks qs (data_of k s.protocol)) s.protocol) s

  by_queue : (o : Option (List ℕ)) → has_key k s.protocol ≡ true → wrote o k s ≡ record { answer = wrote_answer o; state = with_queue (queue_after o (data_of k s.protocol).acks) }
  by_queue None here = λ j. record { answer = Calls.refused OutOfRange; state = model.with_protocol (sym (key_kept k s.protocol here) j) s }
  by_queue (Some qs) here = λ j. wrote_if (here j) qs k s

  pub wrote_given : key_made k ≡ true → has_key k s.protocol ≡ true
      → reply (Calls.acks_written k ns) s ≡ record { answer = wrote_answer (take_written ns (data_of k s.protocol).acks); state = with_queue (queue_after (take_written ns (data_of k s.protocol).acks) (data_of k s.protocol).acks) }
  unfolding reply acks_written_s
  wrote_given e here = (λ j. wrote_of (e j) k ns s) ∙ (λ j. wrote (take_written ns (queue_if (here j) k s)) k s) ∙ by_queue (take_written ns (data_of k s.protocol).acks) here
