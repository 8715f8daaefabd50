-- What next bundle makes of the bundles that wait, from the length of the first; and the model's reply from it.
use Rattle.std.proofs.Common.{◌≡◌, ℕ, ◌<◌, ◌≤◌, List, [], ◌∷◌, Option, None, Some, Ok, Err, Bool, true, false, length, drop, refl, ap, sym, ◌∙◌, leb, le-leb}
use Rattle.std.proofs.lemmas.Bool.{lt-leb}
use Rattle.list.proofs.Pad.{never}
use Rattle.queues.specs.Made.{front, front_len}
use Rattle.packet.specs.declared.Key.{Key}
use Rattle.packet.specs.Data.{key_made}
use Rattle.packet.specs.declared.Refusal.TheVariants.{OutOfRange, ListTooShort, ChannelAbsent}
use Rattle.model.specs.State as model
use Rattle.model.specs.Rust.{has_key, data_of, put_data}
use Rattle.model.specs.Calls as Calls
use Rattle.model.specs.Calls.{refused, bundle}
use Rattle.model.specs.Port as Port
use Rattle.model.specs.Port.{Reply, untimed, refuse, next_of, next, next_bundle_s, reply}
use Rattle.queues.specs.declared.bundles.Bundles.{Bundles}
use Rattle.queues.specs.Made.{bundles_of, IsBundles}
use Rattle.chan.specs.declared.OffData.{OffData}
use Rattle.chan.specs.Channels as chan
use Rattle.tab.specs.Calls.{answer_of, bundle_in}
use Rattle.tab.specs.Offers.{offered, offered_if, left_after, left_if}
use Rattle.tab.proofs.Named.{key_kept}

pub no_first : (bs : List (List ℕ)) (o : Option ℕ) → o ≡ front_len bs → o ≡ None → bs ≡ []
no_first [] o e q = refl
no_first (b ∷ bs) o e q = never (cc)

module _ (bs : List (List ℕ)) (o : Option ℕ) (n m : ℕ) (e : o ≡ front_len bs) (q : o ≡ Some n) where
  pub first_length : length (front bs) ≡ n
  first_length = at bs (sym q ∙ e)
    where
      at : (l : List (List ℕ)) → Some n ≡ front_len l → length (front l) ≡ n
      at [] r = never (cc)
      at (b ∷ l) r = cc

  first_is : (l : List (List ℕ)) → Some n ≡ front_len l → (t : Bool) → leb n m ≡ t → offered l m ≡ offered_if t (front l)
  first_is [] r t u = never (cc)
  first_is (b ∷ l) r t u = let s : length b ≡ n = cc in ap (λ x. offered_if x b) (ap (λ x. leb x m) s ∙ u)

  left_is : (l : List (List ℕ)) → Some n ≡ front_len l → (t : Bool) → leb n m ≡ t → left_after l m ≡ left_if t (front l) (drop 1 l)
  left_is [] r t u = never (cc)
  left_is (b ∷ l) r t u = let s : length b ≡ n = cc in ap (λ x. left_if x b l) (ap (λ x. leb x m) s ∙ u)

  whole : (l : List (List ℕ)) → Some n ≡ front_len l → front l ∷ drop 1 l ≡ l
  whole [] r = never (cc)
  whole (b ∷ l) r = refl

  pub short_offered : m < n → offered bs m ≡ refused ListTooShort
  short_offered lt = first_is bs (sym q ∙ e) false (lt-leb n m lt)

  pub short_left : m < n → left_after bs m ≡ bs
  short_left lt = left_is bs (sym q ∙ e) false (lt-leb n m lt) ∙ whole bs (sym q ∙ e)

  pub one_offered : n ≤ m → offered bs m ≡ bundle (front bs)
  one_offered le = first_is bs (sym q ∙ e) true (le-leb n m le)

  pub one_left : n ≤ m → left_after bs m ≡ drop 1 bs
  one_left le = left_is bs (sym q ∙ e) true (le-leb n m le)

  pub short_answer : m < n → Err ListTooShort ≡ answer_of bundle_in (offered bs m)
  unfolding answer_of
  short_answer lt = rw (short_offered lt) refl

  pub one_answer : n ≤ m → Ok (Some n) ≡ answer_of bundle_in (offered bs m)
  unfolding answer_of
  one_answer le = rw (one_offered le) (ap (λ (x : ℕ). Ok (Some x)) (sym first_length))

pub none_answer : (bs : List (List ℕ)) (m : ℕ) → bs ≡ [] → Ok None ≡ answer_of bundle_in (offered bs m)
unfolding answer_of
none_answer bs m e = rw e refl

-- ---- the lists of a channel, with other bundles

pub bundles_put : (d : OffData) (b : Bundles) → chan.IsOffData d → IsBundles b → chan.IsOffData (record d { bundles = b })
bundles_put d b h good = record { out = h.out; acks = h.acks; groups = h.groups; bundles = good }

pub bundles_left : (d : OffData) (b : Bundles) (m : model.OffData) (n : ℕ) → chan.data_of d ≡ m → bundles_of b ≡ left_after (bundles_of d.bundles) n
    → chan.data_of (record d { bundles = b }) ≡ model.with_bundles (left_after m.bundles n) m
bundles_left d b m n same left =
    ap (λ (bs : List (List ℕ)). model.with_bundles bs (chan.data_of d)) left
    ∙ ap (λ (x : model.OffData). model.with_bundles (left_after x.bundles n) x) same

-- ---- the model's reply: by the tests 2 and 13, or by the bundles that wait

module _ (k : Key) (l : List ℕ) (s : model.State) where
  pub next_malformed : key_made k ≡ false → reply (Calls.next_bundle k l) s ≡ refuse OutOfRange (untimed s)
  unfolding reply next_bundle_s
  next_malformed e = λ j. next_of (e j) (has_key k s.protocol) k (length l) s

  pub next_absent : key_made k ≡ true → has_key k s.protocol ≡ false → reply (Calls.next_bundle k l) s ≡ refuse ChannelAbsent (untimed s)
  unfolding reply next_bundle_s
  next_absent e here = λ j. next_of (e j) (here j) k (length l) s

  abbrev pub left_state : List (List ℕ) → model.State
  left_state bs = model.with_protocol (put_data k (model.with_bundles bs (data_of k s.protocol)) s.protocol) s

  as_it_was : (bs : List (List ℕ)) → (data_of k s.protocol).bundles ≡ bs → has_key k s.protocol ≡ true → left_state bs ≡ s
  as_it_was bs e here = (λ j. left_state (sym e j)) ∙ ap (λ p. model.with_protocol p s) (key_kept k s.protocol here)

  given : (bs : List (List ℕ)) → (data_of k s.protocol).bundles ≡ bs → has_key k s.protocol ≡ true
      → next bs k (length l) s ≡ record { answer = offered bs (length l); state = left_state (left_after bs (length l)) }
  given [] e here = λ j. record { answer = Calls.no_bundle; state = sym (as_it_was [] e here) j }
  given (b ∷ bs) e here = at (leb (length b) (length l))
    where
      at : (t : Bool) → Port.hand_out t k b bs s ≡ record { answer = offered_if t b; state = left_state (left_if t b bs) }
      at true = refl
      at false = λ j. record { answer = refused ListTooShort; state = sym (as_it_was (b ∷ bs) e here) j }

  pub next_given : key_made k ≡ true → has_key k s.protocol ≡ true
      → reply (Calls.next_bundle k l) s ≡ record { answer = offered (data_of k s.protocol).bundles (length l); state = left_state (left_after (data_of k s.protocol).bundles (length l)) }
  unfolding reply next_bundle_s
  next_given e here = (λ j. next_of (e j) (here j) k (length l) s) ∙ given (data_of k s.protocol).bundles refl here
