-- What each return of the writers owes, over plain values. Assumes nothing.
use mathlib.Core.Path.{◌≡◌, refl, sym, ap, ◌∙◌}
use mathlib.Core.List.{List, [], ◌∷◌, ◌++◌, append_assoc, append-nil}
use Prim.Native.Nat.{ℕ, suc, ◌+◌, ◌*◌, ◌≤◌, ◌<◌}
use native.Mathlib.Numerals.{add-one}
use native.Mathlib.Omega.{arith}
use mir.Syntax.{w32}
use mir.Val.{Fits}
use lib.ListN.{length, take, drop, get_or, set, length-append, length-set}
use lib.Seq.{length-take-le, take-suc, take_all, set_split}
use borrow.Author.Rules.{rules}
use borrow.Author.Tests.{eq-eqb, ne_eqb}
use Rattle.list.specs.Find.{written_at}
use Rattle.list.proofs.Copies.{written_none, written_after}
use Rattle.std.specs.Fmt.{decimal}
use Rattle.packet.specs.declared.View.{View}
use Rattle.reading.specs.Text.{bytes}
use Rattle.writing.specs.Answers.{digits, index_text, worded, ok_line, no_line, handles_text, bundle_line}
use Rattle.writing.specs.Wrote.{Wrote}
use Rattle.writing.proofs.Digits.{digits-short, decimal_is}

-- ---- bytes one after the other

-- one byte is stored
pub byte_stored : (old : List ℕ) (at b : ℕ) → at < length old → Wrote 1 old (set old at b) at (at + 1) (b ∷ [])
unfolding written_at
byte_stored old at b h =
    record {
      place = refl;
      short = omega arith;
      size = length-set old at b;
      list =
          set_split old at b h
          ∙ sym (append_assoc (take at old) (b ∷ []) (drop (suc at) old))
          ∙ ap (λ (k : ℕ). take at old ++ b ∷ [] ++ drop k old) (sym (add-one at));
    }

-- nothing is written yet
pub nothing : (room at : ℕ) (old : List ℕ) → Wrote room old old at at []
nothing room at old = record { place = omega arith; short = omega arith; size = refl; list = written_none at old }

-- two texts one after the other
pub then : (x y z : ℕ) (a b c s t : List ℕ) (at j k : ℕ) → at ≤ length a → x + y ≤ z → Wrote x a b at j s → Wrote y b c j k t → Wrote z a c at k (s ++ t)
then x y z a b c s t at j k h r p q =
    record {
      place = omega (arith, p.place, q.place, length-append s t);
      short = omega (arith, p.short, q.short, length-append s t);
      size = q.size ∙ p.size;
      list = q.list ∙ ap (λ (i : ℕ). written_at i t b) p.place ∙ ap (λ (l : List ℕ). written_at (at + length s) t l) p.list ∙ written_after at s t a h;
    }

-- the same text in other words, with more room
pub retold : (x y : ℕ) (a b s t : List ℕ) (at k : ℕ) → s ≡ t → x ≤ y → Wrote x a b at k s → Wrote y a b at k t
retold x y a b s t at k e r w =
    record {
      place = w.place ∙ ap (λ (l : List ℕ). at + length l) e;
      short = omega (arith, w.short, ap length e);
      size = w.size;
      list = w.list ∙ ap (λ (l : List ℕ). written_at at l a) e;
    }

-- ---- bytes one after the other

pub text_step : (old mid new text : List ℕ) (at k j i : ℕ) → at + length text ≤ length old → i < length text → Wrote (length text) old mid at k (take i text)
    → Wrote 1 mid new k j (get_or text i 0 ∷ []) → Wrote (length text) old new at j (take (i + 1) text)
text_step old mid new text at k j i r h p q =
    let n : length (take i text) ≡ i = length-take-le i text (omega arith) in
    let more : take i text ++ get_or text i 0 ∷ [] ≡ take (i + 1) text = sym (ap (λ (m : ℕ). take m text) (add-one i) ∙ take-suc text i 0 h) in
    let first : Wrote i old mid at k (take i text) = record { place = p.place; short = omega (arith, n); size = p.size; list = p.list } in
    retold (length text) (length text) old new (take i text ++ get_or text i 0 ∷ []) (take (i + 1) text) at j more (omega arith)
    (then i 1 (length text) old mid new (take i text) (get_or text i 0 ∷ []) at k j (omega arith) (omega arith) first q)

pub text_end : (old new text : List ℕ) (at k i : ℕ) → length text ≤ i → Wrote (length text) old new at k (take i text) → Wrote (length text) old new at k text
text_end old new text at k i h w = retold (length text) (length text) old new (take i text) text at k (take_all i text h) (omega arith) w

-- ---- a number

-- what the library writes of a u32
pub number_made : (a b t : List ℕ) (at k n : ℕ) → Fits w32 n → t ≡ decimal n → Wrote (length t) a b at k t → Wrote 10 a b at k (digits n)
number_made a b t at k n h e w =
    let l : n < 4294967296 = h.fits in
    let d : t ≡ digits n = e ∙ decimal_is n (omega arith) in
    retold (length t) 10 a b t (digits n) at k d (omega (arith, digits-short 9 n (omega arith), ap length d)) w

pub number_room : (t : List ℕ) (n : ℕ) → Fits w32 n → t ≡ decimal n → length t ≤ 10
number_room t n h e =
    let l : n < 4294967296 = h.fits in
    omega (arith, digits-short 9 n (omega arith), ap length (e ∙ decimal_is n (omega arith)))

pub worded-made : (a b c w : List ℕ) (at j k n : ℕ) → at + length w + 10 ≤ length a → Wrote (length w) a b at j w → Wrote 10 b c j k (digits n) → Wrote (length w + 10) a c at k (worded w n)
unfolding worded
worded-made a b c w at j k n h p q = then (length w) 10 (length w + 10) a b c w (digits n) at j k (omega arith) (omega arith) p q

pub index-none : (a b : List ℕ) (at k i : ℕ) → i ≡ 0 → Wrote 1 a b at k (bytes "-") → Wrote 10 a b at k (index_text i)
unfolding index_text
index-none a b at k i z w = rw (eq-eqb i 0 z) (retold 1 10 a b (bytes "-") (bytes "-") at k refl (omega arith) w)

pub index_some : (a b : List ℕ) (at k i : ℕ) → (i ≡ 0 → ⊥) → Wrote 10 a b at k (digits i) → Wrote 10 a b at k (index_text i)
unfolding index_text
index_some a b at k i z w = rw (ne_eqb i 0 z) w

-- ---- the lines

pub ok_off_lem : (v : View) (a b c : List ℕ) (at j k : ℕ) → at + 64 ≤ length a → (v.on ≡ 1 → ⊥)
    → Wrote 17 a b at j (worded (bytes "ok off ") v.address) → Wrote 1 b c j k (bytes "\n")
    → Wrote 64 a c at k (ok_line v)
unfolding ok_line
ok_off_lem v a b c at j k h z p q =
    rw (ne_eqb v.on 1 z) (then 17 1 64 a b c (worded (bytes "ok off ") v.address) (bytes "\n") at j k (omega arith) (omega arith) p q)

pub ok_on_lem : (v : View) (a b c d e f : List ℕ) (at i j k l m : ℕ) → at + 64 ≤ length a → v.on ≡ 1
    → Wrote 16 a b at i (worded (bytes "ok on ") v.address)
    → Wrote 1 b c i j (bytes " ")
    → Wrote 10 c d j k (index_text v.index)
    → Wrote 15 d e k l (worded (bytes " exp ") v.expected)
    → Wrote 1 e f l m (bytes "\n")
    → Wrote 64 a f at m (ok_line v)
unfolding ok_line
ok_on_lem v a b c d e f at i j k l m h z p1 p2 p3 p4 p5 =
    let t1 = worded (bytes "ok on ") v.address in
    let t2 = t1 ++ bytes " " in
    let t3 = t2 ++ index_text v.index in
    let t4 = t3 ++ worded (bytes " exp ") v.expected in
    let o : at ≤ length a = omega arith in
    let q2 : Wrote 17 a c at j t2 = then 16 1 17 a b c t1 (bytes " ") at i j o (omega arith) p1 p2 in
    let q3 : Wrote 27 a d at k t3 = then 17 10 27 a c d t2 (index_text v.index) at j k o (omega arith) q2 p3 in
    let q4 : Wrote 42 a e at l t4 = then 27 15 42 a d e t3 (worded (bytes " exp ") v.expected) at k l o (omega arith) q3 p4 in
    rw (eq-eqb v.on 1 z) (then 42 1 64 a e f t4 (bytes "\n") at l m o (omega arith) q4 p5)

pub no_made : (a b c : List ℕ) (at j k n : ℕ) → at + 64 ≤ length a → Wrote 13 a b at j (worded (bytes "no ") n) → Wrote 1 b c j k (bytes "\n") → Wrote 64 a c at k (no_line n)
unfolding no_line
no_made a b c at j k n h p q = then 13 1 64 a b c (worded (bytes "no ") n) (bytes "\n") at j k (omega arith) (omega arith) p q

-- ---- a bundle

handles_last : (hs : List ℕ) (h : ℕ) → handles_text (hs ++ h ∷ []) ≡ handles_text hs ++ worded (bytes " ") h
unfolding handles_text
handles_last [] h = append-nil (worded (bytes " ") h)
handles_last (x ∷ hs) h =
    ap (λ (t : List ℕ). worded (bytes " ") x ++ t) (handles_last hs h)
    ∙ sym (append_assoc (worded (bytes " ") x) (handles_text hs) (worded (bytes " ") h))

-- old is the buffer as the loop finds it, and `at` the place after the count
pub record Bundling (old handles : List ℕ) (at : ℕ) (new : List ℕ) (k i : ℕ) : Type 0 where
  pub few : length handles ≤ 64
  pub room : at + 783 ≤ length old
  pub size : length new ≡ length old
  pub within : i ≤ length handles
  pub far : k ≤ at + 11 * i
  pub wrote : Wrote (11 * i) old new at k (handles_text (take i handles))

pub bundle_start : (first old handles : List ℕ) (from at : ℕ) → length handles ≤ 64 → from + 800 ≤ length first
    → Wrote 17 first old from at (worded (bytes "bundle ") (length handles)) → Bundling old handles at old at 0
unfolding handles_text
bundle_start first old handles from at h r w =
    record {
      few = h;
      room = omega (arith, r, w.place, w.short, w.size);
      size = refl;
      within = omega arith;
      far = omega arith;
      wrote = nothing 0 at old;
    }

pub bundle_step : (old handles new next : List ℕ) (at k j i : ℕ) → Bundling old handles at new k i → i < length handles
    → Wrote 11 new next k j (worded (bytes " ") (get_or handles i 0)) → Bundling old handles at next j (i + 1)
bundle_step old handles new next at k j i s h w =
    let one = worded (bytes " ") (get_or handles i 0) in
    let r : at + 783 ≤ length old = s.room in
    let more : handles_text (take i handles) ++ one ≡ handles_text (take (i + 1) handles) =
    sym (ap (λ (m : ℕ). handles_text (take m handles)) (add-one i) ∙ ap handles_text (take-suc handles i 0 h) ∙ handles_last (take i handles) (get_or handles i 0)) in
    record {
      few = s.few;
      room = s.room;
      size = w.size ∙ s.size;
      within = omega arith;
      far = omega (arith, s.far, w.place, w.short);
      wrote =
          retold (11 * (i + 1)) (11 * (i + 1)) old next (handles_text (take i handles) ++ one) (handles_text (take (i + 1) handles)) at j more (omega arith)
          (then (11 * i) 11 (11 * (i + 1)) old new next (handles_text (take i handles)) one at k j (omega arith) (omega arith) s.wrote w);
    }

pub bundle_end : (first old handles new next : List ℕ) (from at k j i : ℕ) → from + 800 ≤ length first
    → Wrote 17 first old from at (worded (bytes "bundle ") (length handles)) → Bundling old handles at new k i → length handles ≤ i → Wrote 1 new next k j (bytes "\n")
    → Wrote 800 first next from j (bundle_line handles)
unfolding bundle_line
bundle_end first old handles new next from at k j i r p s h w =
    let t = worded (bytes "bundle ") (length handles) in
    let m : t ++ handles_text (take i handles) ++ bytes "\n" ≡ t ++ handles_text handles ++ bytes "\n" =
    ap (λ (x : List ℕ). t ++ handles_text x ++ bytes "\n") (take_all i handles h) in
    let q : Wrote (17 + 11 * i) first new from k (t ++ handles_text (take i handles)) =
    then 17 (11 * i) (17 + 11 * i) first old new t (handles_text (take i handles)) from at k (omega arith) (omega arith) p s.wrote in
    retold 800 800 first next (t ++ handles_text (take i handles) ++ bytes "\n") (t ++ handles_text handles ++ bytes "\n") from j m (omega arith)
    (then (17 + 11 * i) 1 800 first new next (t ++ handles_text (take i handles)) (bytes "\n") from k j (omega arith) (omega (arith, s.few, s.within)) q w)

pub ruleset places = (byte_stored, nothing, text_step, text_end, number_made, worded-made, index-none, index_some, ok_off_lem, ok_on_lem, no_made, rules)
