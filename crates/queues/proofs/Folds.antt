-- Folds over words, packets and places: what is small, or blank, after all were laid over one another is so in each; what a fold that
-- carries a value along says of the whole list.
use Rattle.std.proofs.Common.{zero, suc, ◌%◌, ◌*◌, ◌≡◌, ℕ, ◌+◌, ◌^◌, ◌<◌, ◌≤◌, Bool, true, false, ◌&&◌, List, [], ◌∷◌, length, fold, All, replicate, bit_or, arith, sym, refl, ◌∙◌, ap, subst}
use mathlib.Core.Bool.{and-false}
use lib.Dec.{eqb, ltb, leb}
use Rattle.std.proofs.lemmas.Nat.{or_lt, le_or_l, le_or_r}
use Rattle.std.proofs.lemmas.Bool.Decides.{nat_tests}
use Rattle.std.proofs.lemmas.List.Elements.{All-nil, All-cons, All-head, All-tail}
use Rattle.std.specs.List.{zip}
use Rattle.list.specs.Pad.{all_b}
use Rattle.list.specs.Find.{sum}
use Rattle.list.proofs.Pad.{and_left, and_right}
use Rattle.list.proofs.Edits.{blanks_by, blank_by}
use Rattle.seq.specs.Num.{dist, sub}
use Rattle.packet.specs.declared.Packet.{Packet}
use Rattle.packet.specs.declared.OutEntry.{OutEntry}
use Rattle.packet.specs.Data.{no_packet, no_entry}
use Rattle.model.specs.Wellformed.{packet_good, rising, consecutive}
use Rattle.queues.specs.Tests.{place_good, places_good}
use Rattle.queues.specs.Folds.{wrapped, over_times, over_words, over, rise, follow, count_place}

-- ---- words laid over one another

abbrev pub Below : ℕ → ℕ → Type 0
Below k n = n < 2 ^ k

pub each_below : (k a : ℕ) (xs : List ℕ) → fold bit_or a xs < 2 ^ k → (a < 2 ^ k) × All (λ n. n < 2 ^ k) xs
each_below k a [] h = (h, All-nil (Below k))
each_below k a (x ∷ xs) h =
    let rest = each_below k (bit_or a x) xs h in
    let l = le_or_l a x in
    let r = le_or_r a x in
    let both = rest.0 in
    (omega arith, All-cons (Below k) x xs (omega arith) rest.1)

pub all_below : (k a : ℕ) (xs : List ℕ) → a < 2 ^ k → All (λ n. n < 2 ^ k) xs → fold bit_or a xs < 2 ^ k
all_below k a [] h all = h
all_below k a (x ∷ xs) h all =
    all_below k (bit_or a x) xs (or_lt k a x h (All-head (Below k) x xs all)) (All-tail (Below k) x xs all)

abbrev pub IsNone : Packet → Type 0
IsNone p = p ≡ no_packet

pub none_over : (a p : Packet) → over a p ≡ no_packet → (a ≡ no_packet) × (p ≡ no_packet)
none_over a p e =
    let n0 = ap (λ (q : Packet). q.number) e in
    let h0 = ap (λ (q : Packet). q.handle) e in
    let r0 = ap (λ (q : Packet). q.ranged) e in
    let f0 = ap (λ (q : Packet). q.first) e in
    let l0 = ap (λ (q : Packet). q.last) e in
    let nl = le_or_l a.number p.number in
    let nr = le_or_r a.number p.number in
    let hl = le_or_l a.handle p.handle in
    let hr = le_or_r a.handle p.handle in
    let rl = le_or_l a.ranged p.ranged in
    let rr = le_or_r a.ranged p.ranged in
    let fl = le_or_l a.first p.first in
    let fr = le_or_r a.first p.first in
    let ll = le_or_l a.last p.last in
    let lr = le_or_r a.last p.last in
    let an : a.number ≡ 0 = omega arith in
    let ah : a.handle ≡ 0 = omega arith in
    let ar : a.ranged ≡ 0 = omega arith in
    let af : a.first ≡ 0 = omega arith in
    let al : a.last ≡ 0 = omega arith in
    let pn : p.number ≡ 0 = omega arith in
    let ph : p.handle ≡ 0 = omega arith in
    let pr : p.ranged ≡ 0 = omega arith in
    let pf : p.first ≡ 0 = omega arith in
    let pl : p.last ≡ 0 = omega arith in
    (grind arith, grind arith)

pub each_none : (a : Packet) (ps : List Packet) → fold over a ps ≡ no_packet → (a ≡ no_packet) × All (λ p. p ≡ no_packet) ps
each_none a [] h = (h, All-nil IsNone)
each_none a (p ∷ ps) h =
    let rest = each_none (over a p) ps h in
    let both = none_over a p rest.0 in
    (both.0, All-cons IsNone p ps both.1 rest.1)

pub all_none : (ps : List Packet) → All (λ p. p ≡ no_packet) ps → fold over no_packet ps ≡ no_packet
all_none [] all = refl
all_none (p ∷ ps) all = subst (λ q. fold over (over no_packet q) ps ≡ no_packet) (sym (All-head IsNone p ps all)) (all_none ps (All-tail IsNone p ps all))

pub zero_bits : (xs : List ℕ) → fold bit_or 0 xs ≡ 0 → xs ≡ replicate (length xs) 0
zero_bits xs e =
    let h = each_below 0 0 xs (omega arith) in
    blanks_by xs 0 (λ k d b. let one = h.1 k d b in omega arith)

pub bits_zero : (xs : List ℕ) → xs ≡ replicate (length xs) 0 → fold bit_or 0 xs ≡ 0
bits_zero xs e =
    let all = blank_by xs 0 e in
    let h = all_below 0 0 xs (omega arith) (λ k d b. let zero = all k d b in omega arith) in
    omega arith

pub legal_bits : (xs : List ℕ) → fold bit_or 0 xs ≤ 0x0FFF_FFFF → All (λ n. n ≤ 0x0FFF_FFFF) xs
legal_bits xs le =
    let h = each_below 28 0 xs (omega arith) in
    λ k d b. let one = h.1 k d b in omega arith

pub bits_legal : (xs : List ℕ) → All (λ n. n ≤ 0x0FFF_FFFF) xs → fold bit_or 0 xs ≤ 0x0FFF_FFFF
bits_legal xs all =
    let h = all_below 28 0 xs (omega arith) (λ k d b. let one = all k d b in omega arith) in
    omega arith

pub packets_by : (ps : List Packet) → fold over no_packet ps ≡ no_packet → ps ≡ replicate (length ps) no_packet
packets_by ps e = blanks_by ps no_packet (each_none no_packet ps e).1

pub packets_none : (ps : List Packet) → ps ≡ replicate (length ps) no_packet → fold over no_packet ps ≡ no_packet
packets_none ps e = all_none ps (blank_by ps no_packet e)

-- ---- packets

rise_here : (g x y z a r : Bool) → (g && (x && y && z)) && (a && r) ≡ g && ((x && a) && (y && z && r))
rise_here false x y z a r = refl
rise_here true false y z a r = refl
rise_here true true false z a r = sym (and-false a)
rise_here true true true false a r = sym (and-false a)
rise_here true true true true a r = refl

pub rise_fold : (e : ℕ) (ps : List Packet) (g : Bool) (d : ℕ) → (fold (rise e) (g, d) ps).0 ≡ (g && (all_b packet_good ps && rising e d ps))
unfolding rising all_b
rise_fold e [] true d = refl
rise_fold e [] false d = refl
rise_fold e (p ∷ ps) g d =
    rise_fold e ps (g && (packet_good p && ltb d (dist p.number e) && leb (dist p.number e) 0x800_0000)) (dist p.number e)
    ∙ rise_here g (packet_good p) (ltb d (dist p.number e)) (leb (dist p.number e) 0x800_0000) (all_b packet_good ps) (rising e (dist p.number e) ps)

follow_here : (g x y a r : Bool) → (g && (x && y)) && (a && r) ≡ g && ((x && a) && (y && r))
follow_here false x y a r = refl
follow_here true false y a r = refl
follow_here true true false a r = sym (and-false a)
follow_here true true true a r = refl

pub follow_due : (e : ℕ) (ps : List Packet) (g : Bool) (due : ℕ) → length ps ≤ 0x1_0000_0000 → due ≡ sub e (length ps) → (fold follow (g, due) ps).0 ≡ (g && (all_b packet_good ps && consecutive e ps))
unfolding consecutive all_b
follow_due e [] true due h q = refl
follow_due e [] false due h q = refl
follow_due e (p ∷ ps) g due h q =
    let next : (due + 1) % 0x1000_0000 ≡ sub e (length ps) = omega arith in
    follow_due e ps (g && (packet_good p && eqb p.number due)) ((due + 1) % 0x1000_0000) (omega arith) next
    ∙ follow_here g (packet_good p) (eqb p.number due) (all_b packet_good ps) (consecutive e ps)
    ∙ ap (λ (n : ℕ). g && (all_b packet_good (p ∷ ps) && (eqb p.number n && consecutive e ps))) q

pub follow_fold : (e : ℕ) (ps : List Packet) → length ps ≤ 32 → (fold follow (true, sub e (length ps)) ps).0 ≡ (all_b packet_good ps && consecutive e ps)
follow_fold e ps h = follow_due e ps true (sub e (length ps)) (omega arith) refl

-- ---- sums

abbrev pub Small : ℕ → Type 0
Small n = n < 2 ^ 7

pub small_sum : (a : ℕ) (xs : List ℕ) → All (λ n. n < 2 ^ 7) xs → a + 128 * length xs < 0x1_0000_0000 → fold wrapped a xs ≡ a + sum xs
unfolding sum
small_sum a [] all lt = search arith
small_sum a (x ∷ xs) all lt =
    let one = All-head Small x xs all in
    let same : wrapped a x ≡ a + x = omega arith in
    let rest = small_sum (a + x) xs (All-tail Small x xs all) (omega arith) in
    subst (λ s. fold wrapped s xs ≡ a + (x + sum xs)) (sym same) (omega arith)

pub each_in_sum : (xs : List ℕ) → All (λ n. n ≤ sum xs) xs
unfolding sum
each_in_sum [] = All-nil _
each_in_sum (x ∷ xs) =
    All-cons (λ n. n ≤ (x + sum xs)) x xs (omega arith) (λ k d b. let le = each_in_sum xs k d b in omega arith)

pub sums_to : (xs : List ℕ) (total : ℕ) → length xs ≤ 64 → fold bit_or 0 xs < 128 → fold wrapped 0 xs ≡ total → sum xs ≡ total
sums_to xs total few small e =
    let h = each_below 7 0 xs (omega arith) in
    let s = small_sum 0 xs h.1 (omega arith) in
    omega arith

pub summed : (xs : List ℕ) (total : ℕ) → length xs ≤ 64 → total ≤ 64 → sum xs ≡ total → (fold bit_or 0 xs < 128) × (fold wrapped 0 xs ≡ total)
summed xs total few fits e =
    let each : All (λ n. n < 2 ^ 7) xs = λ k d b. let le = each_in_sum xs k d b in omega arith in
    let h = all_below 7 0 xs (omega arith) each in
    let s = small_sum 0 xs each (omega arith) in
    (omega arith, omega arith)

pub record IsTimeless (e : OutEntry) : Type 0 where
  pub time : e.time ≡ 0
  pub sent : e.sent ≡ 0

pub record IsWordless (e : OutEntry) : Type 0 where
  pub number : e.number ≡ 0
  pub held : e.held ≡ 0
  pub handle : e.handle ≡ 0

pub no_times : (a : ℕ × ℕ) (es : List OutEntry) → (fold over_times a es).0 ≡ 0 → (fold over_times a es).1 ≡ 0 → (a.0 ≡ 0) × (a.1 ≡ 0) × All IsTimeless es
no_times a [] h k = (h, k, All-nil IsTimeless)
no_times a (e ∷ es) h k =
    let rest = no_times (over_times a e) es h k in
    let tl = le_or_l a.0 e.time in
    let tr = le_or_r a.0 e.time in
    let sl = le_or_l a.1 e.sent in
    let sr = le_or_r a.1 e.sent in
    let t = rest.0 in
    let s = rest.1 in
    (omega arith, omega arith, All-cons IsTimeless e es (record { time = omega arith; sent = omega arith }) rest.2)

pub no_words : (a : ℕ) (es : List OutEntry) → fold over_words a es ≡ 0 → (a ≡ 0) × All IsWordless es
no_words a [] h = (h, All-nil IsWordless)
no_words a (e ∷ es) h =
    let rest = no_words (over_words a e) es h in
    let al = le_or_l a e.number in
    let ar = le_or_r a e.number in
    let bl = le_or_l (bit_or a e.number) e.held in
    let br = le_or_r (bit_or a e.number) e.held in
    let cl = le_or_l (bit_or (bit_or a e.number) e.held) e.handle in
    let cr = le_or_r (bit_or (bit_or a e.number) e.held) e.handle in
    let w = rest.0 in
    (omega arith, All-cons IsWordless e es (record { number = omega arith; held = omega arith; handle = omega arith }) rest.1)

pub entries_by : (es : List OutEntry) → (fold over_times (0, 0) es).0 ≡ 0 → (fold over_times (0, 0) es).1 ≡ 0 → fold over_words 0 es ≡ 0 → es ≡ replicate (length es) no_entry
entries_by es h k w =
    let times = (no_times (0, 0) es h k).2 in
    let words = (no_words 0 es w).1 in
    blanks_by es no_entry (λ i d b. let t = times i d b in let u = words i d b in let a = t.time in let s = t.sent in let n = u.number in let l = u.held in let f = u.handle in grind arith)

pub times_none : (n : ℕ) → fold over_times (0, 0) (replicate n no_entry) ≡ (0, 0)
times_none zero = refl
times_none (suc n) = times_none n

pub words_none : (n : ℕ) → fold over_words 0 (replicate n no_entry) ≡ 0
words_none zero = refl
words_none (suc n) = words_none n

-- ---- places of groups

count_here : (g x r : Bool) → (g && x) && r ≡ g && (x && r)
count_here false x r = refl
count_here true x r = refl

pub counts_good : (ms hs : List ℕ) (g : Bool) (s : ℕ) → (fold count_place (g, s) (zip ms hs)).0 ≡ (g && places_good ms hs)
unfolding places_good
counts_good [] hs true s = refl
counts_good [] hs false s = refl
counts_good (m ∷ ms) [] true s = refl
counts_good (m ∷ ms) [] false s = refl
counts_good (m ∷ ms) (h ∷ hs) g s = counts_good ms hs (g && place_good m h) (wrapped s m) ∙ count_here g (place_good m h) (places_good ms hs)

mark_small : (m h : ℕ) → place_good m h ≡ true → m ≤ 1
mark_small m h e = grind (arith, nat_tests)

pub counts_marks : (ms hs : List ℕ) (g : Bool) (s : ℕ) → length ms ≡ length hs → s + length ms < 0x1_0000_0000 → places_good ms hs ≡ true
    → (fold count_place (g, s) (zip ms hs)).1 ≡ s + sum ms
unfolding places_good sum
counts_marks [] hs g s e lt all = search arith
counts_marks (m ∷ ms) [] g s e lt all = absurd (omega arith)
counts_marks (m ∷ ms) (h ∷ hs) g s e lt all =
    let one = mark_small m h (and_left (place_good m h) (places_good ms hs) all) in
    let rest = and_right (place_good m h) (places_good ms hs) all in
    let same : wrapped s m ≡ s + m = omega arith in
    let more = counts_marks ms hs (g && place_good m h) (wrapped s m) (omega arith) (omega arith) rest in
    more ∙ omega arith
