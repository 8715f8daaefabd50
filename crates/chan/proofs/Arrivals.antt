-- The reorder rule, case by case, and what the grouping then leaves.
use Rattle.std.proofs.Common.{◌≡◌, ℕ, ◌<◌, inl, inr, false, List, [], ◌∷◌, ◌++◌, length, take, drop, refl, arith, ap, sym, ◌∙◌, subst, ◌≤◌, ◌⊎◌, length-append, ne_eqb}
use borrow.Author.Tests.{lt-leb}
use mathlib.Core.Bool.{and-false}
use Rattle.list.specs.Find.{joined}
use Rattle.std.specs.declared.cmp.Ordering.{Ordering}
use Rattle.std.specs.declared.cmp.Ordering.TheVariants.{Less, Equal, Greater}
use Rattle.seq.specs.Num.{add, cmp}
use Rattle.packet.specs.declared.Packet.{Packet}
use Rattle.model.specs.Group.{Grouped, go, step, before, group}
use Rattle.model.proofs.Grouping.{group-stop, group-go}
use Rattle.seq.specs.NumLaws.{cmp-same}
use Rattle.list.proofs.Joined.{joined-one}
use Rattle.model.specs.Reorder.{Reliable, move, place, insert_buffered, reorder, regroup, arrive}
use Rattle.chan.specs.Fronts.{TooMany}
use Rattle.chan.specs.Arriving.{run, advanced, within, Kept, joined_with, Alone}
use Rattle.chan.proofs.Moves.{move-run}

-- ---- the rule

pub advanced_is : (e n k x : ℕ) (b q b' q' : List Packet) (bs : List (List ℕ)) (p : Packet) → n ≡ add e 1 → k ≡ run n b → x ≡ add n k
    → b' ≡ drop k b → q' ≡ (q ++ p ∷ []) ++ take k b
    → ◌≡◌ {A = Reliable} (record { expected = x; buffer = b'; queue = q'; bundles = bs }) (move (add e 1) b (q ++ p ∷ []) bs)
advanced_is e n k x b q b' q' bs p hn hk hx hb hq =
    let small : add e 1 < 0x1000_0000 = omega arith in
    rw (hb, hq, hx, hk, hn) (sym (move-run (add e 1) small b (q ++ p ∷ []) bs))

module _ (r : Reliable) (p : Packet) (o : Ordering) (k : o ≡ cmp p.number r.expected) where
  by : reorder r p ≡ place o r p
  unfolding reorder
  by = ap (λ (x : Ordering). place x r p) (sym k)

  pub equal : o ≡ Equal → advanced r p ≡ reorder r p
  equal e = sym (by ∙ ap (λ (x : Ordering). place x r p) e)

  pub less : o ≡ Less → r ≡ reorder r p
  less e = sym (by ∙ ap (λ (x : Ordering). place x r p) e)

  pub greater : o ≡ Greater → record r { buffer = insert_buffered p r.buffer } ≡ reorder r p
  greater e = sym (by ∙ ap (λ (x : Ordering). place x r p) e)

  pub greater_full : o ≡ Greater → 32 < length (insert_buffered p r.buffer) → 32 < length (reorder r p).buffer
  greater_full e h = subst (λ (m : Reliable). 32 < length m.buffer) (greater e) h

-- ---- and the grouping

module _ (r x : Reliable) (p : Packet) (is : x ≡ reorder r p) where
  abbrev after : Reliable
  after = record { expected = x.expected; buffer = x.buffer; queue = (group x.queue).rest; bundles = x.bundles ++ (group x.queue).made }

  pub arrives : after ≡ arrive r p
  unfolding arrive regroup
  arrives = ap regroup is

  pub over_buffer : 32 < length x.buffer → within (arrive r p) ≡ false
  over_buffer h = ap within (sym arrives) ∙ rw (lt-leb (length x.buffer) 32 h) refl

  pub over_queue : 32 < length (group x.queue).rest → within (arrive r p) ≡ false
  over_queue h = ap within (sym arrives) ∙ rw (lt-leb (length (group x.queue).rest) 32 h, and-false) refl

  pub over_bundles : TooMany (x.bundles ++ (group x.queue).made) → within (arrive r p) ≡ false
  over_bundles (inl h) = ap within (sym arrives) ∙ rw (lt-leb (length (x.bundles ++ (group x.queue).made)) 16 h, and-false, and-false) refl
  over_bundles (inr h) = ap within (sym arrives) ∙ rw (lt-leb (length (joined (x.bundles ++ (group x.queue).made))) 64 h, and-false, and-false, and-false) refl

  pub arrived : (k l : Kept) → k ≡ l → joined_with after k ≡ joined_with (arrive r p) l
  arrived k l e = ap (joined_with after) e ∙ ap (λ (m : Reliable). joined_with m l) arrives

-- ---- a packet that comes alone

-- the front goes, and nothing is left
alone_group : (p : Packet) → (p.ranged ≡ 1 → ⊥) → group (p ∷ []) ≡ record { made = (p.handle ∷ []) ∷ []; rest = [] }
unfolding step
alone_group p h =
    let s : step (p ∷ []) ≡ go ((p.handle ∷ []) ∷ []) [] = rw (ne_eqb p.ranged 1 h) in
    group-go (p ∷ []) s ∙ ap (before ((p.handle ∷ []) ∷ [])) (group-stop [] refl)

alone_cmp : (n e : ℕ) → n ≡ e → cmp n e ≡ Equal
alone_cmp n e q = ap (λ (x : ℕ). cmp x e) q ∙ cmp-same e

module _ (r : Reliable) (p : Packet) (a : Alone r p) where
  abbrev passed : Reliable
  passed = record { expected = add r.expected 1; buffer = r.buffer; queue = r.queue; bundles = r.bundles ++ (p.handle ∷ []) ∷ [] }

  alone_arrive : passed ≡ arrive r p
  unfolding arrive regroup reorder move
  alone_arrive =
      let c : Reliable = record { expected = r.expected; buffer = []; queue = []; bundles = r.bundles } in
      let s : r ≡ c = λ i. record { expected = r.expected; buffer = a.buffer i; queue = a.queue i; bundles = r.bundles } in
      let t : passed ≡ record { expected = add r.expected 1; buffer = []; queue = []; bundles = r.bundles ++ (p.handle ∷ []) ∷ [] } =
      λ i. record { expected = add r.expected 1; buffer = a.buffer i; queue = a.queue i; bundles = r.bundles ++ (p.handle ∷ []) ∷ [] } in
      let q : arrive r p ≡ record { expected = add r.expected 1; buffer = []; queue = []; bundles = r.bundles ++ (p.handle ∷ []) ∷ [] } =
      ap (λ (x : Reliable). arrive x p) s
      ∙ ap (λ (o : Ordering). regroup (place o c p)) (alone_cmp p.number r.expected a.next)
      ∙ ap (λ (g : Grouped). record { expected = add r.expected 1; buffer = []; queue = g.rest; bundles = r.bundles ++ g.made }) (alone_group p a.plain) in
      t ∙ sym q

  pub alone_arrived : (k : Kept) → joined_with passed k ≡ joined_with (arrive r p) k
  alone_arrived k = ap (λ (m : Reliable). joined_with m k) alone_arrive

  pub alone_full : 16 ≤ length r.bundles ⊎ 64 ≤ length (joined r.bundles) → within (arrive r p) ≡ false
  unfolding joined
  alone_full (inl h) =
      let more : 16 < length passed.bundles = omega (arith, length-append r.bundles ((p.handle ∷ []) ∷ [])) in
      ap within (sym alone_arrive) ∙ rw (lt-leb (length passed.bundles) 16 more, and-false, and-false) refl
  alone_full (inr h) =
      let more : 64 < length (joined passed.bundles) = omega (arith, ap length (joined-one r.bundles (p.handle ∷ [])), length-append (joined r.bundles) (p.handle ∷ [])) in
      ap within (sym alone_arrive) ∙ rw (lt-leb (length (joined passed.bundles)) 64 more, and-false, and-false, and-false) refl
