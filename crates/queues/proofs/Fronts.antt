-- The bundle that is next, and what is left without it.
use Rattle.std.proofs.Common.{◌≡◌, ℕ, ◌+◌, ◌≤◌, ◌<◌, List, [], ◌∷◌, length, get_or, take, drop, refl, arith, ap, sym, ◌∙◌, length-drop, length-take}
use Rattle.std.specs.declared.option.Option.TheVariants.{Some}
use Rattle.std.proofs.lemmas.List.{places}
use lib.Seq.{take-take}
use Rattle.list.specs.Find.{sum}
use Rattle.list.specs.Lists.{IsList}
use Rattle.queues.specs.Made.{split_by, bundles_of, IsBundles, front, front_len}
use Rattle.queues.specs.declared.bundles.Bundles.{Bundles}

cut_front : (ns hs : List ℕ) → 0 < length ns → split_by ns hs ≡ take (get_or ns 0 0) hs ∷ split_by (drop 1 ns) (drop (get_or ns 0 0) hs)
unfolding split_by
cut_front [] hs h = absurd (omega arith)
cut_front (n ∷ ns) hs h = refl

sum_front : (ns : List ℕ) → 0 < length ns → sum ns ≡ get_or ns 0 0 + sum (drop 1 ns)
unfolding sum
sum_front [] h = absurd (omega arith)
sum_front (n ∷ ns) h = refl

pub no_bundle : (b : Bundles) → b.len ≡ 0 → bundles_of b ≡ []
unfolding split_by
no_bundle b e = ap (λ k. split_by (take k b.lengths) (take b.total b.handles)) e

module _ (b : Bundles) (w : IsBundles b) (some : b.len ≡ 0 → ⊥) where
  abbrev n : ℕ
  n = get_or b.lengths 0 0

  here : 0 < length (take b.len b.lengths)
  here = omega (arith, length-take b.len b.lengths, w.lengths.size, w.lengths.fits, some)

  first : get_or (take b.len b.lengths) 0 0 ≡ n
  first = let a = w.lengths.size in let f = w.lengths.fits in grind (arith, places, some)

  -- the bundles are that one and the others
  cut : bundles_of b ≡ take n (take b.total b.handles) ∷ split_by (drop 1 (take b.len b.lengths)) (drop n (take b.total b.handles))
  cut = cut_front _ _ here ∙ ap (λ k. take k (take b.total b.handles) ∷ split_by (drop 1 (take b.len b.lengths)) (drop k (take b.total b.handles))) first

  left : sum (drop 1 (take b.len b.lengths)) + n ≡ b.total
  left = omega (arith, sum_front _ here, first, w.whole)

  pub short : n ≤ b.total
  short = omega (arith, left)

  pub in_all : n ≤ 64
  in_all = omega (arith, short, w.handles.size, w.handles.fits)

  pub front_is : front (bundles_of b) ≡ take n b.handles
  front_is =
      let both : take n (take b.total b.handles) ≡ take n b.handles = take-take n b.total b.handles short in
      ap front cut ∙ both

  pub front_size : length (front (bundles_of b)) ≡ n
  front_size = ap length front_is ∙ omega (arith, length-take n b.handles, in_all, w.handles.size)

  pub front_len_is : Some n ≡ front_len (bundles_of b)
  front_len_is =
      let size : length (take n (take b.total b.handles)) ≡ n = omega (arith, length-take n (take b.total b.handles), length-take b.total b.handles, w.handles.size, w.handles.fits, short) in
      sym (ap front_len cut ∙ ap (λ k. Some k) size)

  module _ (m t : ℕ) (ls hs : List ℕ) (l : IsList 16 0 m ls) (h : IsList 64 0 t hs) (p : take m ls ≡ drop 1 (take b.len b.lengths)) (q : take t hs ≡ drop n (take b.total b.handles)) where
    pub popped : IsBundles (record { len = m; total = t; lengths = ls; handles = hs })
    popped = record {
      lengths = l;
      handles = h;
      whole = ap sum p ∙ omega (arith, left, ap length q, length-take t hs, length-drop n (take b.total b.handles), length-take b.total b.handles, h.size, h.fits, w.handles.size, w.handles.fits);
    }

    pub popped_items : split_by (take m ls) (take t hs) ≡ drop 1 (bundles_of b)
    popped_items = rw (p, q) (sym (ap (drop 1) cut))
