-- The groups of a channel: looking for one, and what they are after an edit.
use Rattle.std.proofs.Common.{◌≡◌, ℕ, suc, ◌+◌, ◌<◌, ◌≤◌, Bool, true, false, ◌||◌, subst, List, [], ◌∷◌, map, length, take, drop, get_or, refl, arith, ap, sym, ◌∙◌}
use Rattle.std.specs.List.{All, remove}
use Rattle.std.proofs.lemmas.List.{drop-map}
use mathlib.Core.List.{map-append}
use Rattle.list.proofs.Maps.{take-map}
use Rattle.std.proofs.lemmas.List.Elements.{All-append, All-take, All-drop}
use lib.ListN.{length-map, drop_of_length-le}
use Rattle.list.proofs.Positions.{drop_here}
use Rattle.list.proofs.Edits.{length_items}
use Rattle.model.specs.State.{Group}
use Rattle.list.specs.Lists.{IsList}
use Rattle.list.specs.Find.{has, position}
use Rattle.queues.specs.declared.groups.Fragments.{Fragments}
use Rattle.queues.specs.declared.groups.Groups.{Groups}
use Rattle.queues.specs.Places.{group_of, groups_of, no_fragments, IsGroup, IsGroups}

pub position_map : {X Y : Type 0} (p : Y → Bool) (f : X → Y) (xs : List X) → position p (map f xs) ≡ position (λ x. p (f x)) xs
unfolding position
position_map p f [] = refl
position_map p f (x ∷ xs) = rw (position_map p f xs) refl

module _ {X : Type 0} where
  pub map-remove : {Y : Type 0} (f : X → Y) (xs : List X) (i : ℕ) → map f (remove xs i) ≡ remove (map f xs) i
  map-remove f xs i = rw (map-append, take-map, drop-map) refl

  pub All-remove : (P : X → Type 0) (xs : List X) (i : ℕ) → All P xs → All P (remove xs i)
  All-remove P xs i all = All-append P _ _ (All-take P i xs all) (All-drop P (suc i) xs all)

-- ---- the groups of a channel

pub long : (gs : Groups) → IsGroups gs → length (groups_of gs) ≡ gs.len
long gs w = length-map (take gs.len gs.groups) group_of ∙ length_items 4 gs.len no_fragments gs.groups w.groups

pub inside : (gs : Groups) (i : ℕ) → IsGroups gs → i < length (groups_of gs) → i < gs.len
inside gs i w h = omega (arith, long gs w)

-- one is gone
module _ (gs : Groups) (n i : ℕ) (l : List Fragments) (w : IsGroups gs) (h : IsList 4 no_fragments n l) (e : take n l ≡ remove (take gs.len gs.groups) i) where
  pub removed : IsGroups (record { len = n; groups = l })
  removed = record { groups = h; each = subst (All IsGroup) (sym e) (All-remove IsGroup (take gs.len gs.groups) i w.each) }

  pub removed_items : map group_of (take n l) ≡ remove (groups_of gs) i
  removed_items = ap (map group_of) e ∙ map-remove group_of (take gs.len gs.groups) i

-- a search for a handle, group by group
pub holds_at : (f : Group → Bool) (gs : List Fragments) (i : ℕ) (d : Fragments) → i < length gs → has f (map group_of (drop i gs)) ≡ (f (group_of (get_or gs i d)) || has f (map group_of (drop (i + 1) gs)))
unfolding has
holds_at f gs i d h = rw (drop_here gs i d h) refl

pub held_here : (f : Group → Bool) (gs : List Fragments) (i : ℕ) (d : Fragments) (b : Bool) → i < length gs → b ≡ f (group_of (get_or gs i d)) → b ≡ true
    → has f (map group_of (drop i gs)) ≡ has f (map group_of gs) → true ≡ has f (map group_of gs)
held_here f gs i d b h e t inv = sym (sym inv ∙ (holds_at f gs i d h ∙ ap (λ c. c || has f (map group_of (drop (i + 1) gs))) (sym e ∙ t)))

pub held_on : (f : Group → Bool) (gs : List Fragments) (i : ℕ) (d : Fragments) (b : Bool) → i < length gs → b ≡ f (group_of (get_or gs i d)) → b ≡ false
    → has f (map group_of (drop i gs)) ≡ has f (map group_of gs) → has f (map group_of (drop (i + 1) gs)) ≡ has f (map group_of gs)
held_on f gs i d b h e t inv = sym (ap (λ c. c || has f (map group_of (drop (i + 1) gs))) (sym e ∙ t)) ∙ (sym (holds_at f gs i d h) ∙ inv)

pub held_none : (f : Group → Bool) (gs : List Fragments) (i : ℕ) → length gs ≤ i → has f (map group_of (drop i gs)) ≡ false
unfolding has
held_none f gs i h = rw (drop_of_length-le gs {i = i} h) refl
