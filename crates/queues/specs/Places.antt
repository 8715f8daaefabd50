-- The groups of fragments that the structs stand for, and when they are in their form.
use Rattle.std.specs.Prelude.{◌≡◌, cond, List, [], ◌∷◌, map, ℕ, zero, suc, eqb, length, take, replicate, All}
use Rattle.std.specs.declared.option.Option.{Option}
use Rattle.std.specs.declared.option.Option.TheVariants.{None, Some}
use Rattle.list.specs.Pad.{pad}
use Rattle.list.specs.Lists.{IsList}
use Rattle.model.specs.State.{Group}
use Rattle.model.specs.Group.{filled}
use Rattle.queues.specs.declared.groups.Fragments.{Fragments}
use Rattle.queues.specs.declared.groups.Groups.{Groups}

-- ---- one group

-- a filled place has mark 1 and its handle, an empty one 0 and 0
abbrev pub mark_of : Option ℕ → ℕ
mark_of None = 0
mark_of (Some h) = 1

abbrev pub handle_of : Option ℕ → ℕ
handle_of None = 0
handle_of (Some h) = h

abbrev pub place_of : ℕ → ℕ → Option ℕ
place_of m h = cond (eqb m 1) (Some h) None

-- the first n places
unfoldable pub places : ℕ → List ℕ → List ℕ → List (Option ℕ)
places zero ms hs = []
places (suc n) [] hs = []
places (suc n) (m ∷ ms) [] = []
places (suc n) (m ∷ ms) (h ∷ hs) = place_of m h ∷ places n ms hs

abbrev pub group_of : Fragments → Group
group_of g = record { first = g.first; updated = g.updated; places = places g.len g.marks g.handles }

-- the one value that stands for a group
abbrev pub repr_group : Group → Fragments
repr_group g =
    record {
      updated = g.updated;
      first = g.first;
      len = length g.places;
      count = filled g.places;
      marks = pad 32 0 (map mark_of g.places);
      handles = pad 32 0 (map handle_of g.places);
    }

-- up to 32 places, filled places are counted truly, and unused places are zero
abbrev pub IsGroup : Fragments → Type 0
IsGroup g = g ≡ repr_group (group_of g)

-- ---- all groups of a channel

-- an unused place
abbrev pub no_fragments : Fragments
no_fragments = record { updated = 0; first = 0; len = 0; count = 0; marks = replicate 32 0; handles = replicate 32 0 }

-- what is read past the last group
abbrev pub no_group : Group
no_group = record { first = 0; updated = 0; places = [] }

abbrev pub groups_of : Groups → List Group
groups_of gs = map group_of (take gs.len gs.groups)

pub record IsGroups (gs : Groups) : Type 0 where
  pub groups : IsList 4 no_fragments gs.len gs.groups
  pub each : All IsGroup (take gs.len gs.groups)

-- the one value that stands for the groups
abbrev pub repr : List Group → Groups
repr gs = record { len = length gs; groups = pad 4 no_fragments (map repr_group gs) }

abbrev pub no_groups : Groups
no_groups = record { len = 0; groups = replicate 4 no_fragments }
