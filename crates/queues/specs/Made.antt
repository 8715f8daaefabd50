-- What a list of bundles stands for, and when it is in its form.
use Rattle.std.specs.Prelude.{◌≡◌, Bool, ◌&&◌, List, [], ◌∷◌, map, ℕ, suc, ◌+◌, leb, length, take, drop, replicate}
use Rattle.std.specs.declared.option.Option.{Option}
use Rattle.std.specs.declared.option.Option.TheVariants.{None, Some}
use Rattle.list.specs.Pad.{pad}
use Rattle.list.specs.Find.{joined, sum}
use Rattle.list.specs.Lists.{IsList}
use Rattle.queues.specs.declared.bundles.Bundles.{Bundles}

-- the list cut into lists of those lengths, one after the other
unfoldable pub split_by : List ℕ → List ℕ → List (List ℕ)
split_by [] hs = []
split_by (n ∷ ns) hs = take n hs ∷ split_by ns (drop n hs)

-- each bundle is its handles
abbrev pub bundles_of : Bundles → List (List ℕ)
bundles_of b = split_by (take b.len b.lengths) (take b.total b.handles)

-- the bundle that is next, or nothing where there is none
abbrev pub front : List (List ℕ) → List ℕ
front [] = []
front (b ∷ bs) = b

abbrev pub front_len : List (List ℕ) → Option ℕ
front_len [] = None
front_len (b ∷ bs) = Some (length b)

-- at most 16 bundles of at most 64 handles in all, as many as the lengths say, and zeros past them
pub record IsBundles (b : Bundles) : Type 0 where
  pub lengths : IsList 16 0 b.len b.lengths
  pub handles : IsList 64 0 b.total b.handles
  pub whole : sum (take b.len b.lengths) ≡ b.total

abbrev pub size : List ℕ → ℕ
size l = length l

-- the one value that stands for the bundles: each one's length, and the handles of all of them one after the other
abbrev pub repr : List (List ℕ) → Bundles
repr bs =
    record {
      len = length bs;
      total = length (joined bs);
      lengths = pad 16 0 (map size bs);
      handles = pad 64 0 (joined bs);
    }

abbrev pub no_bundles : Bundles
no_bundles = record { len = 0; total = 0; lengths = replicate 16 0; handles = replicate 64 0 }

-- whether one more bundle of n handles has room
abbrev pub room : List (List ℕ) → ℕ → Bool
room bs n = leb (suc (length bs)) 16 && leb (length (joined bs) + n) 64
