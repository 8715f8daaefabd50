-- What writing at a place of a lent buffer does.
use Rattle.std.specs.Prelude.{◌≡◌, List, ℕ, ◌+◌, ◌≤◌, length}
use Rattle.list.specs.Find.{written_at}

-- the buffer old became new: the text, of `room` bytes at most, stands from `at` on, and the next place is the one after it
pub record Wrote (room : ℕ) (old new : List ℕ) (at next : ℕ) (text : List ℕ) : Type 0 where
  pub place : next ≡ at + length text
  pub short : length text ≤ room
  pub size : length new ≡ length old
  pub list : new ≡ written_at at text old
