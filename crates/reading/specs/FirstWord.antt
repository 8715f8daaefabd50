-- Which lines use the held records up: "an `in`, `bad` too, uses them up", and a `bad` line does "where its first word, up to a blank or the
-- end of the line, is exactly `in`".
use Rattle.std.specs.Prelude.{Bool, true, false, cond, ◌&&◌, List, [], ◌∷◌, ℕ, eqb, length, Result, Ok, Err}
use Rattle.reading.specs.declared.Command.{Command}
use Rattle.reading.specs.declared.Command.TheVariants.{In, Pig, Pop}
use Rattle.reading.specs.declared.Bad.{Bad}
use Rattle.reading.specs.declared.Bad.TheVariants.{Line, Arrival}
use Rattle.reading.specs.Text.{bytes}
use Rattle.reading.specs.Words.{begins}

-- up to a blank or the end of the line
unfoldable pub first_word : List ℕ → List ℕ
first_word [] = []
first_word (b ∷ bs) = cond (eqb b 32) [] (b ∷ first_word bs)

abbrev pub is_in : List ℕ → Bool
is_in w = begins (bytes "in") w && eqb (length w) 2

abbrev pub uses_up : Result Command Bad → Bool
uses_up (Ok (In t a r)) = true
uses_up (Ok (Pig r)) = false
uses_up (Ok (Pop k)) = false
uses_up (Err Line) = false
uses_up (Err Arrival) = true
