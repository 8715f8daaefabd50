-- A whole input: "read up to 60,000 bytes, one command a line", and its answers in order.
use Rattle.std.specs.Prelude.{◌≡◌, cond, List, [], ◌∷◌, ◌++◌, ℕ, ◌+◌, ◌-◌, ◌≤◌, ◌<◌, ltb, eqb, length, take, drop}
use Rattle.std.specs.List.{position_or_len}
use Rattle.writing.specs.Answers.{bad_line}
use Rattle.writing.specs.Wrote.{Wrote}
use Rattle.script.specs.declared.Ran.{Ran}
use Rattle.script.specs.Plain.{Plain, start, plain_answers}
use Rattle.script.specs.Lines.{step_of}

-- ---- lines

-- the lines that have their line feed, without it, and what stands behind the last line feed
pub record Cut : Type 0 where
  pub lines : List (List ℕ)
  pub rest : List ℕ

-- a byte in front: it belongs to the first line, or where there is none to the rest
abbrev pub in_front : ℕ → List (List ℕ) → List ℕ → Cut
in_front b [] rest = record { lines = []; rest = b ∷ rest }
in_front b (l ∷ ls) rest = record { lines = (b ∷ l) ∷ ls; rest = rest }

unfoldable pub cut_of : List ℕ → Cut
cut_of [] = record { lines = []; rest = [] }
cut_of (b ∷ bs) =
    cond (eqb b 10)
    (record { lines = [] ∷ (cut_of bs).lines; rest = (cut_of bs).rest })
    (in_front b (cut_of bs).lines (cut_of bs).rest)

-- ---- answers

unfoldable pub answers : Plain → List (List ℕ) → List ℕ
answers s [] = []
answers s (l ∷ ls) = (step_of s l).text ++ answers (step_of s l).state ls

-- "A last line without its line feed is `bad`"; where nothing stands behind the last line feed there is none
abbrev pub unfinished : List ℕ → List ℕ
unfinished [] = []
unfinished (b ∷ bs) = bad_line

abbrev pub cut_answers : Plain → Cut → List ℕ
cut_answers s c = answers s c.lines ++ unfinished c.rest

-- what is answered to an input that begins at this state
unfoldable pub run_from : Plain → List ℕ → List ℕ
run_from s input = cut_answers s (cut_of input)

-- "Standard input, read up to 60,000 bytes"
unfoldable pub read : List ℕ → List ℕ
read input = take 60000 input

-- all that the driver writes, in the specification's words: any number of records may be held
unfoldable pub run_of : List ℕ → List ℕ
run_of input = plain_answers start (cut_of (read input)).lines ++ unfinished (cut_of (read input)).rest

-- ---- a part of the answers, in a buffer of so much room

-- the state that is left, how much of the input was read, and the answers
pub record Part : Type 0 where
  pub state : Plain
  pub taken : ℕ
  pub text : List ℕ

abbrev pub no_part : Plain → Part
no_part s = record { state = s; taken = 0; text = [] }

-- n bytes and their answers before a part
abbrev pub behind : List ℕ → ℕ → Part → Part
behind text n p = record { state = p.state; taken = n + p.taken; text = text ++ p.text }

abbrev pub last_part : Plain → List ℕ → Part
last_part s rest = record { state = s; taken = length rest; text = unfinished rest }

-- a line is answered if 800 bytes are left, which no answer exceeds, and else no more is
unfoldable pub part_of : ℕ → Plain → List (List ℕ) → List ℕ → Part
part_of room s [] rest = cond (ltb room 800) (no_part s) (last_part s rest)
part_of room s (l ∷ ls) rest =
    cond (ltb room 800)
    (no_part s)
    (behind (step_of s l).text (length l + 1) (part_of (room - length (step_of s l).text) (step_of s l).state ls rest))

abbrev pub part_from : ℕ → Plain → List ℕ → Part
part_from room s input = part_of room s (cut_of input).lines (cut_of input).rest

-- ---- what the code does on the way

-- how many bytes stand before the first line feed, all of them where there is none
abbrev pub feed_at : List ℕ → ℕ
feed_at l = position_or_len (λ b. eqb b 10) l

abbrev pub cut : ℕ → ℕ
cut n = cond (ltb n 60000) n 60000

-- how far an input is answered: the state, the place in the input, and how much of the buffer the answers take
pub record Going : Type 0 where
  pub state : Plain
  pub at : ℕ
  pub len : ℕ

abbrev pub going : Plain → Ran → Going
going p r = record { state = p; at = r.at; len = r.len }

-- from r to x one line was read, and its answer, the text, stands in the buffer; in any part it is the first, if there is room
pub record Turned (r : Going) (input old new : List ℕ) (x : Going) : Type 0 where
  pub text : List ℕ
  pub part : (room : ℕ) → 800 ≤ room → part_from room r.state (drop r.at input) ≡ behind text (x.at - r.at) (part_from (room - length text) x.state (drop x.at input))
  pub wrote : Wrote 800 old new r.len x.len text
  pub on : r.at < x.at

-- the part p of the answers, from `from` on, stands in the buffer, from its beginning
pub record Told (p : Part) (from : ℕ) (old new : List ℕ) (x : Going) : Type 0 where
  pub state : x.state ≡ p.state
  pub at : x.at ≡ from + p.taken
  pub wrote : Wrote (length old) old new 0 x.len p.text

-- what whoever writes the answers part by part has still to write: all of them are those written so far, and then the rest
pub record Left (input : List ℕ) (s : Plain) (at : ℕ) : Type 0 where
  pub written : List ℕ
  pub all : run_of input ≡ written ++ run_from s (drop at (read input))
