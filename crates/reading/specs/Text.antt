-- Texts as lists of bytes, so that definitions can write 01's words as they stand there.
use Rattle.std.specs.Prelude.{List, [], ◌∷◌, ℕ}
use Prim.Native.Char.{code}
use Prim.Native.String.{String, [] as []ᵗ, ◌∷◌ as ◌∷ᵗ◌}

-- the bytes of a text of ASCII characters
abbrev pub bytes : String → List ℕ
bytes []ᵗ = []
bytes (c ∷ᵗ cs) = code c ∷ bytes cs
