-- Bytes written as the text that they spell.
use Rattle.std.specs.Prelude.{ℕ, List, [], ◌∷◌}
use Prim.Native.Char.{code}
use Prim.Native.String.{String, [] as end, ◌∷◌ as ◌then◌}

-- the code of each character; a byte, where the text is of ASCII alone. Magics, keys and what
-- stands before signed bytes are written so (R18.2)
abbrev pub ascii : String → List ℕ
ascii end = []
ascii (c then s) = code c ∷ ascii s
