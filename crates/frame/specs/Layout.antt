-- One frame, laid out from its parts, whatever they are: section 6 of docs/RULES.md.
use Rattle.std.specs.Prelude.{ℕ, List, [], ◌∷◌, ◌++◌, length}
use Rattle.wire.specs.Number.{big_endian}
use Rattle.varint.specs.Varint.{varint}
use Rattle.mark.specs.Mark.{marked}
use Rattle.crc.specs.Crc.{crc32}
use Rattle.frame.specs.Frame.{magic}

-- the magic and the version, the type, the id
unfoldable pub start : ℕ → List ℕ → List ℕ
start kind id = marked magic ++ (kind ∷ []) ++ id

-- varints INDEX, TOTAL, DATA_LEN
unfoldable pub numbers : ℕ → ℕ → ℕ → List ℕ
numbers index total len = varint index ++ varint total ++ varint len

-- the data
unfoldable pub body : (kind : ℕ) (id : List ℕ) (index total : ℕ) (contents : List ℕ) → List ℕ
body kind id index total contents = start kind id ++ numbers index total (length contents) ++ contents

-- all that (R6.1), and its checksum, the highest byte first (R6.3)
unfoldable pub layout : (kind : ℕ) (id : List ℕ) (index total : ℕ) (contents : List ℕ) → List ℕ
layout kind id index total contents = body kind id index total contents ++ big_endian 4 (crc32 (body kind id index total contents))
