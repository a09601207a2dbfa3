-- The id of a document: section 7 of docs/RULES.md.
use Rattle.std.specs.Prelude.{ℕ, List, take}
use Rattle.wire.specs.Sizes.{id_size}
use Rattle.blake2b.specs.Blake2b.{blake2b}

-- of a digest the first 8 bytes are kept (R7.1)
abbrev pub id_from : List ℕ → List ℕ
id_from d = take id_size d

-- a digest of the whole ciphertext, BLAKE2b without a key and 32 bytes long, as much of it as is
-- kept (R7.1)
unfoldable pub document_id_of : List ℕ → List ℕ
document_id_of c = id_from (blake2b c)
