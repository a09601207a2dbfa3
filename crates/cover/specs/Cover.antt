-- The outer layout of an envelope, read and laid out: section 14 of docs/RULES.md.
use Rattle.std.specs.Prelude.{ℕ, ◌+◌, List, ◌++◌, leb, eqb, length}
use Rattle.wire.specs.Ascii.{ascii}
use Rattle.wire.specs.Answer.{then, demand, Got, got}
use Rattle.wire.specs.declared.Span.{Span}
use Rattle.varint.specs.Varint.{varint, varint_at}
use Rattle.mark.specs.Mark.{mark_of, marked}
-- what is read of an envelope: where its manifest and its payload stand in the input
pub use Rattle.cover.specs.declared.Cover.{Cover}

-- ---- the fields, left to right: each is judged once it is whole (R14.2)

-- `41 59` in front of every envelope (R14.1); the version stands behind it
abbrev pub magic : List ℕ
magic = ascii "AY"

-- a length and that many bytes; 3 where they are not all there (R14.2)
unfoldable pub chunk_at : List ℕ → ℕ → Got Span
chunk_at s at =
    then (varint_at s at) (λ (len, next). demand (leb (next + len) (length s)) 3 (got (record { start = next; len = len }) (next + len)))

-- magic and version, the manifest and the payload, each behind its length, and the end (R14.1):
-- what is wrong first is refused, and bytes behind the payload are 3 (R14.2)
unfoldable pub cover_at : List ℕ → Got Cover
cover_at s =
    then (mark_of magic s) (λ (_, a).
    then (chunk_at s a) (λ (manifest, b).
    then (chunk_at s b) (λ (payload, c).
    demand (eqb c (length s)) 3 (got (record { manifest = manifest; payload = payload }) c))))

-- ---- the same, laid out (R14.1)

unfoldable pub chunk_of : List ℕ → List ℕ
chunk_of bs = varint (length bs) ++ bs

-- all five, in their order (R14.1)
unfoldable pub cover_of : List ℕ → List ℕ → List ℕ
cover_of manifest payload = marked magic ++ chunk_of manifest ++ chunk_of payload
