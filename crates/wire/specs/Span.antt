-- Bytes of a buffer by where they start and how many they are: what a reader answers in place of
-- the bytes themselves.
use Rattle.std.specs.Prelude.{ℕ, List, take, drop}
use Rattle.wire.specs.declared.Span.{Span}

-- the bytes there
abbrev pub part_at : List ℕ → Span → List ℕ
part_at s v = take v.len (drop v.start s)
