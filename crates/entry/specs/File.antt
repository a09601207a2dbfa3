-- One file of a manifest, as it is read: section 13 of docs/RULES.md.
use Rattle.std.specs.Prelude.{ℕ, ◌+◌, ◌^◌, List, Option, Some, None, ltb, eqb}
use Rattle.wire.specs.Answer.{choose, then, demand, Got, got}
use Rattle.wire.specs.Sizes.{most_file_size}
use Rattle.wire.specs.declared.Span.{Span}
use Rattle.wire.specs.Span.{part_at}
use Rattle.path.specs.Order.{below}
use Rattle.path.specs.Path.{path_least, path_most, path_allowed}
use Rattle.cbor.specs.Item.{one_at, head_at, string_field_at, number_field_at, any_field_at}
use Rattle.cbor.specs.declared.Head.{Head}
use Rattle.wire.specs.Ascii.{ascii}
use Rattle.entry.specs.declared.Integer.{Integer}
use Rattle.entry.specs.declared.File.{File}

-- an integer that 64 bits with a sign can hold, else 19 (R13.6): of major type 1 the number n
-- stands for -1 - n, so the bound is one for both signs
unfoldable pub integer_at : List ℕ → ℕ → Got Head
integer_at s at = then (head_at s at 0) (λ (h, next). demand (ltb h.n (2 ^ 63)) 19 (got h next))

-- the integer of a head, whose major type tells the sign (R10.4)
abbrev pub integer_by : Head → Integer
integer_by h = record { negative = eqb h.major 1; n = h.n }

-- `mtime` is an integer or null, which is F6 (R13.6)
unfoldable pub mtime_at : List ℕ → ℕ → Got (Option Integer)
mtime_at s at =
    then (any_field_at s at (ascii "mtime")) (λ (first, a).
    choose (eqb first 0xF6) (got None (a + 1)) (then (integer_at s a) (λ (h, next). got (Some (integer_by h)) next)))

-- a path that is allowed, and above prev, the path before it (R12.5): else 20, of which its length
-- is judged before its contents (R12.6), and the order as the later path's fault (R10.5)
unfoldable pub path_at : List ℕ → ℕ → List ℕ → Got Span
path_at s at prev =
    then (string_field_at s at (ascii "path") 3 path_least path_most 20) (λ (v, next).
    demand (path_allowed (part_at s v)) 20 (demand (below prev (part_at s v)) 20 (got v next)))

-- head A4: `hash`, `path`, `size`, `mtime` (R13.5); the size is at most that of R3.6
unfoldable pub file_at : List ℕ → ℕ → List ℕ → Got File
file_at s at prev =
    then (one_at s at 0xA4) (λ (_, a).
    then (string_field_at s a (ascii "hash") 2 32 32 19) (λ (hash, b).
    then (path_at s b prev) (λ (path, c).
    then (number_field_at s c (ascii "size") 0 most_file_size) (λ (size, d).
    then (mtime_at s d) (λ (mtime, next).
    got (record { hash = hash; path = path; size = size; mtime = mtime }) next)))))
