-- How long a file is. Assumes nothing.
use Prim.Native.Nat.{ℕ, ◌+◌, ◌≤◌}
use mathlib.Core.Path.{◌≡◌, refl, ap, ◌∙◌}
use mathlib.Core.Bool.{Bool, true, false}
use mathlib.Core.List.{List, ◌++◌}
use native.Mathlib.Omega.{arith}
use lib.ListN.{length, drop, length-append, length-drop}
use lib.Seq.{length-take-le}
use Rattle.std.specs.Prelude.{Option, Some, None}
use Rattle.wire.specs.declared.Span.{Span}
use Rattle.wire.specs.Span.{part_at}
use Rattle.cbor.specs.Form.{head_size, string_of, string_field_of, number_field_of}
use Rattle.wire.specs.Ascii.{ascii}
use Rattle.cbor.proofs.Sizes.{length_head, length_string, length_string_field, length_number_field, length_field_two, size_one, size_most}
use Rattle.path.specs.Path.{path_most}
use Rattle.entry.specs.Writing.{Entry, entry_in, entry_of, file_of, integer_of, mtime_of}
use Rattle.entry.specs.Private.{mtime_size, file_size}
use Rattle.entry.specs.declared.Integer.{Integer}
use Rattle.entry.specs.declared.File.{File}

-- a part that does not reach past the pool has its length
pub part_length : (pool : List ℕ) (p : Span) → p.start + p.len ≤ length pool → length (part_at pool p) ≡ p.len
part_length pool p h = length-take-le p.len (drop p.start pool) (omega (arith, length-drop p.start pool))

pub integer_length : (negative : Bool) (n : ℕ) → length (integer_of negative n) ≡ head_size n
unfolding integer_of
integer_length true n = length_head 1 n
integer_length false n = length_head 0 n

pub mtime_length : (t : Option Integer) → length (mtime_of t) ≡ mtime_size t
unfolding mtime_of mtime_size
mtime_length None = refl
mtime_length (Some v) = integer_length v.negative v.n

pub mtime_most : (t : Option Integer) → mtime_size t ≤ 9
unfolding mtime_size
mtime_most None = omega arith
mtime_most (Some v) = size_most v.n

pub entry_length : (e : Entry) → length e.hash ≡ 32
    → length (entry_of e) ≡ 56 + head_size (length e.path) + length e.path + head_size e.size + mtime_size e.mtime
unfolding entry_of
entry_length e h =
    let H : List ℕ = string_field_of (ascii "hash") 2 e.hash in
    let P : List ℕ = string_field_of (ascii "path") 3 e.path in
    let Z : List ℕ = number_field_of (ascii "size") e.size in
    let K : List ℕ = string_of 3 (ascii "mtime") in
    let M : List ℕ = mtime_of e.mtime in
    omega (
      arith,
      length-append H (P ++ (Z ++ (K ++ M))),
      length-append P (Z ++ (K ++ M)),
      length-append Z (K ++ M),
      length-append K M,
      length_field_two (ascii "hash") 2 e.hash (omega arith) (omega arith) (omega arith),
      length_string_field (ascii "path") 3 e.path,
      length_number_field (ascii "size") e.size,
      length_string 3 (ascii "mtime"),
      size_one 4 (omega arith),
      size_one 5 (omega arith),
      mtime_length e.mtime,
    )

-- a file whose hash and path are in the pool
pub file_length : (pool : List ℕ) (f : File) → f.hash.start + f.hash.len ≤ length pool → f.hash.len ≡ 32 → f.path.start + f.path.len ≤ length pool
    → length (file_of pool f) ≡ file_size f
unfolding file_of entry_in file_size
file_length pool f h l p =
    let a = part_length pool f.hash h in
    let b = part_length pool f.path p in
    entry_length (entry_in pool f) (a ∙ l) ∙ ap (λ (n : ℕ). 56 + head_size n + n + head_size f.size + mtime_size f.mtime) b

pub file_most : (f : File) → f.path.len ≤ path_most → file_size f ≤ 300
unfolding file_size
file_most f h = omega (arith, size_most f.path.len, size_most f.size, mtime_most f.mtime)
