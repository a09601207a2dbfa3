-- One file of a manifest, as it is written: section 13 of docs/RULES.md.
use Rattle.std.specs.Prelude.{ℕ, ◌+◌, ◌^◌, Bool, true, ◌&&◌, List, [], ◌∷◌, ◌++◌, Option, Some, None, ltb, leb, eqb, length}
use Rattle.wire.specs.Answer.{choose, Answer, done, refused_at, demand}
use Rattle.wire.specs.Sizes.{most_file_size}
use Rattle.wire.specs.declared.Span.{Span}
use Rattle.wire.specs.Span.{part_at}
use Rattle.path.specs.Order.{below}
use Rattle.path.specs.Path.{path_allowed}
use Rattle.cbor.specs.Form.{head_of, string_of, string_field_of, number_field_of}
use Rattle.wire.specs.Ascii.{ascii}
use Rattle.entry.specs.declared.Integer.{Integer}
use Rattle.entry.specs.declared.File.{File}

-- what a file's map says
pub record Entry : Type 0 where
  pub hash : List ℕ
  pub path : List ℕ
  pub size : ℕ
  pub mtime : Option Integer

-- what a file says whose places are in a pool (R13.7)
unfoldable pub entry_in : List ℕ → File → Entry
entry_in pool f = record { hash = part_at pool f.hash; path = part_at pool f.path; size = f.size; mtime = f.mtime }

-- n, or -1 - n
unfoldable pub integer_of : Bool → ℕ → List ℕ
integer_of negative n = head_of (choose negative 1 0) n

-- null is F6 (R13.6)
unfoldable pub mtime_of : Option Integer → List ℕ
mtime_of None = 0xF6 ∷ []
mtime_of (Some v) = integer_of v.negative v.n

-- head A4: `hash`, `path`, `size`, `mtime` (R13.5)
unfoldable pub entry_of : Entry → List ℕ
entry_of e =
    (0xA4 ∷ [])
    ++ (string_field_of (ascii "hash") 2 e.hash
    ++ (string_field_of (ascii "path") 3 e.path ++ (number_field_of (ascii "size") e.size ++ (string_of 3 (ascii "mtime") ++ mtime_of e.mtime))))

unfoldable pub file_of : List ℕ → File → List ℕ
file_of pool f = entry_of (entry_in pool f)

-- ---- which values may be written

-- the place does not reach past the pool (R13.7)
unfoldable pub held : List ℕ → Span → Bool
held pool p = leb (p.start + p.len) (length pool)

-- a hash (R13.5) or a seed (R13.3): 32 bytes
unfoldable pub digest_in : List ℕ → Span → Bool
digest_in pool p = held pool p && eqb p.len 32

-- a path that is allowed and above prev (R12.5)
unfoldable pub path_in : List ℕ → List ℕ → Span → Bool
path_in pool prev p = held pool p && (path_allowed (part_at pool p) && below prev (part_at pool p))

-- from -2^63 to 2^63 - 1, or null (R13.6)
unfoldable pub mtime_allowed : Option Integer → Bool
mtime_allowed None = true
mtime_allowed (Some v) = ltb v.n (2 ^ 63)

-- a value out of range is 19, a path 20 (R12.6), a place beyond the pool likewise (R13.7), in the
-- order of the keys (R10.7)
unfoldable pub file_verdict : List ℕ → List ℕ → File → Answer (List ℕ)
file_verdict pool prev f =
    demand (digest_in pool f.hash) 19
    (demand (path_in pool prev f.path) 20
    (demand (leb f.size most_file_size) 19
    (demand (mtime_allowed f.mtime) 19
    (done (file_of pool f)))))

-- what stands in a buffer for a verdict: nothing for a refusal
unfoldable pub form_of : Answer (List ℕ) → List ℕ
form_of (done bs) = bs
form_of (refused_at e place) = []
