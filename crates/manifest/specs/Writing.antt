-- The manifest, as it is written: section 13 of docs/RULES.md.
use Rattle.std.specs.Prelude.{ℕ, ◌^◌, ◌<◌, ◌≡◌, Bool, true, ◌&&◌, List, [], ◌∷◌, ◌++◌, Option, Some, None, map, ltb, leb, length, take}
use Rattle.wire.specs.Answer.{choose, Answer, done, then, demand}
use Rattle.wire.specs.Sizes.{most_manifest, most_files}
use Rattle.wire.specs.declared.Span.{Span}
use Rattle.wire.specs.Span.{part_at}
use Rattle.cbor.specs.Float.{finite}
use Rattle.cbor.specs.declared.Width.TheVariants as width
use Rattle.cbor.specs.Form.{head_of, string_of, float_of, number_field_of}
use Rattle.wire.specs.Ascii.{ascii}
use Rattle.entry.specs.Writing.{Entry, entry_in, entry_of, integer_of, digest_in, file_verdict}
use Rattle.entry.specs.declared.File.{File}
use Rattle.manifest.specs.Manifest.{Listing, agrees}
use Rattle.manifest.specs.declared.Created.{Created}
use Rattle.manifest.specs.declared.Created.TheVariants as created
use Rattle.manifest.specs.declared.Manifest.{Manifest}

-- ---- what a manifest says

-- the bytes of a seed, or none
pub data Secret : Type 0 where
  none : Secret
  some : List ℕ → Secret

-- the bytes at all its places, and the rest
pub record Said : Type 0 where
  pub seed : Secret
  pub files : List Entry
  pub sealed : Bool
  pub created : Created

-- a seed whose place is in a pool
unfoldable pub seed_in : List ℕ → Option Span → Secret
seed_in pool None = none
seed_in pool (Some span) = some (part_at pool span)

-- a manifest whose places are in a pool (R13.7)
unfoldable pub said_in : List ℕ → Listing → Said
said_in pool v = record { seed = seed_in pool v.seed; files = map (entry_in pool) v.files; sealed = v.sealed; created = v.created }

-- ---- its written form

-- null is F6 (R13.3)
unfoldable pub secret_of : Secret → List ℕ
secret_of none = 0xF6 ∷ []
secret_of (some bs) = string_of 2 bs

unfoldable pub entries_of : List Entry → List ℕ
entries_of [] = []
entries_of (e ∷ es) = entry_of e ++ entries_of es

-- an integer or a float (R13.6)
unfoldable pub created_of : Created → List ℕ
created_of (created.Integer v) = integer_of v.negative v.n
created_of (created.Double bits) = float_of bits

-- a map of five (R13.1), its fields in the order of their keys (R10.1)
unfoldable pub said_of : Said → List ℕ
said_of v =
    (0xA5 ∷ [])
    ++ ((string_of 3 (ascii "seed") ++ secret_of v.seed)
    ++ (string_of 3 (ascii "files")
    ++ (head_of 4 (length v.files)
    ++ (entries_of v.files
    ++ (string_of 3 (ascii "sealed")
    ++ ((choose v.sealed 0xF5 0xF4 ∷ []) ++ ((string_of 3 (ascii "created") ++ created_of v.created) ++ number_field_of (ascii "version") 1)))))))

-- the same, with its places in a pool
unfoldable pub manifest_of : List ℕ → Listing → List ℕ
manifest_of pool v = said_of (said_in pool v)

-- ---- which values may be written

-- null, or 32 bytes in the pool (R13.3, R13.7)
unfoldable pub seed_allowed : List ℕ → Option Span → Bool
seed_allowed pool None = true
seed_allowed pool (Some span) = digest_in pool span

-- each file in the order that is given (R13.4), the first above prev and each above the one before
-- it (R12.5)
unfoldable pub files_verdict : List ℕ → List ℕ → List File → Answer (List ℕ)
files_verdict pool prev [] = done []
files_verdict pool prev (f ∷ fs) =
    then (file_verdict pool prev f) (λ b. then (files_verdict pool (part_at pool f.path) fs) (λ bs. done (b ++ bs)))

-- from -2^63 to 2^63 - 1, or finite (R13.6, R10.9)
unfoldable pub created_allowed : Created → Bool
created_allowed (created.Integer v) = ltb v.n (2 ^ 63)
created_allowed (created.Double bits) = finite width.Double bits

-- the first `count` files of the array are those that are meant
unfoldable pub listed : Manifest → Listing
listed m = record { seed = m.seed; files = take m.count m.files; sealed = m.sealed; created = m.created }

-- the values are judged in the order of the keys, and then the size of the whole, 9 (R10.7, R3.3)
unfoldable pub manifest_verdict : List ℕ → Manifest → Answer (List ℕ)
manifest_verdict pool m =
    demand (seed_allowed pool m.seed) 19
    (demand (leb 1 m.count && leb m.count most_files) 19
    (then (files_verdict pool [] (listed m).files) (λ _.
    demand (agrees m.seed m.sealed) 19
    (demand (created_allowed m.created) 19
    (demand (leb (length (manifest_of pool (listed m))) most_manifest) 9
    (done (manifest_of pool (listed m))))))))

-- ---- what the types of the struct say of every value

-- a double has 64 bits
abbrev pub CreatedFits : Created → Type 0
CreatedFits (created.Integer v) = Unit
CreatedFits (created.Double bits) = bits < 2 ^ 64

-- the array has room for the most files (R3.4)
pub record Typed (m : Manifest) : Type 0 where
  pub array : length m.files ≡ most_files
  pub bits : CreatedFits m.created
