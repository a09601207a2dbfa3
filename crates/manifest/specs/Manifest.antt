-- The manifest, as it is read: section 13 of docs/RULES.md.
use Rattle.std.specs.Prelude.{ℕ, zero, suc, ◌+◌, Bool, not, List, [], ◌∷◌, Option, Some, None, leb, eqb, length}
use Rattle.wire.specs.Answer.{choose, then, demand, Got, got}
use Rattle.wire.specs.Sizes.{most_manifest, most_files}
use Rattle.wire.specs.declared.Span.{Span}
use Rattle.wire.specs.Span.{part_at}
use Rattle.cbor.specs.Item.{one_at, number_at, key_at, string_at, is_float, float_at, number_field_at, any_field_at}
use Rattle.wire.specs.Ascii.{ascii}
use Rattle.entry.specs.File.{integer_at, integer_by, file_at}
use Rattle.entry.specs.declared.File.{File}
use Rattle.manifest.specs.declared.Created.{Created}
use Rattle.manifest.specs.declared.Created.TheVariants as created
use Rattle.manifest.specs.declared.Ending.{Ending}

-- what a manifest lists: its places are in the input (R13.7)
pub record Listing : Type 0 where
  pub seed : Option Span
  pub files : List File
  pub sealed : Bool
  pub created : Created

-- null, which is F6, or 32 bytes (R13.3)
unfoldable pub seed_at : List ℕ → ℕ → Got (Option Span)
seed_at s at =
    then (any_field_at s at (ascii "seed")) (λ (first, a).
    choose (eqb first 0xF6) (got None (a + 1)) (then (string_at s a 2 32 32 19) (λ (v, next). got (Some v) next)))

-- so many files, the first above prev and each above the one before it (R12.5)
unfoldable pub files_at : (s : List ℕ) (k at : ℕ) (prev : List ℕ) → Got (List File)
files_at s zero at prev = got [] at
files_at s (suc k) at prev =
    then (file_at s at prev) (λ (f, p). then (files_at s k p (part_at s f.path)) (λ (fs, next). got (f ∷ fs) next))

-- at least one file, and no more than the house takes: else 19 (R13.4, R3.4). Every path is above
-- the empty one
unfoldable pub list_at : List ℕ → ℕ → Got (List File)
list_at s at = then (key_at s at (ascii "files")) (λ (_, a). then (number_at s a 4 1 most_files 19) (λ (k, p). files_at s k p []))

-- a sealed manifest gives no seed away, and one that is not sealed gives it (R13.3)
unfoldable pub agrees : Option Span → Bool → Bool
agrees None sealed = sealed
agrees (Some span) sealed = not sealed

-- true, which is F5, or false, which is F4; it is judged here whether it agrees with the seed,
-- which comes earlier (R13.3, R10.5)
unfoldable pub sealed_at : List ℕ → ℕ → Option Span → Got Bool
sealed_at s at key =
    then (any_field_at s at (ascii "sealed")) (λ (first, a).
    demand (leb 0xF4 first) 18
    (demand (leb first 0xF5) 18
    (demand (agrees key (eqb first 0xF5)) 19 (got (eqb first 0xF5) (a + 1)))))

-- a float, told by its first byte, or an integer (R13.6)
unfoldable pub created_at : List ℕ → ℕ → Got Created
created_at s at =
    then (any_field_at s at (ascii "created")) (λ (first, a).
    choose (is_float first) (then (float_at s a) (λ (bits, next). got (created.Double bits) next))
    (then (integer_at s a) (λ (h, next). got (created.Integer (integer_by h)) next)))

-- `sealed`, `created`, and `version`, which is 1 (R13.1), and nothing after (R10.2)
unfoldable pub end_at : List ℕ → ℕ → Option Span → Got Ending
end_at s at key =
    then (sealed_at s at key) (λ (sealed, a).
    then (created_at s a) (λ (created, b).
    then (number_field_at s b (ascii "version") 1 1) (λ (_, next).
    demand (eqb next (length s)) 3 (got (record { sealed = sealed; created = created }) next))))

-- its size is judged first of all, 9 (R13.2, R3.3); then a map of five (R13.1), its fields in the
-- order of their keys (R10.1), the first at fault deciding (R10.2)
unfoldable pub manifest_at : List ℕ → Got Listing
manifest_at s =
    demand (leb (length s) most_manifest) 9
    (then (one_at s 0 0xA5) (λ (_, a).
    then (seed_at s a) (λ (key, b).
    then (list_at s b) (λ (files, c).
    then (end_at s c key) (λ (end, next).
    got (record { seed = key; files = files; sealed = end.sealed; created = end.created }) next)))))
