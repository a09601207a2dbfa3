-- What a part of the code answers, for the contract of a private function: nothing here is promised
-- to a caller.
use Rattle.std.specs.Prelude.{ℕ, ◌+◌, ◌≤◌, ◌≡◌, List, [], ◌∷◌, ◌++◌, Option, Some, None, length, take}
use Rattle.wire.specs.Answer.{choose, done, then, Got, got}
use Rattle.wire.specs.Sizes.{most_files}
use Rattle.cbor.specs.Form.{head_of, head_size, string_of, float_of, number_field_of}
use Rattle.wire.specs.declared.Span.{Span}
use Rattle.wire.specs.Ascii.{ascii}
use Rattle.entry.specs.declared.File.{File}
use Rattle.manifest.specs.Answer.{padded}
use Rattle.manifest.specs.Writing.{seed_in, secret_of, created_of, files_verdict, listed, manifest_verdict, manifest_of}
use Rattle.manifest.specs.declared.Created.{Created}
use Rattle.manifest.specs.declared.Created.TheVariants as created
use Rattle.manifest.specs.declared.Manifest.{Manifest}
use Rattle.manifest.specs.declared.FileList.{FileList}

-- how long a seed is that may be written
unfoldable pub seed_size : Option Span → ℕ
seed_size None = 1
seed_size (Some span) = 34

unfoldable pub created_size : Created → ℕ
created_size (created.Integer v) = head_size v.n
created_size (created.Double bits) = length (float_of bits)

-- a key and its value
unfoldable pub seed_field_of : List ℕ → Option Span → List ℕ
seed_field_of pool v = string_of 3 (ascii "seed") ++ secret_of (seed_in pool v)

unfoldable pub created_field_of : Created → List ℕ
created_field_of v = string_of 3 (ascii "created") ++ created_of v

-- what stands before the files, and what stands after them
unfoldable pub opening_of : List ℕ → Manifest → List ℕ
opening_of pool m = (0xA5 ∷ []) ++ (seed_field_of pool m.seed ++ (string_of 3 (ascii "files") ++ head_of 4 m.count))

unfoldable pub closing_of : Manifest → List ℕ
closing_of m = string_of 3 (ascii "sealed") ++ ((choose m.sealed 0xF5 0xF4 ∷ []) ++ (created_field_of m.created ++ number_field_of (ascii "version") 1))

-- the files of m may be written, and there is room for them from at on
pub record Room (pool : List ℕ) (m : Manifest) (at : ℕ) (out form : List ℕ) : Type 0 where
  pub few : m.count ≤ most_files
  pub array : length m.files ≡ most_files
  pub judged : files_verdict pool [] (take m.count m.files) ≡ done form
  pub room : at + length form ≤ length out

-- m may be written, and there is room for it
pub record Ready (pool : List ℕ) (m : Manifest) (out : List ℕ) : Type 0 where
  pub array : length m.files ≡ most_files
  pub judged : manifest_verdict pool m ≡ done (manifest_of pool (listed m))
  pub room : length (manifest_of pool (listed m)) ≤ length out

-- the files stand in an array with their count (R13.7)
abbrev pub files_answer : Got (List File) → Got FileList
files_answer g = then g (λ (fs, next). got (record { all = padded fs; count = length fs }) next)
