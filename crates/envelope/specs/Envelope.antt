-- The envelope, read and written: section 14 of docs/RULES.md.
use Rattle.std.specs.Prelude.{ℕ, ◌+◌, List, [], ◌∷◌, eqb, length, take, drop}
use Rattle.wire.specs.Answer.{Answer, done, then, demand_at, value_of}
use Rattle.wire.specs.Span.{part_at}
use Rattle.lend.specs.Same.{same}
use Rattle.sha256.specs.Sha.{sha256}
use Rattle.cover.specs.declared.Cover.{Cover}
use Rattle.cover.specs.Cover.{cover_at, cover_of}
use Rattle.entry.specs.declared.File.{File}
use Rattle.manifest.specs.Manifest.{manifest_at}

-- the files' sizes, summed
unfoldable pub total : List File → ℕ
total [] = 0
total (f ∷ fs) = f.size + total fs

-- each digest in its turn: of file i and those after it, whose contents stand one after the other
-- in rest (R14.3); the place of a wrong one is that of its file (R2.2)
unfoldable pub digests : (manifest : List ℕ) (files : List File) (i : ℕ) (rest : List ℕ) → Answer Unit
digests manifest [] i rest = done tt
digests manifest (f ∷ fs) i rest =
    demand_at (same (sha256 (take f.size rest)) (part_at manifest f.hash)) 21 i
    (digests manifest fs (i + 1) (drop f.size rest))

-- the sizes first (R14.3): the place of a wrong sum is the number of files (R2.2)
unfoldable pub contents : List ℕ → List File → List ℕ → Answer Unit
contents manifest files payload = demand_at (eqb (total files) (length payload)) 21 (length files) (digests manifest files 0 payload)

-- the manifest, as its own reader judges it; then its files against the payload (R14.3)
unfoldable pub judged : List ℕ → List ℕ → Answer Unit
judged manifest payload = then (value_of (manifest_at manifest)) (λ v. contents manifest v.files payload)

-- the cover from its front to its end (R14.2), and then the two parts in it (R14.3)
unfoldable pub envelope_at : List ℕ → Answer Cover
envelope_at s = then (value_of (cover_at s)) (λ c. then (judged (part_at s c.manifest) (part_at s c.payload)) (λ _. done c))

-- the writer is given the two parts, and judges them as the reader does (R14.4)
unfoldable pub verdict : List ℕ → List ℕ → Answer (List ℕ)
verdict manifest payload = then (judged manifest payload) (λ _. done (cover_of manifest payload))
