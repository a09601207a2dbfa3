-- What is laid out reads back as its parts. Assumes nothing.
use Prim.Native.Nat.{ℕ, ◌+◌, ◌^◌, ◌<◌}
use mathlib.Core.Path.{◌≡◌, sym, ap, ◌∙◌}
use mathlib.Core.List.{List, [], ◌++◌, append_assoc, append-nil}
use native.Mathlib.Omega.{arith}
use borrow.Author.Tests.{le-leb, eq-eqb}
use lib.ListN.{length, drop}
use lib.Seq.{drop_at}
use Rattle.wire.specs.Answer.{got}
use Rattle.wire.specs.Span.{part_at}
use Rattle.wire.proofs.Standing.{stands_next, stands_take, stands_left}
use Rattle.varint.specs.Varint.{varint}
use Rattle.varint.proofs.Lengths.{varint_length}
use Rattle.varint.proofs.Rounds.{reads_at}
use Rattle.mark.specs.Mark.{marked}
use Rattle.mark.proofs.Marks.{mark_length, mark_reads}
use Rattle.cover.specs.Cover.{Cover, magic, chunk_at, cover_at, chunk_of, cover_of}
use Rattle.cover.proofs.Laying.{chunk_length, cover_length}

module _ (s : List ℕ) (at : ℕ) (rest : List ℕ) where
  module _ (bs : List ℕ) (h : drop at s ≡ chunk_of bs ++ rest) where
    -- where the bytes of the chunk start
    abbrev start : ℕ
    start = at + length (varint (length bs))

    parted : drop at s ≡ varint (length bs) ++ (bs ++ rest)
    unfolding chunk_of
    parted = h ∙ append_assoc (varint (length bs)) bs rest

    held : drop start s ≡ bs ++ rest
    held = stands_next s at (varint (length bs)) (bs ++ rest) parted

    chunk_reads : length bs < 2 ^ 64 → chunk_at s at ≡ got (record { start = start; len = length bs }) (at + length (chunk_of bs))
    unfolding chunk_at
    chunk_reads l =
        let left = stands_left s at (chunk_of bs) rest h in
        let n = chunk_length bs in
        rw (reads_at s (bs ++ rest) at (length bs) l parted, le-leb (start + length bs) (length s) (omega (arith, varint_length (length bs))))
        (ap (got (record { start = start; len = length bs })) (omega arith))

-- a list of bytes is read as these two parts
pub record ReadsAs (s manifest payload : List ℕ) : Type 0 where
  pub cover : Cover
  pub read : cover_at s ≡ got cover (length s)
  pub manifest_is : part_at s cover.manifest ≡ manifest
  pub payload_is : part_at s cover.payload ≡ payload

-- what is laid out reads back as its parts
pub cover_back : (m p : List ℕ) → length m < 2 ^ 64 → length p < 2 ^ 64 → ReadsAs (cover_of m p) m p
unfolding cover_at cover_of
cover_back m p i j =
    let s : List ℕ = cover_of m p in
    let h₀ : s ≡ marked magic ++ (chunk_of m ++ (chunk_of p ++ [])) = simp (append_assoc, append-nil) in
    let h₁ : drop 3 s ≡ chunk_of m ++ (chunk_of p ++ []) = ap (drop 3) h₀ ∙ drop_at (marked magic) (chunk_of m ++ (chunk_of p ++ [])) 3 (mark_length magic) in
    let h₂ : drop (3 + length (chunk_of m)) s ≡ chunk_of p ++ [] = stands_next s 3 (chunk_of m) (chunk_of p ++ []) h₁ in
    let n : length s ≡ 3 + length (chunk_of m) + length (chunk_of p) = cover_length m p in
    record {
      cover =
          record {
            manifest = record { start = start s 3 (chunk_of p ++ []) m h₁; len = length m };
            payload = record { start = start s (3 + length (chunk_of m)) [] p h₂; len = length p };
          };
      read =
          rw (
            mark_reads magic s _ h₀,
            chunk_reads s 3 (chunk_of p ++ []) m h₁ i,
            chunk_reads s (3 + length (chunk_of m)) [] p h₂ j,
            eq-eqb (3 + length (chunk_of m) + length (chunk_of p)) (length s) (sym n),
            n,
          );
      manifest_is = stands_take s (start s 3 (chunk_of p ++ []) m h₁) m (chunk_of p ++ []) (held s 3 (chunk_of p ++ []) m h₁);
      payload_is = stands_take s (start s (3 + length (chunk_of m)) [] p h₂) p [] (held s (3 + length (chunk_of m)) [] p h₂);
    }
