-- A mark that is read is the one that was laid out, and the other way round. Assumes nothing.
use Prim.Native.Nat.{ℕ, ◌+◌, ◌≤◌, ◌<◌}
use mathlib.Core.Path.{◌≡◌, refl, sym, ap, ◌∙◌}
use mathlib.Core.List.{List, ◌++◌, append_assoc}
use native.Mathlib.Nat.{zero-add}
use native.Mathlib.Omega.{arith}
use borrow.Author.Tests.{le-ltb, ltb-false, eqb-true}
use lib.Dec.{ltb, eqb}
use lib.ListN.{length, take, drop, length-append}
use lib.Seq.{take-append_seam, drop-append_seam}
use Rattle.std.specs.Prelude.{Result}
use Rattle.wire.specs.Answer.{done, got}
use Rattle.wire.specs.Number.{Bytes}
use Rattle.wire.specs.Over.{over}
use Rattle.wire.specs.Writing.{Written}
use Rattle.wire.specs.declared.Refusal.{Refusal}
use Rattle.wire.proofs.Cases.{passed, escaped, then_passed, got_next}
use Rattle.wire.proofs.Overs.{over_run, over_out}
use Rattle.wire.proofs.Standing.{Stands, stands_join, stands_as, stands_part}
use Rattle.wire.proofs.Writes.{written_over}
use Rattle.wire.proofs.Digits.{bytes_append}
use Rattle.lend.specs.Same.{same}
use Rattle.lend.proofs.Sames.{same_eq, same_refl}
use Rattle.varint.specs.Varint.{varint, varint_at}
use Rattle.varint.proofs.Lengths.{varint_length_one}
use Rattle.varint.proofs.Sevens.{varint_bytes}
use Rattle.varint.proofs.Rounds.{reads_at, read_stands}
use Rattle.mark.specs.Mark.{version_at, mark_of, marked}

-- what is read is the mark
version_was : (s : List ℕ) (at : ℕ) (u : Unit) (next : ℕ) → Bytes s → version_at s at ≡ got u next → Stands s at (varint 1) next
unfolding version_at
version_was s at u next y h =
    let t = then_passed (varint_at s at) _ h in
    let w = passed (eqb t.0 1) (got tt t.1) 5 t.3 in
    stands_as (ap varint (eqb-true t.0 1 w.0)) (got_next w.1) (read_stands s at t.0 t.1 y t.2).0

pub mark_was : (magic s : List ℕ) (u : Unit) (next : ℕ) → Bytes s → mark_of magic s ≡ got u next → Stands s 0 (marked magic) next
unfolding mark_of marked
mark_was magic s u next y h =
    let n : ℕ = length magic in
    let t = escaped (ltb (length s) n) _ 3 h in
    let w = passed (same (take n s) magic) (version_at s n) 4 t.1 in
    let front : Stands s 0 magic n = stands_as (same_eq (take n s) magic w.0) (zero-add n) (stands_part 0 n (omega (arith, ltb-false (length s) n t.0))) in
    stands_join front (version_was s n u next y w.1)

module _ (magic : List ℕ) where
  pub mark_length : length (marked magic) ≡ length magic + 1
  unfolding marked
  mark_length = length-append magic (varint 1) ∙ rw (varint_length_one 1 (omega arith))

  pub mark_bytes : Bytes magic → Bytes (marked magic)
  unfolding marked
  mark_bytes h = bytes_append magic (varint 1) h (varint_bytes 1 (omega arith))

  -- what is laid out is read
  pub mark_reads : (s rest : List ℕ) → s ≡ marked magic ++ rest → mark_of magic s ≡ got tt (length magic + 1)
  unfolding mark_of marked version_at
  mark_reads s rest e =
      let n : ℕ = length magic in
      let h : s ≡ magic ++ (varint 1 ++ rest) = e ∙ append_assoc magic (varint 1) rest in
      let front : take n s ≡ magic = ap (take n) h ∙ take-append_seam magic (varint 1 ++ rest) in
      let behind : drop n s ≡ varint 1 ++ rest = ap (drop n) h ∙ drop-append_seam magic (varint 1 ++ rest) in
      rw (
        le-ltb (length s) n (omega (arith, ap length h, length-append magic (varint 1 ++ rest))),
        front,
        same_refl magic,
        reads_at s rest n 1 (omega arith) behind,
        varint_length_one 1 (omega arith),
      )

  -- for `lay`: there is no room, or two writes in a row are one
  pub lay_short : (l : List ℕ) → length l ≤ length magic → l ≡ over 0 (marked magic) l
  lay_short l h = sym (over_out 0 (marked magic) l (omega (arith, mark_length)))

  pub lay_done : (l x y : List ℕ) (r : Result ℕ Refusal) → length magic < length l → x ≡ over 0 magic l → Written (length magic) (done (varint 1)) x y r
      → y ≡ over 0 (marked magic) l
  unfolding marked
  lay_done l x y r room ex w =
      let n : ℕ = length magic in
      (over_run 0 n n 1 magic (varint 1) l x y (written_over n (varint 1) x y w) (ex, refl) (varint_length_one 1 (omega arith)) (omega arith) (omega arith)).0
