-- The reader accepts no bytes but layouts. Assumes nothing.
use Prim.Native.Nat.{ℕ, ◌+◌}
use mathlib.Core.Path.{◌≡◌, sym, ap, ◌∙◌, subst}
use mathlib.Core.List.{List, ◌++◌, append-nil}
use native.Mathlib.Omega.{arith}
use borrow.Author.Tests.{eqb-true}
use lib.Dec.{eqb}
use lib.ListN.{length, drop_of_length-le}
use Rattle.wire.specs.Answer.{got}
use Rattle.wire.specs.Number.{Bytes}
use Rattle.wire.proofs.Cases.{passed, then_passed, got_value}
use Rattle.wire.proofs.Standing.{Stands, stands_join, stands_as, stands_part}
use Rattle.wire.specs.declared.Span.{Span}
use Rattle.wire.specs.Span.{part_at}
use Rattle.varint.specs.Varint.{varint}
use Rattle.varint.proofs.Rounds.{read_stands}
use Rattle.mark.specs.Mark.{mark_of}
use Rattle.mark.proofs.Marks.{mark_was}
use Rattle.cover.specs.Cover.{Cover, magic, chunk_at, cover_at, chunk_of, cover_of}
use Rattle.cover.proofs.Chain.{chunk_got}

-- a length with its bytes stands there
chunk_was : (s : List ℕ) (at : ℕ) (v : Span) (next : ℕ) → Bytes s → chunk_at s at ≡ got v next → Stands s at (chunk_of (part_at s v)) next
unfolding chunk_of
chunk_was s at v next y h =
    let g = chunk_got s at v next h in
    let cut : Stands s v.start (part_at s v) (v.start + v.len) = stands_part v.start v.len (omega (arith, g.1, g.2)) in
    let long : v.len ≡ length (part_at s v) = omega (arith, cut.ends) in
    stands_as (ap (λ (k : ℕ). varint k ++ part_at s v) long) (sym g.1) (stands_join (read_stands s at v.len v.start y g.0).0 cut)

-- the layout of the parts of a cover
abbrev laid : List ℕ → Cover → List ℕ
laid s c = cover_of (part_at s c.manifest) (part_at s c.payload)

-- what is read, of bytes, is exactly the layout of its parts
pub cover_only : (s : List ℕ) (c : Cover) (next : ℕ) → Bytes s → cover_at s ≡ got c next → s ≡ laid s c
unfolding cover_at cover_of
cover_only s c next y h =
    let t₁ = then_passed (mark_of magic s) _ h in
    let t₂ = then_passed (chunk_at s t₁.1) _ t₁.3 in
    let t₃ = then_passed (chunk_at s t₂.1) _ t₂.3 in
    let u = passed (eqb t₃.1 (length s)) (got (record { manifest = t₂.0; payload = t₃.0 }) t₃.1) 3 t₃.3 in
    let e : t₃.1 ≡ length s = eqb-true t₃.1 (length s) u.0 in
    let m = stands_join (mark_was magic s t₁.0 t₁.1 y t₁.2) (chunk_was s t₁.1 t₂.0 t₂.1 y t₂.2) in
    let w = stands_join m (chunk_was s t₂.1 t₃.0 t₃.1 y t₃.2) in
    subst (λ (x : Cover). s ≡ laid s x) (got_value u.1) (w.split ∙ rw (drop_of_length-le s {i = t₃.1} (omega arith), append-nil))
