-- A field that was read ends within the input. Assumes nothing.
use Prim.Native.Nat.{ℕ, ◌+◌, ◌-◌, ◌<◌, ◌≤◌}
use mathlib.Core.Path.{◌≡◌, refl, sym, ap, ◌∙◌}
use mathlib.Core.List.{List}
use native.Mathlib.Omega.{arith}
use borrow.Author.Tests.{leb-true, le-leb, lt-leb}
use lib.Dec.{leb}
use lib.ListN.{length}
use Rattle.wire.specs.Answer.{refused, got}
use Rattle.wire.specs.Number.{Bytes}
use Rattle.wire.proofs.Cases.{passed, then_passed, got_next, got_value}
use Rattle.wire.specs.declared.Span.{Span}
use Rattle.varint.specs.Varint.{varint_at}
use Rattle.varint.proofs.Rounds.{read_stands}
use Rattle.cover.specs.Cover.{chunk_at}

pub chunk_got : (s : List ℕ) (at : ℕ) (v : Span) (next : ℕ) → chunk_at s at ≡ got v next
    → (varint_at s at ≡ got v.len v.start) × (next ≡ v.start + v.len) × (next ≤ length s)
unfolding chunk_at
chunk_got s at v next h =
    let t = then_passed (varint_at s at) _ h in
    let u = passed (leb (t.1 + t.0) (length s)) (got (record { start = t.1; len = t.0 }) (t.1 + t.0)) 3 t.3 in
    let l = leb-true (t.1 + t.0) (length s) u.0 in
    let p : ◌≡◌ {A = Span} (record { start = t.1; len = t.0 }) v = got_value u.1 in
    let q : t.1 + t.0 ≡ next = got_next u.1 in
    let a : t.1 ≡ v.start = ap (λ (x : Span). x.start) p in
    let b : t.0 ≡ v.len = ap (λ (x : Span). x.len) p in
    (t.2 ∙ cc, omega arith, omega arith)

-- what a caller knows of the position
pub chunk_within : (s : List ℕ) (at : ℕ) (v : Span) → got v (v.start + v.len) ≡ chunk_at s at → v.start + v.len ≤ length s
chunk_within s at v e = (chunk_got s at v (v.start + v.len) (sym e)).2

-- a length was read: its bytes start at next, and what is left of the input decides
module _ (s : List ℕ) (at n next : ℕ) (y : Bytes s) (e : got n next ≡ varint_at s at) where
  pub length_within : next ≤ length s
  length_within = (read_stands s at n next y (sym e)).0.within

  pub chunk_cut : length s - next < n → refused 3 ≡ chunk_at s at
  unfolding chunk_at
  chunk_cut h = rw (← e, lt-leb (next + n) (length s) (omega (arith, length_within)))

  pub chunk_stands : n ≤ length s - next → got (record { start = next; len = n }) (next + n) ≡ chunk_at s at
  unfolding chunk_at
  chunk_stands h = rw (← e, le-leb (next + n) (length s) (omega (arith, length_within)))
