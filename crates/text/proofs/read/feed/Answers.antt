-- `text::read::feed` meets its contract. Assumes nothing.
use mathlib.Core.Path.{◌≡◌}
use Prim.Native.Nat.{ℕ, ◌+◌, ◌-◌, ◌*◌, ◌/◌, ◌%◌, ◌^◌, ◌≤◌, ◌<◌}
use native.Mathlib.Omega.{arith}
use borrow.Author.Tests.{lt-ltb, le-ltb}
use Rattle.std.specs.Prelude.{Some, None}
use Rattle.text.specs.Private.{fed}
use Rattle.text.specs.declared.read.Seen.{Seen}
use Rattle.text.proofs.Counts.{narrow_bounds}
use Rattle.text.proofs.Packing.{few, joined_lt, top_lt}
use Rattle.text.proofs.read.feed.Goals as goal

module _ (w : ℕ) (s : Seen) (v x : ℕ) (joined : x ≡ s.bits * 2 ^ w + v) where
  short : s.count + w < 8 → record { bits = x; count = s.count + w; made = s.made; byte = None } ≡ fed w s v
  unfolding fed
  short h = rw (lt-ltb (s.count + w) 8 h, joined)

  full : (y z : ℕ) → 8 ≤ s.count + w → y ≡ x % 2 ^ (s.count + w - 8) → z ≡ x / 2 ^ (s.count + w - 8)
      → record { bits = y; count = s.count + w - 8; made = s.made + 1; byte = Some z } ≡ fed w s v
  unfolding fed
  full y z h p q = rw (le-ltb (s.count + w) 8 h, p, q, joined)

  top_small : s.bits < 2 ^ s.count → v < 2 ^ w → 8 ≤ s.count + w → x / 2 ^ (s.count + w - 8) < 256
  top_small h l m = top_lt x (s.count + w) 8 (s.count + w - 8) (rw joined (joined_lt s.bits s.count w v h l)) (omega arith)

pub joined-bits-requires : goal.joined-bits-requires
joined-bits-requires c =
    let a = c.args in
    (few a.s.bits a.s.count c.requires.1 c.requires.2, omega (arith, narrow_bounds a.w c.requires.0))

pub overflow_add-count : goal.overflow_add-count
overflow_add-count c = let p = c.requires in omega (arith, p.2, narrow_bounds c.args.w p.0)

pub returns-then-count-lt8 : goal.returns-then-count-lt8
returns-then-count-lt8 c =
    let a = c.args in
    short a.w a.s a.v c.joined-bits.result c.joined-bits.ensures c.if-count-lt8.true

pub low-requires : goal.low-requires
low-requires c =
    let p = c.requires in
    omega (arith, p.2, narrow_bounds c.args.w p.0)

pub top-requires : goal.top-requires
top-requires c =
    let a = c.args in
    let p = c.requires in (
      omega (arith, p.2, narrow_bounds a.w p.0),
      top_small a.w a.s a.v c.joined-bits.result c.joined-bits.ensures p.1 p.3 c.if-count-lt8.false,
    )

pub returns : goal.returns
returns c =
    let j = c.joined-bits in
    let a = c.args in
    full a.w a.s a.v j.result j.ensures c.low.result c.top.result c.if-count-lt8.false c.low.ensures c.top.ensures
