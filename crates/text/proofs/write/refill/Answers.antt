-- `text::write::refill` meets its contract. Assumes nothing.
use mathlib.Core.Path.{◌≡◌}
use mathlib.Core.List.{List}
use Prim.Native.Nat.{ℕ, ◌+◌, ◌*◌, ◌^◌, ◌≤◌, ◌<◌}
use native.Mathlib.Omega.{arith}
use borrow.Author.Tests.{le-leb, lt-leb}
use lib.ListN.{get_or}
use Rattle.text.specs.Private.{refilled}
use Rattle.text.specs.declared.write.Source.{Source}
use Rattle.text.proofs.Packing.{few}
use Rattle.text.proofs.write.refill.Goals as goal

module _ (w : ℕ) (bs : List ℕ) (s : Source) where
  enough : w ≤ s.count → s ≡ refilled w bs s
  unfolding refilled
  enough h = rw (le-leb w s.count h)

  one_more : s.count < w → (b x : ℕ) → b ≡ get_or bs s.next 0 → x ≡ s.bits * 2 ^ 8 + b
      → record { bits = x; count = s.count + 8; next = s.next + 1 } ≡ refilled w bs s
  unfolding refilled
  one_more h b x e q = rw (lt-leb w s.count h, q, e)

pub returns-then-w-s : goal.returns-then-w-s
returns-then-w-s c = let a = c.args in enough a.w a.src.now a.s c.if-w-s.true

pub joined-requires : goal.joined-requires
joined-requires c =
    (few c.args.s.bits c.args.s.count c.requires.1 c.requires.2, omega arith)

pub returns : goal.returns
returns c =
    let a = c.args in
    one_more a.w a.src.now a.s c.if-w-s.false c.byte_or_zero.result c.joined.result c.byte_or_zero.ensures c.joined.ensures
