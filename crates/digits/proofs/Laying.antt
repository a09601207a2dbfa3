-- Bytes laid one after another. Assumes nothing.
use mathlib.Core.Path.{◌≡◌}
use mathlib.Core.List.{List, ◌++◌}
use Prim.Native.Nat.{ℕ, ◌+◌, ◌-◌, ◌≤◌}
use native.Mathlib.Omega.{arith}
use lib.ListN.{length, take, drop, length-append}
use Rattle.wire.specs.Answer.{Answer, done, Kept}
use Rattle.wire.specs.Over.{over}
use Rattle.wire.specs.Writing.{writing}
use Rattle.wire.proofs.Overs.{over_then, read_over}
use Rattle.digits.specs.Private.{Laid}

-- one write
pub laid_one : (at m : ℕ) (bs l x : List ℕ) (r : ℕ) → r ≡ at + length bs → length bs ≤ m → x ≡ over at bs l → Laid at m bs l x r
laid_one at m bs l x r e h o = record { next = e; short = h; stands = o }

-- and another behind it
pub laid_then : (at m n k r : ℕ) (xs bs l x y : List ℕ) → Laid at m xs l x n → Laid n k bs x y r → n + k ≤ length l → Laid at (m + k) (xs ++ bs) l y r
laid_then at m n k r xs bs l x y p q h =
    record {
      next = omega (arith, length-append xs bs, p.next, q.next);
      short = omega (arith, length-append xs bs, p.short, q.short);
      stands = over_then at n xs bs l x y q.stands p.stands p.next (omega (arith, q.short));
    }

-- a larger bound, and the same bytes
pub laid_as : (at m k r : ℕ) (xs bs l x : List ℕ) → Laid at m xs l x r → xs ≡ bs → m ≤ k → Laid at k bs l x r
laid_as at m k r xs bs l x p e h = rw (← e) (record { next = p.next; short = omega (arith, p.short); stands = p.stands })

-- what was laid in front stands there
pub laid_part : (m r : ℕ) (bs l x : List ℕ) → m ≤ length l → Laid 0 m bs l x r → take (r - 0) (drop 0 x) ≡ bs
laid_part m r bs l x room p =
    let z : r - 0 ≡ length bs = omega (arith, p.next) in
    rw (z, p.stands) (read_over 0 bs l (omega (arith, p.short)))

-- and is what is given
pub laid_whole : (m r : ℕ) (bs l x out out' : List ℕ) (a : Answer ℕ) → m ≤ length l → Laid 0 m bs l x r
    → Kept (writing 0 out (done (take (r - 0) (drop 0 x)))) out out' a → Kept (writing 0 out (done bs)) out out' a
laid_whole m r bs l x out out' a room p w = rw (laid_part m r bs l x room p) at w
