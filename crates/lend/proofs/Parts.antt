-- A part of a slice that is written as a whole. Assumes nothing.
use Prim.Native.Nat.{ℕ, ◌+◌, ◌-◌, ◌≤◌}
use mathlib.Core.Path.{◌≡◌, sym, ◌∙◌}
use mathlib.Core.List.{List, append_assoc}
use native.Mathlib.Omega.{arith}
use borrow.Rule.Slice.PartMut.{put_mid}
use lib.ListN.{length, take, drop, length-drop}
use lib.Seq.{drop-drop, length-take-le}
use Rattle.wire.specs.Over.{over}
use Rattle.wire.proofs.Overs.{over_fits}

pub part_length : (at n : ℕ) (l : List ℕ) → at ≤ length l → n ≤ length l - at → length (take (at + n - at) (drop at l)) ≡ n
part_length at n l h k = omega (arith, length-take-le (at + n - at) (drop at l), length-drop at l)

pub put_over : (at n : ℕ) (l bs x : List ℕ) → n ≡ length bs → x ≡ bs → at ≤ length l → n ≤ length l - at → put_mid at (at + n - at) l x ≡ over at bs l
put_over at n l bs x e p h k =
    let m : at + n - at ≡ length bs = omega (arith, e) in
    rw (p, m, drop-drop (length bs) at l) (sym (append_assoc (take at l) bs (drop (at + length bs) l)) ∙ sym (over_fits at bs l (omega (arith, e))))
