-- `field::bytes` meets its contract. Assumes nothing.
use mathlib.Core.Path.{◌≡◌, ap, ◌∙◌}
use native.Mathlib.Omega.{arith}
use mathlib.Core.List.{List}
use Prim.Native.Nat.{ℕ}
use borrow.Author.Rules.{rules}
use mir.Syntax.{w64}
use mir.Val.{Fits}
use lib.ListN.{get_or}
use Rattle.std.specs.Int.{to_be_bytes}
use Rattle.field.proofs.Blocks.{eight, sixteen_bytes}
use Rattle.field.proofs.bytes.Goals as goal

eight_of : (n m : ℕ) (r : List ℕ) → r ≡ to_be_bytes w64 n → n ≡ m → r ≡ eight m
eight_of n m r e h = e ∙ ap (to_be_bytes w64) h

pub returns : goal.returns
returns c =
    let h : Fits w64 (get_or c.args.a 0 0) = search rules in
    let l : Fits w64 (get_or c.args.a 1 0) = search rules in
    let first : c.copy_from_slice.new.self ≡ eight (get_or c.args.a 0 0) = c.copy_from_slice.ensures.after ∙ eight_of _ _ _ c.to_be_bytes.ensures (omega arith) in
    let last : c.copy_from_slice-2.new.self ≡ eight (get_or c.args.a 1 0) = c.copy_from_slice-2.ensures.after ∙ eight_of _ _ _ c.to_be_bytes-2.ensures (omega arith) in
    rw (first, last) (sixteen_bytes _ _ h.fits l.fits)
