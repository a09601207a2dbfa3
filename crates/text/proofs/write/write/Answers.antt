-- `text::write::write` meets its contract. Assumes nothing.
use mathlib.Core.Path.{◌≡◌, sym, ◌∙◌}
use mathlib.Core.List.{List}
use Prim.Native.Nat.{ℕ, ◌*◌, ◌^◌}
use native.Mathlib.Omega.{arith}
use lib.ListN.{length, length-map}
use Rattle.wire.specs.Number.{digits, number}
use Rattle.wire.proofs.Digits.{length_digits}
use Rattle.wire.proofs.Writes.{written, no_room}
use Rattle.text.specs.Text.{letter, characters, filling, text_of}
use Rattle.text.specs.Private.{form_of}
use Rattle.text.proofs.write.write.Goals as goal

length-text : (w : ℕ) (bs : List ℕ) → length (text_of (form_of w) bs) ≡ characters (form_of w) (length bs)
unfolding text_of
length-text w bs =
    let n : ℕ = number 256 bs * 2 ^ filling (form_of w) (length bs) in
    length-map (digits (2 ^ (form_of w).width) (characters (form_of w) (length bs)) n) (letter (form_of w))
    ∙ length_digits (2 ^ (form_of w).width) (characters (form_of w) (length bs)) n

pub returns-then-out-len : goal.returns-then-out-len
returns-then-out-len c =
    no_room 0 c.args.out.now (text_of (form_of c.args.w) c.args.src.now) (omega (arith, length-text c.args.w c.args.src.now, c.length_of-len.ensures, c.if-out-len.true))

pub returns : goal.returns
returns c =
    let n = length-text c.args.w c.args.src.now in
    written 0 c.args.out.now (text_of (form_of c.args.w) c.args.src.now) _ c.length_of-len.result (omega (arith, n, c.length_of-len.ensures, c.if-out-len.false)) (c.length_of-len.ensures ∙ sym n) c.encode.ensures
