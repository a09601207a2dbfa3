-- `crc::word` meets its contract. Assumes nothing.
use mathlib.Core.Path.{◌≡◌, ap, ◌∙◌}
use Prim.Native.Nat.{◌*◌, ◌+◌}
use native.Mathlib.Omega.{arith}
use lib.Bits.{bit_xor}
use lib.ListN.{get_or}
use borrow.Author.Rules.{rules}
use Rattle.crc.specs.Crc.{bits}
use Rattle.crc.proofs.Bytes.{word_turn}
use Rattle.crc.proofs.Moves.{word_leaves}
use Rattle.crc.proofs.word.Goals as goal

pub returns : goal.returns
returns c =
    let b = c.args.b.now in
    let b0 = get_or b 0 0 in
    let b1 = get_or b 1 0 in
    let b2 = get_or b 2 0 in
    let b3 = get_or b 3 0 in
    let all : c.from_le_bytes.result ≡ ((b3 * 256 + b2) * 256 + b1) * 256 + b0 = omega (arith, c.from_le_bytes.ensures) in
    let e0 = c.eight_bits.ensures ∙ ap (λ x. bits 8 (bit_xor c.args.c x)) all in
    let e1 = c.eight_bits-2.ensures ∙ ap (bits 8) e0 in
    let e2 = c.eight_bits-3.ensures ∙ ap (bits 8) e1 in
    let e3 = c.eight_bits-4.ensures ∙ ap (bits 8) e2 in
    word_turn b c.args.c c.eight_bits-4.result (search rules)
    (e3 ∙ word_leaves c.args.c b0 b1 b2 b3 (search rules) (search rules) (search rules))
