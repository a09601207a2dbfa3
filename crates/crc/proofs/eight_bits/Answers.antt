-- `crc::eight_bits` meets its contract. Assumes nothing.
use mathlib.Core.Path.{sym, ap, ◌∙◌}
use Prim.Native.Nat.{◌/◌, ◌%◌, ◌^◌}
use native.Mathlib.Omega.{arith}
use lib.Bits.{bit_xor}
use Rattle.crc.proofs.Moves.{low_byte}
use Rattle.crc.proofs.eight_bits.Goals as goal

pub returns : goal.returns
returns c =
    let x = c.args.c in
    ap (bit_xor (x / 2 ^ 8)) (c.requires (x % 256) (omega arith)) ∙ sym (low_byte x)
