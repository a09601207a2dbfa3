use mathlib.Core.Path.{◌≡◌, refl, sym, ap, ◌∙◌}
use Prim.Native.Nat.{ℕ, ◌*◌, ◌/◌}
use native.Mathlib.Omega.{arith}
use lib.Bits.{bit_xor}
use lib.ListN.{length, drop}
use Rattle.crc.specs.Crc.{bit, bits, byte, through, crc32}
use Rattle.crc.proofs.Bytes.{turn, chunk_turns, done}
use Rattle.crc.proofs.Entries.{eights}
use Rattle.crc.proofs.crc32.Goals as goal

-- `refl` computes all of the table from the definition
pub loop-b-init : goal.loop-b-init
unfolding bit bits
loop-b-init c = (eights _ refl, refl)

pub word-c-requires : goal.word-c-requires
word-c-requires c = c.loop-b.invariant.0

pub loop-b-preserved : goal.loop-b-preserved
loop-b-preserved c =
    let l = c.loop-b in
    (l.invariant.0, chunk_turns _ _ _ _ l.b-index l.c _ _ c.as_chunks.ensures.front (omega (arith, c.as_chunks.ensures.front_len)) refl c.word-c.ensures ∙ l.invariant.1)

pub loop-b-2-init : goal.loop-b-2-init
loop-b-2-init c =
    let l = c.loop-b in
    let e : l.b-index ≡ length c.args.s.now / 4 = omega (arith, c.as_chunks.ensures.front_len) in
    (l.invariant.0, ap (through l.c) (c.as_chunks.ensures.back ∙ ap (λ (x : ℕ). drop (x * 4) c.args.s.now) (sym e)) ∙ l.invariant.1)

pub eight_bits-c-requires : goal.eight_bits-c-requires
eight_bits-c-requires c = c.loop-b-2.invariant.0

pub loop-b-2-preserved : goal.loop-b-2-preserved
unfolding byte
loop-b-2-preserved c =
    let l = c.loop-b-2 in
    (l.invariant.0, turn _ l.b-index _ l.c _ (omega arith) refl (c.eight_bits-c.ensures ∙ ap (λ (x : ℕ). bits 8 (bit_xor l.c x)) c.from.ensures) ∙ l.invariant.1)

pub returns : goal.returns
unfolding crc32
returns c =
    let l = c.loop-b-2 in
    ap (λ (x : ℕ). bit_xor x 0xFFFFFFFF) (sym (done _ l.b-index l.c (omega arith)) ∙ l.invariant.1)
