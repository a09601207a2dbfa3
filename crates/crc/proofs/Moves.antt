-- What stands above the bits that leave a register only moves down; so what eight bits make of a
-- register follows from its low byte, and bytes can come in before their turn. Assumes nothing.
use mathlib.Core.Path.{◌≡◌, sym, ap, ap₂, ◌∙◌}
use Prim.Native.Nat.{ℕ, zero, suc, ◌+◌, ◌*◌, ◌/◌, ◌%◌, ◌^◌, ◌<◌}
use native.Mathlib.Nat.{mul-one, mul_comm, mul_assoc, pow-suc, mod-lt}
use native.Mathlib.Omega.{arith}
use lib.Bits.{bit_xor, xor_shr, xor_mod, xor_comm, xor_shifted, xor_zero_l}
use lib.Pow.{split, pow_pos}
use Rattle.crc.specs.Crc.{bit, bits, byte}
use Rattle.crc.proofs.Xor.{xor_assoc}

bit_moves : (h l : ℕ) → bit (bit_xor (h * 2) l) ≡ bit_xor h (bit l)
unfolding bit
bit_moves h l =
    let up : h * 2 / 2 ≡ h = omega arith in
    let even : h * 2 % 2 ≡ 0 = omega arith in
    let half : bit_xor (h * 2) l / 2 ≡ bit_xor h (l / 2) = xor_shr (h * 2) l 1 ∙ ap (λ (x : ℕ). bit_xor x (l / 2)) up in
    let odd : bit_xor (h * 2) l % 2 ≡ l % 2 =
    xor_mod (h * 2) l 1 ∙ ap (λ (x : ℕ). bit_xor x (l % 2)) even ∙ xor_zero_l (l % 2) in
    ap₂ (λ (x y : ℕ). bit_xor x (y * 0xEDB88320)) half odd ∙ xor_assoc h (l / 2) (l % 2 * 0xEDB88320)

-- n bits leave
pub bits_move : (n h l : ℕ) → bits n (bit_xor (h * 2 ^ n) l) ≡ bit_xor h (bits n l)
unfolding bits
bits_move zero h l = ap (λ (x : ℕ). bit_xor x l) (mul-one h)
bits_move (suc n) h l =
    let two : h * 2 ^ suc n ≡ h * 2 * 2 ^ n = ap (λ (x : ℕ). h * x) (pow-suc 2 n ∙ mul_comm (2 ^ n) 2) ∙ sym (mul_assoc h 2 (2 ^ n)) in
    ap (λ (x : ℕ). bit (bits n (bit_xor x l))) two ∙ ap bit (bits_move n (h * 2) l) ∙ bit_moves h (bits n l)

-- eight bits by the low byte
pub low_byte : (c : ℕ) → bits 8 c ≡ bit_xor (c / 2 ^ 8) (bits 8 (c % 2 ^ 8))
low_byte c =
    let h = c / 2 ^ 8 in
    let l = c % 2 ^ 8 in
    ap (bits 8) (sym (xor_shifted h 8 l (mod-lt c (pow_pos 8)) ∙ split c 8)) ∙ bits_move 8 h l

-- a byte that comes in with others above it leaves them in the register
pub first_byte : (c b w : ℕ) → b < 256 → bits 8 (bit_xor c (w * 256 + b)) ≡ bit_xor (byte c b) w
unfolding byte
first_byte c b w h =
    let in-front : bit_xor c (w * 256 + b) ≡ bit_xor (w * 256) (bit_xor c b) =
    ap (bit_xor c) (sym (xor_shifted w 8 b h)) ∙ sym (xor_assoc c (w * 256) b)
    ∙ ap (λ (x : ℕ). bit_xor x b) (xor_comm c (w * 256)) ∙ xor_assoc (w * 256) c b in
    ap (bits 8) in-front ∙ bits_move 8 w (bit_xor c b) ∙ xor_comm w (bits 8 (bit_xor c b))

-- four bytes that come in together
pub word_leaves : (c b0 b1 b2 b3 : ℕ) → b0 < 256 → b1 < 256 → b2 < 256
    → bits 8 (bits 8 (bits 8 (bits 8 (bit_xor c (((b3 * 256 + b2) * 256 + b1) * 256 + b0))))) ≡ byte (byte (byte (byte c b0) b1) b2) b3
unfolding byte
word_leaves c b0 b1 b2 b3 h0 h1 h2 =
    let c1 = byte c b0 in
    let c2 = byte c1 b1 in
    ap (λ (x : ℕ). bits 8 (bits 8 (bits 8 x))) (first_byte c b0 ((b3 * 256 + b2) * 256 + b1) h0)
    ∙ ap (λ (x : ℕ). bits 8 (bits 8 x)) (first_byte c1 b1 (b3 * 256 + b2) h1)
    ∙ ap (bits 8) (first_byte c2 b2 b3 h2)
