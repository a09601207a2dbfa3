-- The laws of the product: with the sum, those of a commutative ring. Assumes nothing.
use mathlib.Core.Path.{◌≡◌, sym, ap, ap₂, ◌∙◌}
use Prim.Native.Nat.{ℕ, ◌+◌, ◌*◌, ◌^◌, ◌<◌}
use lib.Dec.{lit<, lit≤}
use lib.Pow.{high}
use Rattle.field.specs.Field.{plus, times, product}
use Rattle.field.proofs.Polynomials.{past_times, none_linear, times_plus, times_op, plus_times, times_none, times_low, power, power_none, times_split, times_short, times_one, good_times}

pub product_plus : (a b c : ℕ) → product (plus a b) c ≡ plus (product a c) (product b c)
unfolding product
product_plus a b c = times_plus 128 c a b

pub plus_product : (a b c : ℕ) → product a (plus b c) ≡ plus (product a b) (product a c)
unfolding product
plus_product a b c = plus_times 128 b c a

pub product_swap : (a b c : ℕ) → product (product a b) c ≡ product (product a c) b
unfolding product
product_swap a b c = past_times (times 128 c) (times_op 128 c) 128 b a

pub none_product : (a : ℕ) → product a 0 ≡ 0
unfolding product
none_product a = times_none 128 a

pub product_none : (a : ℕ) → product 0 a ≡ 0
product_none a = none_linear (λ x. product x a) (λ x y. product_plus x y a)

pub product_one : (a : ℕ) → a < 2 ^ 128 → product 1 a ≡ a
unfolding product
product_one a h = times_one 128 a (lit≤ tt) h

-- a point has 8 bits
pub product_small : (a d : ℕ) → d < 256 → product a d ≡ times 8 d a
unfolding product
product_small a d h = times_short 8 120 d a h

pub one_product : (a : ℕ) → product a 1 ≡ a
unfolding product
one_product a = times_short 1 127 1 a (lit< tt) ∙ power_none a

pub good_product : (a b : ℕ) → a < 2 ^ 128 → product a b < 2 ^ 128
unfolding product
good_product a b h = good_times 128 b a h

pub product_comm : (a b : ℕ) → a < 2 ^ 128 → b < 2 ^ 128 → product a b ≡ product b a
product_comm a b ga gb =
    ap (λ (x : ℕ). product x b) (sym (product_one a ga)) ∙ product_swap 1 a b ∙ ap (λ (x : ℕ). product x a) (product_one b gb)

pub product_assoc : (a b c : ℕ) → a < 2 ^ 128 → b < 2 ^ 128 → product (product a b) c ≡ product a (product b c)
product_assoc a b c ga gb =
    ap (λ (x : ℕ). product x c) (product_comm a b ga gb) ∙ product_swap b a c
    ∙ product_comm (product b c) a (good_product b c gb) ga

-- by the halves of the second factor
pub product_halves : (a h l : ℕ) → l < 2 ^ 64 → plus (times 64 l a) (times 64 h (power 64 a)) ≡ product a (h * 2 ^ 64 + l)
unfolding product
product_halves a h l g =
    sym (times_split 64 64 (h * 2 ^ 64 + l) a
    ∙ ap₂ (λ (x v : ℕ). plus x (times 64 v (power 64 a))) (times_low 64 h l a) (high h 64 g))
