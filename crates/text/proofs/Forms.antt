-- What both forms have in common, each fact by one computed test over its alphabet.
-- Assumes nothing.
use Prim.Native.Nat.{ℕ, zero, suc, ◌+◌, ◌*◌, ◌/◌, ◌%◌, ◌^◌, ◌<◌}
use mathlib.Core.Path.{◌≡◌, refl, sym, ap, ◌∙◌}
use mathlib.Core.Logic.{◌⊎◌, inl, inr}
use mathlib.Core.Bool.{Bool, true, false, ◌||◌, not}
use native.Mathlib.Nat.{add_comm, mul-add, mul_assoc, div-add-mod', add-mul-mod_self_right}
use native.Mathlib.Omega.{arith}
use lib.Dec.{T, eqb, leb, eqb→eq}
use lib.ListN.{length, get_or}
use Rattle.bits.proofs.Table.{at, both}
use Rattle.text.specs.Text.{Form, base64, zbase32, standard64, zooko32, skipped, place, leftover}

pub record Lawful (f : Form) : Type 0 where
  pub narrow : (f.width ≡ 5) ⊎ (f.width ≡ 6)
  -- every value has a character
  pub full : length f.alphabet ≡ 2 ^ f.width
  -- the inverse rule: a character of the alphabet stands at its own value, and none is skipped
  pub inverse : (v : ℕ) → v < 2 ^ f.width → place (get_or f.alphabet v 0) f.alphabet ≡ v
  pub plain : (v : ℕ) → v < 2 ^ f.width → skipped f (get_or f.alphabet v 0) ≡ false
  -- the counts that no text has (R5.6) are those at which a whole character would be left over
  pub counts : (n : ℕ) → f.impossible n ≡ leb f.width (leftover f n)

-- one entry of an alphabet passes
right : Form → ℕ → ℕ → Bool
right f v c = both (eqb (place c f.alphabet) v) (not (skipped f c))

right_place : (a b : Bool) → T (both a b) → T a
right_place true b t = tt
right_place false b t = t

right_plain : (a b : Bool) → T (both a (not b)) → b ≡ false
right_plain true true t = absurd t
right_plain true false t = refl
right_plain false b t = absurd t

module _ (f : Form) (full : length f.alphabet ≡ 2 ^ f.width) (all : (v : ℕ) → v < length f.alphabet → T (right f v (get_or f.alphabet v 0))) where
  inverse_at : (v : ℕ) → v < 2 ^ f.width → place (get_or f.alphabet v 0) f.alphabet ≡ v
  unfolding right
  inverse_at v h =
      let c : ℕ = get_or f.alphabet v 0 in
      eqb→eq (place c f.alphabet) v (right_place (eqb (place c f.alphabet) v) (not (skipped f c)) (all v (rw full h)))

  plain_at : (v : ℕ) → v < 2 ^ f.width → skipped f (get_or f.alphabet v 0) ≡ false
  unfolding right
  plain_at v h =
      let c : ℕ = get_or f.alphabet v 0 in
      right_plain (eqb (place c f.alphabet) v) (skipped f c) (all v (rw full h))

-- what holds of the eight remainders holds of each
remainders : (P : ℕ → Type 0) → P 0 → P 1 → P 2 → P 3 → P 4 → P 5 → P 6 → P 7 → (r : ℕ) → r < 8 → P r
remainders P a b c d e f g h zero l = a
remainders P a b c d e f g h (suc zero) l = b
remainders P a b c d e f g h (suc (suc zero)) l = c
remainders P a b c d e f g h (suc (suc (suc zero))) l = d
remainders P a b c d e f g h (suc (suc (suc (suc zero)))) l = e
remainders P a b c d e f g h (suc (suc (suc (suc (suc zero))))) l = f
remainders P a b c d e f g h (suc (suc (suc (suc (suc (suc zero)))))) l = g
remainders P a b c d e f g h (suc (suc (suc (suc (suc (suc (suc zero))))))) l = h
remainders P a b c d e f g h (suc (suc (suc (suc (suc (suc (suc (suc r)))))))) l = absurd (omega arith)

-- eight characters more leave the same bits over
again : (w n : ℕ) → w * n % 8 ≡ w * (n % 8) % 8
again w n =
    let e : w * n ≡ w * (n % 8) + w * (n / 8) * 8 = ap (λ (m : ℕ). w * m) (sym (div-add-mod' n 8)) ∙ mul-add w (n / 8 * 8) (n % 8) ∙ add_comm (w * (n / 8 * 8)) (w * (n % 8)) ∙ ap (λ (m : ℕ). w * (n % 8) + m) (sym (mul_assoc w (n / 8) 8)) in
    ap (λ (m : ℕ). m % 8) e ∙ add-mul-mod_self_right (w * (n % 8)) (w * (n / 8)) 8

pub base64_lawful : Lawful base64
unfolding base64 standard64 leftover place skipped right
base64_lawful =
    record {
      narrow = inr refl;
      full = refl;
      inverse = inverse_at base64 refl (at (right base64) standard64 tt);
      plain = plain_at base64 refl (at (right base64) standard64 tt);
      counts = λ n. rw (again 6 n, fours n) (remainders (λ (r : ℕ). eqb (r % 4) 1 ≡ leb 6 (6 * r % 8)) refl refl refl refl refl refl refl refl (n % 8) (omega arith));
    }
  where
    fours : (n : ℕ) → n % 4 ≡ n % 8 % 4
    fours n =
        let e : n ≡ n % 8 + n / 8 * 2 * 4 = omega arith in
        ap (λ (m : ℕ). m % 4) e ∙ add-mul-mod_self_right (n % 8) (n / 8 * 2) 4

pub zbase32_lawful : Lawful zbase32
unfolding zbase32 zooko32 leftover place skipped right
zbase32_lawful =
    record {
      narrow = inl refl;
      full = refl;
      inverse = inverse_at zbase32 refl (at (right zbase32) zooko32 tt);
      plain = plain_at zbase32 refl (at (right zbase32) zooko32 tt);
      counts = λ n. rw (again 5 n) (remainders (λ (r : ℕ). (eqb r 1 || (eqb r 3 || eqb r 6)) ≡ leb 5 (5 * r % 8)) refl refl refl refl refl refl refl refl (n % 8) (omega arith));
    }
