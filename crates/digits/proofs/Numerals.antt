-- Numbers of any u64 in decimal: how the code spells them, the last digit first, and how long they
-- are. Assumes nothing.
use mathlib.Core.Path.{◌≡◌, refl, sym, ap, ◌∙◌}
use mathlib.Core.Bool.{Bool, true, false}
use mathlib.Core.List.{List, [], ◌∷◌, ◌++◌, append-nil, append_assoc}
use Prim.Native.Nat.{ℕ, zero, suc, ◌+◌, ◌-◌, ◌/◌, ◌%◌, ◌≤◌, ◌<◌}
use native.Mathlib.Omega.{arith}
use borrow.Author.Tests.{lt-ltb, le-ltb}
use lib.Dec.{ltb}
use lib.ListN.{length, take, drop, set, length-set, length-append, length-drop, drop_of_length-le}
use lib.Seq.{take_all}
use Rattle.wire.specs.Answer.{choose}
use Rattle.wire.specs.Over.{over}
use Rattle.digits.specs.Decimal.{digit, last_digits, numeral}

-- at most k digits
length_last : (k n : ℕ) → length (last_digits k n) ≤ k
unfolding last_digits
length_last zero n = omega arith
length_last (suc k) n = go (ltb n 10) (length_last k (n / 10))
  where
    go : (v : Bool) → length (last_digits k (n / 10)) ≤ k → length (choose v (digit n ∷ []) (last_digits k (n / 10) ++ (digit (n % 10) ∷ []))) ≤ suc k
    go true h = omega arith
    go false h = simp length-append (omega arith)

pub length_numeral : (n : ℕ) → length (numeral n) ≤ 20
unfolding numeral
length_numeral n = length_last 20 n

-- ---- as the code spells them

drop_set_here : (j : ℕ) (l : List ℕ) (x : ℕ) → j < length l → drop j (set l j x) ≡ x ∷ drop (suc j) l
drop_set_here j [] x h = absurd (omega arith)
drop_set_here zero (y ∷ ys) x h = refl
drop_set_here (suc j) (y ∷ ys) x h = drop_set_here j ys x (omega arith)

-- with i places left, those of the digits that are not yet spelt, and behind them the spelt ones
pub record Spelling (n : ℕ) (room : List ℕ) (rest i : ℕ) : Type 0 where
  pub most : i ≤ 20
  pub size : length room ≡ 20
  pub text : last_digits i rest ++ drop i room ≡ numeral n

pub spell_none : (n : ℕ) (room : List ℕ) → length room ≡ 20 → Spelling n room n 20
unfolding numeral
spell_none n room h = record { most = omega arith; size = h; text = rw (drop_of_length-le room {i = 20} (omega arith)) (append-nil (last_digits 20 n)) }

-- the room stays as long as it is
pub spell_room : (room₀ room : List ℕ) (n rest i j x : ℕ) → length room₀ ≡ 20 → Spelling n room rest i → length (set room j x) ≡ length room₀
spell_room room₀ room n rest i j x h s = length-set room j x ∙ s.size ∙ sym h

module _ (n : ℕ) (room : List ℕ) (rest : ℕ) where
  pub spell_last : (i : ℕ) → Spelling n room rest i → 0 < i → rest < 10
      → (i - 1 ≤ 20) × (drop (i - 1) (set room (i - 1) (48 + rest % 10)) ≡ numeral n)
  unfolding last_digits
  spell_last zero s h l = absurd (omega arith)
  spell_last (suc j) s h l =
      let d : rest % 10 ≡ rest = omega arith in
      let p : suc j - 1 ≡ j = omega arith in
      rw (d, p) (omega (arith, s.most), drop_set_here j room (48 + rest) (omega (arith, s.most, s.size)) ∙ rw (lt-ltb rest 10 l) at s.text)

  pub spell_more : (i : ℕ) → Spelling n room rest i → 0 < i → 10 ≤ rest
      → Spelling n (set room (i - 1) (48 + rest % 10)) (rest / 10) (i - 1)
  unfolding last_digits
  spell_more zero s h l = absurd (omega arith)
  spell_more (suc j) s h l =
      let p : suc j - 1 ≡ j = omega arith in
      rw p
      (record {
        most = omega (arith, s.most);
        size = length-set room j (48 + rest % 10) ∙ s.size;
        text =
            ap (λ (t : List ℕ). last_digits j (rest / 10) ++ t) (drop_set_here j room (48 + rest % 10) (omega (arith, s.most, s.size)))
            ∙ sym (append_assoc (last_digits j (rest / 10)) (digit (rest % 10) ∷ []) (drop (suc j) room))
            ∙ rw (le-ltb rest 10 l) at s.text;
      })

  pub spell_full : (i : ℕ) → Spelling n room rest i → i ≤ 0 → (◌≤◌ 0 20) × (room ≡ numeral n)
  unfolding last_digits
  spell_full zero s h = (omega arith, s.text)
  spell_full (suc j) s h = absurd (omega arith)

-- what is laid is all of them
pub number_laid : (n at i : ℕ) (room out x : List ℕ) → length room ≡ 20 → (i ≤ 20) × (drop i room ≡ numeral n) → x ≡ over at (take (20 - i) (drop i room)) out
    → (20 - i ≡ length (numeral n)) × (20 - i ≤ 20) × (x ≡ over at (numeral n) out)
number_laid n at i room out x h (m, e) w =
    let l : length (numeral n) ≡ 20 - i = sym (ap length e) ∙ length-drop i room ∙ ap (λ (k : ℕ). k - i) h in
    (sym l, omega arith, w ∙ ap (λ (t : List ℕ). over at t out) (rw e (take_all (20 - i) (numeral n) (omega arith))))
