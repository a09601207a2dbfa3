-- The counts of a collection, said of the SET of pages: how many indices below the total are agreed
-- on, missing, or disputed. Assumes nothing.
use mathlib.Core.Path.{◌≡◌, refl, sym, ap, ◌∙◌, subst}
use mathlib.Core.Bool.{Bool, true, false, false≢true}
use mathlib.Core.List.{List}
use Prim.Native.Nat.{ℕ, zero, suc, ◌+◌, ◌≤◌}
use native.Mathlib.Numerals.{add-one}
use native.Mathlib.Omega.{arith}
use lib.ListN.{length, take, get_or}
use Rattle.wire.specs.Answer.{choose}
use Rattle.model.specs.Book.{Slot, absent, held, disputed}
use Rattle.model.specs.Take.{Page}
use Rattle.model.specs.Meaning.{SlotIs}
use Rattle.model.specs.Finish.{is_absent, is_held, is_disputed, count}
use Rattle.model.specs.Complete.{DisputedAt, Missing, Agreed, Counted, nothing, has, lacks}
use Rattle.model.proofs.Counts.{count_turn}
use Rattle.model.proofs.Complete.{is_disputed_lem, agree_at, is_absent_lem, not_absent}

-- ---- a count is one number

-- For the reader: so `Counted` is as good as a function
pub counted_one : {P : ℕ → Type 0} {t m n : ℕ} → Counted P t m → Counted P t n → m ≡ n
counted_one nothing nothing = refl
counted_one (has a p) (has b q) = ap suc (counted_one a b)
counted_one (has a p) (lacks b q) = absurd (q p)
counted_one (lacks a p) (has b q) = absurd (p q)
counted_one (lacks a p) (lacks b q) = counted_one a b

-- ---- counting slots is counting indices

module _ (P : ℕ → Type 0) (f : Slot → Bool) (ss : List Slot)
    (yes : (k : ℕ) → f (get_or ss k absent) ≡ true → P k) (never : (k : ℕ) → f (get_or ss k absent) ≡ false → P k → ⊥) where
  pub count_counts : (t : ℕ) → t ≤ length ss → Counted P t (count f (take t ss))
  unfolding count
  count_counts zero h = nothing
  count_counts (suc t) h = go (f (get_or ss t absent)) refl (count_counts t (omega arith))
    where
      grown : (w : Bool) → f (get_or ss t absent) ≡ w → count f (take (suc t) ss) ≡ count f (take t ss) + choose w 1 0
      grown w e = ap (λ (n : ℕ). count f (take n ss)) (sym (add-one t)) ∙ count_turn f ss t (omega arith) ∙ ap (λ (b : Bool). count f (take t ss) + choose b 1 0) e

      go : (w : Bool) → f (get_or ss t absent) ≡ w → Counted P t (count f (take t ss)) → Counted P (suc t) (count f (take (suc t) ss))
      go true e c =
          let n : suc (count f (take t ss)) ≡ count f (take (suc t) ss) = omega (arith, grown true e) in
          subst (Counted P (suc t)) n (has c (yes t e))
      go false e c =
          let n : count f (take t ss) ≡ count f (take (suc t) ss) = omega (arith, grown false e) in
          subst (Counted P (suc t)) n (lacks c (never t e))

-- ---- a slot, and what its set says

module _ (S : Page → Type 0) (k : ℕ) where
  held_agreed : (x : Slot) → SlotIs S k x → is_held x ≡ true → Agreed S k
  unfolding is_held
  held_agreed absent m e = absurd (false≢true e)
  held_agreed (held d) m e = (m.0, λ p q s t i j. m.1 p s i ∙ sym (m.1 q t j))
  held_agreed disputed m e = absurd (false≢true e)

  agreed_held : (x : Slot) → SlotIs S k x → is_held x ≡ false → Agreed S k → ⊥
  unfolding is_held
  agreed_held absent m e a = m a.0.0 a.0.1 a.0.2
  agreed_held (held d) m e a = absurd (false≢true (sym e))
  agreed_held disputed m e a = m.6 (a.1 m.0 m.1 m.2 m.3 m.4 m.5)

-- ---- the three counts

module _ (S : Page → Type 0) (ss : List Slot) (says : (k : ℕ) → SlotIs S k (get_or ss k absent)) (t : ℕ) (h : t ≤ length ss) where
  pub held_counted : Counted (Agreed S) t (count is_held (take t ss))
  held_counted = count_counts (Agreed S) is_held ss (λ k. held_agreed S k (get_or ss k absent) (says k)) (λ k. agreed_held S k (get_or ss k absent) (says k)) t h

  pub missing_counted : Counted (Missing S) t (count is_absent (take t ss))
  missing_counted =
      count_counts (Missing S) is_absent ss (λ k e. is_absent_lem S k (get_or ss k absent) e (says k))
      (λ k e a. let w = not_absent S k (get_or ss k absent) e (says k) in a w.0 w.1 w.2) t h

  pub disputed_counted : Counted (DisputedAt S) t (count is_disputed (take t ss))
  disputed_counted =
      count_counts (DisputedAt S) is_disputed ss (λ k e. is_disputed_lem S k (get_or ss k absent) e (says k))
      (λ k e a. a.6 (agree_at S k (get_or ss k absent) e (says k) a.0 a.1 a.2 a.3 a.4 a.5)) t h
