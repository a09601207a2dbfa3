-- Cases of a test, and what a reader that succeeded passed.
use Prim.Native.Nat.{ℕ, ◌<◌, ◌≤◌}
use mathlib.Core.Path.{◌≡◌, refl, sym, ap, ap₂, ◌∙◌}
use mathlib.Core.Logic.{◌⊎◌, inl, inr}
use mathlib.Core.Bool.{Bool, true, false, not, ◌&&◌, false≢true}
use native.Mathlib.Omega.{arith}
use lib.Dec.{ltb, eqb}
use borrow.Author.Tests.{ltb-true, ltb-false, eqb-true, eqb-false, not-true, not-false}
use Rattle.wire.specs.Answer.{choose, Answer, done, refused_at, refused, then, Got, got, value_of}

pub lt_or_le : (a b : ℕ) → (a < b) ⊎ (b ≤ a)
lt_or_le a b = go (ltb a b) refl
  where
    go : (t : Bool) → ltb a b ≡ t → (a < b) ⊎ (b ≤ a)
    go true e = inl (ltb-true a b e)
    go false e = inr (ltb-false a b e)

pub eq_or_ne : (a b : ℕ) → (a ≡ b) ⊎ (a ≡ b → ⊥)
eq_or_ne a b = go (eqb a b) refl
  where
    go : (t : Bool) → eqb a b ≡ t → (a ≡ b) ⊎ (a ≡ b → ⊥)
    go true e = inl (eqb-true a b e)
    go false e = inr (eqb-false a b e)

module _ {A : Type 0} where
  -- refused is not done
  pub not_done : {P : Type 0} {v : A} {e k : ℕ} → ◌≡◌ {A = Answer A} (refused_at e k) (done v) → P
  not_done h = let z : ◌≡◌ {A = ℕ} 0 1 = cc in absurd (omega arith)

  -- the value is the answer's own
  pub done_value : {x y : A} → ◌≡◌ {A = Answer A} (done x) (done y) → x ≡ y
  done_value h = cc

  -- a test whose failure refuses was passed
  pub passed : {v : A} (t : Bool) (x : Answer A) (e : ℕ) → choose t x (refused e) ≡ done v → (t ≡ true) × (x ≡ done v)
  passed true x e h = (refl, h)
  passed false x e h = not_done h

  -- a test that refuses did not hold
  pub escaped : {v : A} (t : Bool) (x : Answer A) (e : ℕ) → choose t (refused e) x ≡ done v → (t ≡ false) × (x ≡ done v)
  escaped true x e h = not_done h
  escaped false x e h = (refl, h)

  -- a chain that is done passed its first step
  pub then_done : {B : Type 0} {v : A} (g : Answer B) (f : B → Answer A) → then g f ≡ done v → (b : B) × (g ≡ done b) × (f b ≡ done v)
  then_done (done b) f h = (b, refl, h)
  then_done (refused_at e k) f h = not_done h

  -- the same of a reader
  pub then_passed : {B : Type 0} {v : A} (g : Got B) (f : B × ℕ → Answer A) → then g f ≡ done v
      → (b : B) × (next : ℕ) × (g ≡ got b next) × (f (b, next) ≡ done v)
  then_passed g f h = let (p, e, k) = then_done g f h in (p.0, p.1, e, k)

  -- a reader that is done, its position aside
  pub value_passed : {v : A} (g : Got A) → value_of g ≡ done v → (next : ℕ) × (g ≡ got v next)
  value_passed (done (x, next)) h = (next, ap (λ (y : A). got y next) (done_value h))
  value_passed (refused_at e k) h = not_done h

-- the value and the position of what was read
pub got_value : {A : Type 0} {x y : A} {m n : ℕ} → got x m ≡ got y n → x ≡ y
got_value e = ap (λ p. p.0) (done_value e)

pub got_next : {A : Type 0} {x y : A} {m n : ℕ} → got x m ≡ got y n → m ≡ n
got_next e = ap (λ p. p.1) (done_value e)

pub got_as : {A : Type 0} {g : Got A} {x y : A} {m n : ℕ} → g ≡ got x m → x ≡ y → m ≡ n → g ≡ got y n
got_as e p q = e ∙ ap₂ got p q

pub got_both : {A : Type 0} {x y : A} {m n : ℕ} → x ≡ y → m ≡ n → got x m ≡ got y n
got_both p q = ap₂ got p q

-- what a call answered, and what a test said of the answer
pub flag : (r t b : Bool) → r ≡ t → r ≡ b → t ≡ b
flag r t b p q = sym p ∙ q

pub said_yes : (r t : Bool) → r ≡ t → not r ≡ false → t ≡ true
said_yes r t e h = sym e ∙ not-false r h

pub said_no : (r t : Bool) → r ≡ t → not r ≡ true → t ≡ false
said_no r t e h = sym e ∙ not-true r h

-- both tests of a conjunction held
pub both_hold : (a b : Bool) → (a && b) ≡ true → (a ≡ true) × (b ≡ true)
both_hold true b e = (refl, e)
both_hold false b e = (e, absurd (false≢true e))
