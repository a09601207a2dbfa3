-- What a table's entry says of a character. Assumes nothing.
use Prim.Native.Nat.{ℕ, ◌^◌, ◌≤◌, ◌<◌}
use mathlib.Core.Path.{◌≡◌, refl, ◌∙◌}
use mathlib.Core.Logic.{inl, inr}
use mathlib.Core.Bool.{Bool, true, false}
use native.Mathlib.Omega.{arith}
use borrow.Author.Tests.{ltb-true}
use lib.Dec.{ltb}
use Rattle.wire.specs.Answer.{choose}
use Rattle.text.specs.Text.{base64, zbase32, skipped, value}
use Rattle.text.specs.Private.{Narrow, form_of, sort, fed, stepped}
use Rattle.text.specs.declared.read.Seen.{Seen}
use Rattle.std.specs.Prelude.{Some, None}
use Rattle.text.proofs.Forms.{Lawful, base64_lawful, zbase32_lawful}

pub form_width : (w : ℕ) → Narrow w → (form_of w).width ≡ w
unfolding form_of base64 zbase32
form_width w (inl e) = rw e
form_width w (inr e) = rw e

pub form_lawful : (w : ℕ) → Narrow w → Lawful (form_of w)
unfolding form_of
form_lawful w (inl e) = rw e zbase32_lawful
form_lawful w (inr e) = rw e base64_lawful

size : (w : ℕ) → Narrow w → 2 ^ w ≤ 64
size w (inl e) = rw e (omega arith)
size w (inr e) = rw e (omega arith)

-- t is whether the character is skipped, u whether it is allowed, x its value and v the table's
-- entry
module _ (t u : Bool) (x v : ℕ) (small : u ≡ true → x < 64) (entry : v ≡ choose t 255 (choose u x 254)) where
  entry_skipped : v ≡ 255 → t ≡ true
  entry_skipped e = go t u small entry
    where
      go : (t u : Bool) → (u ≡ true → x < 64) → v ≡ choose t 255 (choose u x 254) → t ≡ true
      go true u s h = refl
      go false true s h = absurd (omega (arith, s refl))
      go false false s h = absurd (omega arith)

  entry_bad : v ≡ 254 → (t ≡ false) × (u ≡ false)
  entry_bad e = go t u small entry
    where
      go : (t u : Bool) → (u ≡ true → x < 64) → v ≡ choose t 255 (choose u x 254) → (t ≡ false) × (u ≡ false)
      go true u s h = absurd (omega arith)
      go false true s h = absurd (omega (arith, s refl))
      go false false s h = (refl, refl)

  entry_value : (v ≡ 255 → ⊥) → (v ≡ 254 → ⊥) → (t ≡ false) × (u ≡ true) × (v ≡ x)
  entry_value a b = go t u small entry
    where
      go : (t u : Bool) → (u ≡ true → x < 64) → v ≡ choose t 255 (choose u x 254) → (t ≡ false) × (u ≡ true) × (v ≡ x)
      go true u s h = absurd (a h)
      go false true s h = (refl, refl, h)
      go false false s h = absurd (b h)

module _ (w : ℕ) (narrow : Narrow w) (s : Seen) (c v : ℕ) (entry : v ≡ sort (form_of w) c) where
  skip? : Bool
  skip? = skipped (form_of w) c

  allowed? : Bool
  allowed? = ltb (value (form_of w) c) (2 ^ w)

  small : allowed? ≡ true → value (form_of w) c < 64
  unfolding allowed?
  small e = omega (arith, ltb-true (value (form_of w) c) (2 ^ w) e, size w narrow)

  chosen : v ≡ choose skip? 255 (choose allowed? (value (form_of w) c) 254)
  unfolding sort skip? allowed?
  chosen = entry ∙ rw (form_width w narrow)

  pub take_skipped : v ≡ 255 → Some (record { bits = s.bits; count = s.count; made = s.made; byte = None }) ≡ stepped w s c
  unfolding stepped skip?
  take_skipped e = rw (entry_skipped skip? allowed? (value (form_of w) c) v small chosen e)

  pub take_bad : v ≡ 254 → None ≡ stepped w s c
  unfolding stepped skip? allowed?
  take_bad e = let b = entry_bad skip? allowed? (value (form_of w) c) v small chosen e in rw (b.0, b.1)

  pub take_value : (v ≡ 255 → ⊥) → (v ≡ 254 → ⊥) → (v < 2 ^ w) × (Some (fed w s v) ≡ stepped w s c)
  unfolding stepped skip? allowed?
  take_value a b =
      let e = entry_value skip? allowed? (value (form_of w) c) v small chosen a b in
      (rw e.2 (ltb-true (value (form_of w) c) (2 ^ w) e.1), rw (e.0, e.1, e.2))
