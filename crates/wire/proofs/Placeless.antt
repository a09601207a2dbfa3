-- Which refusals have no place: one that a rule makes without naming one, and so a chain of such
-- rules. For `search`. Assumes nothing.
use Prim.Native.Nat.{ℕ}
use mathlib.Core.Path.{◌≡◌, refl, sym, ap₂}
use mathlib.Core.Bool.{Bool, true, false}
use Rattle.wire.specs.Refusal.{number}
use Rattle.wire.specs.declared.Refusal.{Refusal}
use Rattle.wire.specs.declared.Refusal.TheVariants as refusal
use Rattle.wire.specs.Answer.{choose, Answer, done, refused_at, refused, number_of, place_of, then}

-- the number is one that R2.2 names
abbrev pub Named : {A : Type 0} → Answer A → Type 0
Named (done a) = Unit
Named (refused_at e place) = (why : Refusal) × (number why ≡ e)

pub record Placeless {A : Type 0} (a : Answer A) : Type 0 where
  pub none : place_of a ≡ 0
  pub named : Named a

module _ {A : Type 0} where
  pub placeless_done : (a : A) → Placeless (done a)
  placeless_done a = record { none = refl; named = tt }

  pub placeless_refused : (why : Refusal) → Placeless {A = A} (refused (number why))
  placeless_refused why = record { none = refl; named = (why, refl) }

  pub placeless_choose : (t : Bool) (a b : Answer A) → Placeless a → Placeless b → Placeless (choose t a b)
  placeless_choose true a b p q = p
  placeless_choose false a b p q = q

  -- a rule in front of what has none
  pub placeless_demand : (t : Bool) {e : ℕ} {a : Answer A} → Placeless {A = A} (refused e) → Placeless a → Placeless (choose t a (refused e))
  placeless_demand t {e} {a} q p = placeless_choose t a (refused e) p q

  pub placeless_then : {B : Type 0} (g : Answer B) (f : B → Answer A) → Placeless g → ((b : B) → Placeless (f b)) → Placeless (then g f)
  placeless_then (done b) f p q = q b
  placeless_then (refused_at e place) f p q = record { none = p.none; named = p.named }

  -- each by its number, for `search`
  pub no_place_1 : Placeless {A = A} (refused 1)
  no_place_1 = placeless_refused refusal.BadCharacter

  pub no_place_2 : Placeless {A = A} (refused 2)
  no_place_2 = placeless_refused refusal.BadTextLength

  pub no_place_3 : Placeless {A = A} (refused 3)
  no_place_3 = placeless_refused refusal.CutOrLeftOver

  pub no_place_4 : Placeless {A = A} (refused 4)
  no_place_4 = placeless_refused refusal.BadMagic

  pub no_place_5 : Placeless {A = A} (refused 5)
  no_place_5 = placeless_refused refusal.BadVersion

  pub no_place_6 : Placeless {A = A} (refused 6)
  no_place_6 = placeless_refused refusal.BadFrameType

  pub no_place_7 : Placeless {A = A} (refused 7)
  no_place_7 = placeless_refused refusal.BadVarint

  pub no_place_8 : Placeless {A = A} (refused 8)
  no_place_8 = placeless_refused refusal.BadPlace

  pub no_place_9 : Placeless {A = A} (refused 9)
  no_place_9 = placeless_refused refusal.TooLarge

  pub no_place_10 : Placeless {A = A} (refused 10)
  no_place_10 = placeless_refused refusal.BadChecksum

  pub no_place_11 : Placeless {A = A} (refused 11)
  no_place_11 = placeless_refused refusal.NoRoom

  pub no_place_12 : Placeless {A = A} (refused 12)
  no_place_12 = placeless_refused refusal.OtherDocument

  pub no_place_13 : Placeless {A = A} (refused 13)
  no_place_13 = placeless_refused refusal.BadCollection

  pub no_place_14 : Placeless {A = A} (refused 14)
  no_place_14 = placeless_refused refusal.TotalsDisagree

  pub no_place_15 : Placeless {A = A} (refused 15)
  no_place_15 = placeless_refused refusal.PageDisputed

  pub no_place_16 : Placeless {A = A} (refused 16)
  no_place_16 = placeless_refused refusal.PageMissing

  pub no_place_17 : Placeless {A = A} (refused 17)
  no_place_17 = placeless_refused refusal.OtherCiphertext

  pub no_place_18 : Placeless {A = A} (refused 18)
  no_place_18 = placeless_refused refusal.NotCanonical

  pub no_place_19 : Placeless {A = A} (refused 19)
  no_place_19 = placeless_refused refusal.OutOfRange

  pub no_place_20 : Placeless {A = A} (refused 20)
  no_place_20 = placeless_refused refusal.BadPath

  pub no_place_21 : Placeless {A = A} (refused 21)
  no_place_21 = placeless_refused refusal.BadContents

  pub no_place_23 : Placeless {A = A} (refused 23)
  no_place_23 = placeless_refused refusal.Mistyped

  pub no_place_26 : Placeless {A = A} (refused 26)
  no_place_26 = placeless_refused refusal.TooFewSlips

  pub no_place_27 : Placeless {A = A} (refused 27)
  no_place_27 = placeless_refused refusal.UnlikeSlips

  pub no_place_28 : Placeless {A = A} (refused 28)
  no_place_28 = placeless_refused refusal.SlipTwice

  pub no_place_29 : Placeless {A = A} (refused 29)
  no_place_29 = placeless_refused refusal.OffTheCurve

  pub no_place_30 : Placeless {A = A} (refused 30)
  no_place_30 = placeless_refused refusal.BadPadding

pub ruleset placeless = (placeless_done, placeless_refused, placeless_choose, placeless_then, no_place_1, no_place_2, no_place_3, no_place_4, no_place_5, no_place_6, no_place_7, no_place_8, no_place_9, no_place_10, no_place_11, no_place_12, no_place_13, no_place_14, no_place_15, no_place_16, no_place_17, no_place_18, no_place_19, no_place_20, no_place_21, no_place_23, no_place_26, no_place_27, no_place_28, no_place_29, no_place_30)

-- ---- a refusal that may have a place: its number has a name all the same

pub record HasName {A : Type 0} (a : Answer A) : Type 0 where
  pub named : Named a

module _ {A : Type 0} where
  pub name_at : (why : Refusal) (k : ℕ) → HasName {A = A} (refused_at (number why) k)
  name_at why k = record { named = (why, refl) }

  pub name_15 : (k : ℕ) → HasName {A = A} (refused_at 15 k)
  name_15 k = name_at refusal.PageDisputed k

  pub name_16 : (k : ℕ) → HasName {A = A} (refused_at 16 k)
  name_16 k = name_at refusal.PageMissing k

  pub name_21 : (k : ℕ) → HasName {A = A} (refused_at 21 k)
  name_21 k = name_at refusal.BadContents k

  pub name_23 : (k : ℕ) → HasName {A = A} (refused_at 23 k)
  name_23 k = name_at refusal.Mistyped k

  pub name_placeless : (a : Answer A) → Placeless a → HasName a
  name_placeless a p = record { named = p.named }

  pub name_choose : (t : Bool) (a b : Answer A) → HasName a → HasName b → HasName (choose t a b)
  name_choose true a b p q = p
  name_choose false a b p q = q

  pub name_then : {B : Type 0} (g : Answer B) (f : B → Answer A) → HasName g → ((b : B) → HasName (f b)) → HasName (then g f)
  name_then (done b) f p q = q b
  name_then (refused_at e place) f p q = record { named = p.named }

pub ruleset names = (placeless, name_15, name_16, name_21, name_23, name_placeless, name_choose, name_then)

-- a refusal without a place is its number
pub numbered : {A : Type 0} (a : Answer A) (n : ℕ) → Placeless a → n ≡ number_of a → (n ≡ 0 → ⊥) → a ≡ refused n
numbered (done a) n p e z = absurd (z e)
numbered (refused_at e place) n p q z = ap₂ refused_at (sym q) p.none
