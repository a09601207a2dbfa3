-- The tests of the reader say which parts the rules allow a frame. Assumes nothing.
use Prim.Native.Nat.{ℕ, ◌<◌, ◌≤◌}
use mathlib.Core.Path.{◌≡◌, refl, sym}
use mathlib.Core.Logic.{◌⊎◌, inl, inr}
use mathlib.Core.Bool.{Bool, true, false}
use native.Mathlib.Omega.{arith}
use borrow.Author.Tests.{le-ltb, lt-ltb, le-leb, lt-leb, eq-eqb, ne_eqb, ltb-false, leb-true, leb-false, eqb-true, eqb-false}
use lib.Dec.{ltb, leb, eqb}
use Rattle.wire.specs.Answer.{choose}
use Rattle.frame.specs.Allowed.{Kind}
use Rattle.frame.specs.Kind.{type_byte}
use Rattle.frame.specs.declared.Kind.{Kind as Kinds}
use Rattle.frame.specs.declared.Kind.TheVariants as kind
use Rattle.frame.specs.Frame.{known, in_place, in_size}

pub known_yes : (kind : ℕ) → Kind kind → known kind ≡ true
unfolding known
known_yes kind (inl e) = rw e
known_yes kind (inr (inl e)) = rw e
known_yes kind (inr (inr e)) = rw e

pub known_only : (kind : ℕ) → known kind ≡ true → Kind kind
unfolding known
known_only kind h = go (eqb kind 0x44) (eqb kind 0x4B) refl refl h
  where
    go : (a b : Bool) → eqb kind 0x44 ≡ a → eqb kind 0x4B ≡ b → choose a true (choose b true (eqb kind 0x41)) ≡ true → Kind kind
    go true b p q h = inl (eqb-true kind 0x44 p)
    go false true p q h = inr (inl (eqb-true kind 0x4B q))
    go false false p q h = inr (inr (eqb-true kind 0x41 h))

-- a test that says no did not hold
unless : (t x : Bool) → choose t false x ≡ true → (t ≡ false) × (x ≡ true)
unless true x h = let z : ◌≡◌ {A = ℕ} 0 1 = cc in absurd (omega arith)
unless false x h = (refl, h)

pub place_yes : (kind index total : ℕ) → index < total → (kind ≡ 0x44) ⊎ (total ≡ 1) → in_place kind index total ≡ true
unfolding in_place
place_yes kind index total h s = rw (ne_eqb total 0 (λ z. omega arith), lt-leb total index h) (go (eqb kind 0x44) refl s)
  where
    go : (t : Bool) → eqb kind 0x44 ≡ t → (kind ≡ 0x44) ⊎ (total ≡ 1) → choose t true (eqb total 1) ≡ true
    go true e s = refl
    go false e (inl k) = absurd (eqb-false kind 0x44 e k)
    go false e (inr k) = eq-eqb total 1 k

pub place_only : (kind index total : ℕ) → in_place kind index total ≡ true → (index < total) × ((kind ≡ 0x44) ⊎ (total ≡ 1))
unfolding in_place
place_only kind index total h =
    let t = unless (eqb total 0) _ h in
    let u = unless (leb total index) _ t.1 in
    (leb-false total index u.0, go (eqb kind 0x44) refl u.1)
  where
    go : (t : Bool) → eqb kind 0x44 ≡ t → choose t true (eqb total 1) ≡ true → (kind ≡ 0x44) ⊎ (total ≡ 1)
    go true e h = inl (eqb-true kind 0x44 e)
    go false e h = inr (eqb-true total 1 h)

pub place_past : (kind index total : ℕ) → total ≤ index → in_place kind index total ≡ false
unfolding in_place
place_past kind index total h = rw (le-leb total index h) (go (eqb total 0))
  where
    go : (t : Bool) → choose t false false ≡ false
    go true = refl
    go false = refl

pub place_several : (kind index total : ℕ) → (kind ≡ 0x44 → ⊥) → (total ≡ 1 → ⊥) → in_place kind index total ≡ false
unfolding in_place
place_several kind index total k h = rw (ne_eqb kind 0x44 k, ne_eqb total 1 h) (go (eqb total 0) (leb total index))
  where
    go : (t u : Bool) → choose t false (choose u false false) ≡ false
    go true u = refl
    go false true = refl
    go false false = refl

pub size_yes : (total len : ℕ) → total ≤ 96 → len ≤ 480 → in_size total len ≡ true
unfolding in_size
size_yes total len p d = rw (le-ltb 96 total p, le-leb len 480 d)

pub size_only : (total len : ℕ) → in_size total len ≡ true → (total ≤ 96) × (len ≤ 480)
unfolding in_size
size_only total len h =
    let t = unless (ltb 96 total) (leb len 480) h in
    (ltb-false 96 total t.0, leb-true len 480 t.1)

pub size_pages : (total len : ℕ) → 96 < total → in_size total len ≡ false
unfolding in_size
size_pages total len h = rw (lt-ltb 96 total h)

pub size_data : (total len : ℕ) → 480 < len → in_size total len ≡ false
unfolding in_size
size_data total len h = rw (lt-leb len 480 h) (go (ltb 96 total))
  where
    go : (t : Bool) → choose t false false ≡ false
    go true = refl
    go false = refl

-- ---- for `in_place`

pub main_placed : (k : Kinds) (index total : ℕ) (m : Bool) → index < total → k ≡ kind.Main → m ≡ true → m ≡ in_place (type_byte k) index total
main_placed k index total m h e q = rw (e, q) (sym (place_yes 0x44 index total h (inl refl)))

pub other_placed : (k : Kinds) (index total : ℕ) → index < total → (k ≡ kind.Main → ⊥) → eqb total 1 ≡ in_place (type_byte k) index total
unfolding in_place
other_placed kind.Main index total h n = absurd (n refl)
other_placed kind.Key index total h n = rw (ne_eqb total 0 (λ z. omega arith), lt-leb total index h)
other_placed kind.Auth index total h n = rw (ne_eqb total 0 (λ z. omega arith), lt-leb total index h)

pub never_placed : (k : Kinds) (index total : ℕ) → total ≤ index → ltb index total ≡ in_place (type_byte k) index total
never_placed k index total h = rw (le-ltb index total h) (sym (place_past (type_byte k) index total h))
