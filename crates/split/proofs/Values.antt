-- A curve's value as the code makes it, from the highest power down. Assumes nothing.
use mathlib.Core.Path.{◌≡◌, refl, sym, ap, ap₂, ◌∙◌}
use mathlib.Core.List.{List, [], ◌∷◌}
use Prim.Native.Nat.{ℕ, suc, ◌+◌, ◌-◌, ◌*◌, ◌<◌, ◌≤◌}
use native.Mathlib.Omega.{arith}
use lib.ListN.{length, take, drop, length-drop}
use lib.Seq.{drop-drop, take_all}
use Rattle.field.specs.Field.{plus, product}
use Rattle.field.specs.Element.{joined, halves, block}
use Rattle.field.proofs.Elements.{joined_halves}
use Rattle.curve.specs.Curve.{value_at, blocks}

-- the part of a list from an index on, as the code takes it
pub all_after : (at : ℕ) (l : List ℕ) → take (length l - at) (drop at l) ≡ drop at l
all_after at l = take_all (length l - at) (drop at l) (omega (arith, length-drop at l))

-- what the code's sum and product make of a curve's value and the coefficient below it
module _ (a v x : ℕ) (first made t s : List ℕ) (c : joined first ≡ a) (m : made ≡ halves v) (p : t ≡ halves (product (joined made) x)) (e : s ≡ halves (plus (joined first) (joined t))) where
  one_lower : s ≡ halves (plus a (product v x))
  one_lower =
      let q : joined t ≡ product v x = ap joined p ∙ joined_halves _ ∙ ap (λ (y : ℕ). product y x) (ap joined m ∙ joined_halves v) in
      e ∙ ap₂ (λ (y z : ℕ). halves (plus y z)) c q

module _ (more i : ℕ) (cs : List ℕ) (x : ℕ) (made : List ℕ) where
  -- the value of the blocks from i on
  abbrev pub Upper : Type 0
  Upper = (i ≤ more) × (made ≡ halves (value_at (blocks (more - i) (drop (i * 16) cs)) x))

pub no_upper : (more : ℕ) (cs : List ℕ) (x : ℕ) → Upper more more cs x (0 ∷ 0 ∷ [])
unfolding value_at blocks
no_upper more cs x =
    let e : 0 ≡ more - more = omega arith in
    (omega arith, ap (λ (n : ℕ). halves (value_at (blocks n (drop (more * 16) cs)) x)) e)

module _ (more i : ℕ) (cs : List ℕ) (x : ℕ) (made : List ℕ) (u : Upper more i cs x made) (t s : List ℕ) (p : t ≡ halves (product (joined made) x)) where
  pub upper_lower : (c : List ℕ) → 0 < i → c ≡ halves (block (take (length cs - (i - 1) * 16) (drop ((i - 1) * 16) cs))) → s ≡ halves (plus (joined c) (joined t)) → Upper more (i - 1) cs x s
  unfolding value_at blocks
  upper_lower c h l e =
      let j : ℕ = i - 1 in
      let n : ℕ = more - i in
      let q : suc n ≡ more - j = omega arith in
      let r : j * 16 + 16 ≡ i * 16 = omega arith in
      let d : drop (i * 16) cs ≡ drop 16 (drop (j * 16) cs) = sym (drop-drop 16 (j * 16) cs ∙ ap (λ (k : ℕ). drop k cs) r) in (
        omega arith,
        one_lower (block (drop (j * 16) cs)) (value_at (blocks n (drop (i * 16) cs)) x) x c made t s (ap joined l ∙ joined_halves _ ∙ ap block (all_after (j * 16) cs)) u.1 p e
            ∙ ap (λ (b : List ℕ). halves (plus (block (drop (j * 16) cs)) (product (value_at (blocks n b) x) x))) d
            ∙ ap (λ (k : ℕ). halves (value_at (blocks k (drop (j * 16) cs)) x)) q,
      )

  pub upper_all : (first : List ℕ) → i ≤ 0 → s ≡ halves (plus (joined first) (joined t)) → s ≡ halves (value_at (joined first ∷ blocks more cs) x)
  unfolding value_at
  upper_all first h e =
      let z : i ≡ 0 = omega arith in
      let n : more - i ≡ more = omega arith in
      one_lower (joined first) (value_at (blocks (more - i) (drop (i * 16) cs)) x) x first made t s refl u.1 p e
      ∙ ap₂ (λ (k j : ℕ). halves (value_at (joined first ∷ blocks k (drop (j * 16) cs)) x)) n z
