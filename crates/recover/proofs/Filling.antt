-- The blocks of a secret, one behind the other, and what is given of them. Assumes nothing.
use mathlib.Core.Path.{◌≡◌, refl, sym, ap, ap₂, ◌∙◌}
use mathlib.Core.Bool.{Bool, true, false, ◌&&◌}
use mathlib.Core.List.{List, [], ◌∷◌, ◌++◌, map, append-nil, append_assoc}
use Prim.Native.Nat.{ℕ, zero, suc, ◌+◌, ◌-◌, ◌*◌, ◌<◌, ◌≤◌}
use native.Mathlib.Nat.{add-zero}
use native.Mathlib.Numerals.{add-one}
use native.Mathlib.Omega.{arith}
use lib.Dec.{eqb}
use lib.ListN.{length, drop, length-append}
use Rattle.wire.specs.Every.{every}
use Rattle.wire.specs.Number.{big_endian}
use Rattle.wire.specs.Over.{over}
use Rattle.wire.proofs.Digits.{length_digits}
use Rattle.wire.proofs.Overs.{over_then, over_none}
use Rattle.field.specs.Element.{joined}
use Rattle.curve.specs.Curve.{through_at}
use Rattle.recover.specs.Recover.{Slip, points, block_of, on_curves, values_at0}
use Rattle.recover.specs.Private.{slip_in, fitting, element_in, kept}
use Rattle.std.specs.Prelude.{Option, Some, None}

-- ---- block by block

-- a test of all slips from t on, of their payloads or of what was read
pub every_map : (f : Slip → Bool) (ps : List (List ℕ)) (t : ℕ) → every (λ p. f (slip_in p)) (drop t ps) ≡ every f (drop t (map slip_in ps))
unfolding every
every_map f [] zero = refl
every_map f [] (suc t) = refl
every_map f (p ∷ ps) zero = ap (λ (b : Bool). f (slip_in p) && b) (every_map f ps zero)
every_map f (p ∷ ps) (suc t) = every_map f ps t

-- the slips from t on, judged by one block, as the code has them and as the definition does
pub fitting_read : (t k : ℕ) (slips : List (List ℕ)) (b : Bool) → fitting t k slips ≡ b
    → every (λ w. eqb (through_at t (points k (map slip_in slips)) w.index) (block_of k w)) (drop t (map slip_in slips)) ≡ b
fitting_read t k slips b h =
    sym (every_map (λ w. eqb (through_at t (points k (map slip_in slips)) w.index) (block_of k w)) slips t) ∙ h

-- a value is kept where the test passes
kept_some : (b : Bool) (v w : ℕ) → Some w ≡ kept b v → (b ≡ true) × (w ≡ v)
kept_some true v w e = (refl, cc)
kept_some false v w e = cc

kept_none : (b : Bool) (v : ℕ) → None ≡ kept b v → b ≡ false
kept_none true v e = cc
kept_none false v e = refl

module _ (t : ℕ) (vs further : List Slip) (count k : ℕ) (h : k < count) where
  judged : (b : Bool) → every (λ w. eqb (through_at t (points k vs) w.index) (block_of k w)) further ≡ b
      → on_curves (count - k) k t vs further ≡ (b && on_curves (count - (k + 1)) (k + 1) t vs further)
  unfolding on_curves
  judged b e =
      ap (λ (j : ℕ). on_curves j k t vs further) (let z : count - k ≡ suc (count - (k + 1)) = omega arith in z)
      ∙ ap₂ (λ (x : Bool) (j : ℕ). x && on_curves (count - (k + 1)) j t vs further) e (sym (add-one k))

values_snoc : (n k t : ℕ) (vs : List Slip) → values_at0 (suc n) k t vs ≡ values_at0 n k t vs ++ big_endian 16 (through_at t (points (k + n) vs) 0)
unfolding values_at0
values_snoc zero k t vs = append-nil _ ∙ ap (λ (j : ℕ). big_endian 16 (through_at t (points j vs) 0)) (sym (add-zero k))
values_snoc (suc n) k t vs =
    ap (λ (l : List ℕ). big_endian 16 (through_at t (points k vs) 0) ++ l)
    (values_snoc n (suc k) t vs
    ∙ ap (λ (j : ℕ). values_at0 n (suc k) t vs ++ big_endian 16 (through_at t (points j vs) 0)) (let e : suc k + n ≡ k + suc n = omega arith in e))
    ∙ sym (append_assoc (big_endian 16 (through_at t (points k vs) 0)) (values_at0 n (suc k) t vs) (big_endian 16 (through_at t (points (k + suc n) vs) 0)))

pub values_long : (n k t : ℕ) (vs : List Slip) → length (values_at0 n k t vs) ≡ n * 16
unfolding values_at0
values_long zero k t vs = refl
values_long (suc n) k t vs =
    omega (arith, length-append (big_endian 16 (through_at t (points k vs) 0)) (values_at0 n (suc k) t vs), length_digits 256 16 (through_at t (points k vs) 0), values_long n (suc k) t vs)

-- what is known after k of the blocks
pub record Filled (t count : ℕ) (vs : List Slip) (secret₀ secret : List ℕ) (k : ℕ) : Type 0 where
  pub within : k ≤ count
  pub judge : on_curves count 0 t vs (drop t vs) ≡ on_curves (count - k) k t vs (drop t vs)
  pub made : secret ≡ over 0 (values_at0 k 0 t vs) secret₀

pub filled_none : (t count : ℕ) (vs : List Slip) (secret : List ℕ) → Filled t count vs secret secret 0
unfolding values_at0
filled_none t count vs secret =
    record {
      within = omega arith;
      judge = ap (λ (j : ℕ). on_curves j 0 t vs (drop t vs)) (let e : count ≡ count - 0 = omega arith in e);
      made = sym (over_none 0 secret);
    }

module _ (t count : ℕ) (slips : List (List ℕ)) (secret₀ secret : List ℕ) (k : ℕ) (f : Filled t count (map slip_in slips) secret₀ secret k) (h : k < count)
    (o : Option (List ℕ)) (b : element_in o ≡ kept (fitting t k slips) (through_at t (points k (map slip_in slips)) 0)) where
  pub filled_on : (value : List ℕ) → o ≡ Some value → count * 16 ≤ length secret₀ → (bs secret' : List ℕ) → bs ≡ big_endian 16 (joined value) → secret' ≡ over (k * 16) bs secret
      → Filled t count (map slip_in slips) secret₀ secret' (k + 1)
  filled_on value z l bs secret' e g =
      let vs = map slip_in slips in
      let q = kept_some (fitting t k slips) _ (joined value) (sym (ap element_in z) ∙ b) in
      record {
        within = omega arith;
        judge = f.judge ∙ judged t vs (drop t vs) count k h true (fitting_read t k slips true q.0);
        made =
            over_then 0 (k * 16) (values_at0 k 0 t vs) bs secret₀ secret secret' g f.made
            (omega (arith, values_long k 0 t vs))
            (omega (arith, ap length e, length_digits 256 16 (joined value)))
            ∙ ap (λ (x : List ℕ). over 0 x secret₀)
            (ap (λ (x : List ℕ). values_at0 k 0 t vs ++ x) (e ∙ ap (big_endian 16) q.1)
            ∙ ap (λ (j : ℕ). values_at0 k 0 t vs ++ big_endian 16 (through_at t (points j vs) 0)) (let w : k ≡ 0 + k = omega arith in w)
            ∙ sym (values_snoc k 0 t vs)
            ∙ ap (λ (j : ℕ). values_at0 j 0 t vs) (sym (add-one k)));
      }

  pub filled_stop : o ≡ None → false ≡ on_curves count 0 t (map slip_in slips) (drop t (map slip_in slips))
  filled_stop z =
      let vs = map slip_in slips in
      sym (f.judge ∙ judged t vs (drop t vs) count k h false (fitting_read t k slips false (kept_none (fitting t k slips) _ (sym (ap element_in z) ∙ b))))

pub filled_end : (t count : ℕ) (vs : List Slip) (secret₀ secret : List ℕ) (k : ℕ) → Filled t count vs secret₀ secret k → count ≤ k
    → (true ≡ on_curves count 0 t vs (drop t vs)) × (true ≡ true → secret ≡ over 0 (values_at0 count 0 t vs) secret₀)
unfolding on_curves
filled_end t count vs secret₀ secret k f h =
    let e : count - k ≡ 0 = omega arith in
    let j : k ≡ count = omega (arith, f.within) in
    (sym (f.judge ∙ ap (λ (m : ℕ). on_curves m k t vs (drop t vs)) e), λ z. f.made ∙ ap (λ (m : ℕ). over 0 (values_at0 m 0 t vs) secret₀) j)
