-- A number that comes twice, looked for one by one. Assumes nothing.
use Prim.Native.Nat.{ℕ, suc, ◌+◌, ◌≤◌, ◌<◌}
use mathlib.Core.Path.{◌≡◌, refl, sym, ap, ◌∙◌}
use mathlib.Core.Bool.{Bool, true, false}
use mathlib.Core.List.{List}
use native.Mathlib.Numerals.{add-one}
use native.Mathlib.Omega.{arith}
use lib.Dec.{ltb, eqb}
use lib.ListN.{length, take, drop, get_or, drop_of_length-le}
use lib.Seq.{drop-cons, take-suc, length-take-le}
use Rattle.std.specs.Prelude.{cond, Option, Some, None, ◌==◌}
use Rattle.std.specs.List.{position, position_or_len}
use Rattle.std.proofs.lemmas.List.Recursion.{is_position_or_len}
use Rattle.wire.specs.Answer.{choose}
use Rattle.slips.specs.Repeats.{place_of, repeat_in, repeat_of}

-- ---- the place of one

place_is : (x : ℕ) (s : List ℕ) → place_of x s ≡ position_or_len (λ y. x == y) s
unfolding place_of
place_is x = is_position_or_len (place_of x) (λ y. x == y) refl (λ y ys. go (eqb x y) (place_of x ys))
  where
    go : (t : Bool) (n : ℕ) → choose t 0 (suc n) ≡ cond t 0 (1 + n)
    go true n = refl
    go false n = omega arith

module _ (x : ℕ) (seen : List ℕ) (r : Option (ℕ × ℕ)) where
  abbrev either : Option (ℕ × ℕ)
  either = choose (ltb (place_of x seen) (length seen)) (Some (place_of x seen, length seen)) r

  found_there : (i : ℕ) → Some i ≡ position (λ y. x == y) seen → either ≡ Some (i, length seen)
  found_there i h = rw (place_is x seen) (go (ltb (position_or_len (λ y. x == y) seen) (length seen)) h)
    where
      go : (t : Bool) → Some i ≡ cond t (Some (position_or_len (λ y. x == y) seen)) None
          → choose t (Some (position_or_len (λ y. x == y) seen, length seen)) r ≡ Some (i, length seen)
      go true e = cc
      go false e = cc

  found_nowhere : None ≡ position (λ y. x == y) seen → either ≡ r
  found_nowhere h = rw (place_is x seen) (go (ltb (position_or_len (λ y. x == y) seen) (length seen)) h)
    where
      go : (t : Bool) → ◌≡◌ {A = Option ℕ} None (cond t (Some (position_or_len (λ y. x == y) seen)) None)
          → choose t (Some (position_or_len (λ y. x == y) seen, length seen)) r ≡ r
      go true e = cc
      go false e = refl

-- ---- the first that was there before

pub record Repeating (s : List ℕ) (j : ℕ) : Type 0 where
  pub within : j ≤ length s
  pub rest : repeat_of s ≡ repeat_in (take j s) (drop j s)

module _ (s : List ℕ) where
  pub repeating_none : Repeating s 0
  unfolding repeat_of
  repeating_none = record { within = omega arith; rest = refl }

  module _ (j : ℕ) (k : Repeating s j) where
    module _ (h : j < length s) (x : ℕ) (e : x ≡ get_or s j 0) where
      seen : length (take j s) ≡ j
      seen = length-take-le j s (omega arith)

      next : repeat_of s ≡ either x (take j s) (repeat_in (take (j + 1) s) (drop (j + 1) s))
      unfolding repeat_in
      next = k.rest ∙ rw (drop-cons s j 0 h, add-one j, take-suc s j 0 h, e) refl

      pub repeat_found : (i : ℕ) → Some i ≡ position (λ y. x == y) (take j s) → Some (i, j) ≡ repeat_of s
      repeat_found i f = sym (next ∙ found_there x (take j s) _ i f ∙ ap (λ (n : ℕ). Some (i, n)) seen)

      pub repeating_on : None ≡ position (λ y. x == y) (take j s) → Repeating s (j + 1)
      repeating_on f = record { within = omega arith; rest = next ∙ found_nowhere x (take j s) _ f }

    pub repeat_none : length s ≤ j → None ≡ repeat_of s
    unfolding repeat_in
    repeat_none h = sym (k.rest ∙ rw (drop_of_length-le s {i = j} h))
