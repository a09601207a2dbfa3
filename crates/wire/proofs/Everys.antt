-- A test of a whole list: over two lists put together, and as a loop finds it. Assumes nothing.
use mathlib.Core.Path.{◌≡◌}
use mathlib.Core.Bool.{Bool, true, false}
use mathlib.Core.List.{List, [], ◌∷◌, ◌++◌}
use Prim.Native.Nat.{ℕ, ◌+◌, ◌≤◌, ◌<◌}
use native.Mathlib.Numerals.{add-one}
use lib.ListN.{length, drop, get_or, drop_of_length-le}
use lib.Seq.{drop-cons}
use Rattle.wire.specs.Every.{every}
use Rattle.wire.proofs.Both.{second_fails}

module _ {A : Type 0} (test : A → Bool) where
  -- one that fails, wherever it stands
  pub every_fails : (xs : List A) (y : A) (ys : List A) → test y ≡ false → every test (xs ++ (y ∷ ys)) ≡ false
  unfolding every
  every_fails [] y ys e = rw e
  every_fails (x ∷ xs) y ys e = second_fails (test x) _ (every_fails xs y ys e)

  -- what is left from index i on
  module _ (s : List A) (i : ℕ) (d : A) where
    pub every_on : i < length s → test (get_or s i d) ≡ true → every test (drop i s) ≡ every test (drop (i + 1) s)
    unfolding every
    every_on h e = rw (add-one, drop-cons s i d h, e)

    pub every_stop : i < length s → test (get_or s i d) ≡ false → every test (drop i s) ≡ false
    unfolding every
    every_stop h e = rw (drop-cons s i d h, e)

  pub every_end : (s : List A) (i : ℕ) → length s ≤ i → every test (drop i s) ≡ true
  unfolding every
  every_end s i h = rw (drop_of_length-le s {i = i} h)
