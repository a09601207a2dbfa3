-- What the last test of `path::allowed` says of the rule; z is what its call answered.
-- Assumes nothing.
use mathlib.Core.Path.{◌≡◌, refl, ap, ◌∙◌}
use mathlib.Core.Bool.{Bool, true, false, not, ◌&&◌, ◌||◌}
use mathlib.Core.List.{List, [], ◌∷◌}
use Prim.Native.Nat.{ℕ, ◌≤◌}
use lib.Dec.{eqb}
use lib.ListN.{length}
use Rattle.std.specs.List.{list_any}
use borrow.Author.Tests.{le-leb}
use Rattle.wire.specs.Every.{every, without}
use Rattle.path.specs.Names.{parts, is_name}
use Rattle.path.specs.Path.{path_most, plain_text, path_allowed}

-- `contains` of the library finds what `without` rules out
none_any : (n : ℕ) (s : List ℕ) → not (list_any (λ y. eqb y n) s) ≡ without n s
unfolding every
none_any n [] = refl
none_any n (x ∷ s) = go (eqb x n) (none_any n s)
  where
    go : (t : Bool) → not (list_any (λ y. eqb y n) s) ≡ without n s → not (t || list_any (λ y. eqb y n) s) ≡ (not t && without n s)
    go true e = refl
    go false e = e

module _ (s : List ℕ) where
  -- where the other tests have passed byte 00 decides
  pub zero_decides : (z : Bool) → length s ≤ path_most → true ≡ plain_text s → true ≡ every is_name (parts s)
      → z ≡ list_any (λ y. eqb y 0) s → not z ≡ path_allowed s
  unfolding path_allowed
  zero_decides z h e f g = rw (le-leb (length s) path_most h, ← e, ← f) (ap not g ∙ none_any 0 s)
