-- The code point in front of a text. Assumes nothing.
use mathlib.Core.Path.{◌≡◌}
use mathlib.Core.List.{List, [], ◌∷◌}
use Prim.Native.Nat.{ℕ, ◌≤◌, ◌<◌}
use borrow.Author.Tests.{lt-ltb, le-ltb}
use Rattle.path.specs.Utf8.{outside, one_byte, two_bytes, code_points}

pub points_one : (a : ℕ) (s : List ℕ) → a < 0x80 → code_points (a ∷ s) ≡ a ∷ code_points s
unfolding code_points one_byte
points_one a [] h = rw (lt-ltb a 0x80 h)
points_one a (b ∷ s) h = rw (lt-ltb a 0x80 h)

pub points_two : (a b : ℕ) (s : List ℕ) → 0x80 ≤ a → code_points (a ∷ b ∷ s) ≡ two_bytes a b ∷ code_points s
unfolding code_points
points_two a b s h = rw (le-ltb a 0x80 h)

-- a text that ends where a second byte must follow
pub points_cut : (a : ℕ) → 0x80 ≤ a → code_points (a ∷ []) ≡ outside ∷ []
unfolding code_points one_byte
points_cut a h = rw (le-ltb a 0x80 h)
