-- UTF-8 as RFC 3629, section 3, has it (R12.1): a code point below U+0080 is one byte, 0xxxxxxx;
-- one below U+0800 is two bytes, 110xxxxx 10xxxxxx; the x are its bits, the highest first, and its
-- shortest form is its only one.
use Rattle.std.specs.Prelude.{ℕ, ◌+◌, ◌-◌, ◌*◌, Bool, ◌&&◌, List, [], ◌∷◌, ltb, leb}
use Rattle.wire.specs.Answer.{choose}

-- past the last code point, U+10FFFF. It stands for bytes that are no UTF-8, and for the forms of
-- three and four bytes, whose code points are U+0800 and above
unfoldable pub outside : ℕ
outside = 0x110000

unfoldable pub one_byte : ℕ → ℕ
one_byte a = choose (ltb a 0x80) a outside

-- 110xxxxx
unfoldable pub leads : ℕ → Bool
leads a = leb 0xC0 a && ltb a 0xE0

-- 10xxxxxx
unfoldable pub follows : ℕ → Bool
follows b = leb 0x80 b && ltb b 0xC0

-- the eleven x
unfoldable pub joined : ℕ → ℕ → ℕ
joined a b = (a - 0xC0) * 64 + (b - 0x80)

-- below U+0080 one byte is the shorter form
unfoldable pub two_bytes : ℕ → ℕ → ℕ
two_bytes a b = choose (leads a && (follows b && leb 0x80 (joined a b))) (joined a b) outside

unfoldable pub code_points : List ℕ → List ℕ
code_points [] = []
code_points (a ∷ []) = one_byte a ∷ []
code_points (a ∷ b ∷ more) = choose (ltb a 0x80) (a ∷ code_points (b ∷ more)) (two_bytes a b ∷ code_points more)
