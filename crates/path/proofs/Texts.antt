-- What the library says of a text, as code points: it takes for UTF-8 what decodes to allowed code
-- points, and its characters are these. Assumes nothing.
use mathlib.Core.Path.{◌≡◌, refl, sym, ap, ap₂, ◌∙◌}
use mathlib.Core.Logic.{◌⊎◌, inl, inr}
use mathlib.Core.Bool.{Bool, true, false, ◌&&◌}
use mathlib.Core.List.{List, [], ◌∷◌, ◌++◌}
use Prim.Native.Nat.{ℕ, ◌+◌, ◌/◌, ◌%◌, ◌≤◌, ◌<◌}
use native.Mathlib.Omega.{arith}
use lib.Dec.{ltb}
use lib.Utf8.{scalars, encode, encodes, low_scalar}
use borrow.Author.Tests.{lt-ltb, le-ltb}
use Rattle.std.specs.List.{list_all}
use Rattle.std.specs.Str.{IsUtf8, chars}
use Rattle.std.proofs.lemmas.Str.{encodes-chars}
use Rattle.wire.proofs.Cases.{lt_or_le}
use Rattle.wire.proofs.Both.{tests}
use Rattle.wire.specs.Every.{every, within}
use Rattle.path.specs.Utf8.{outside, leads, two_bytes, code_points}
use Rattle.path.specs.Path.{plain_text}
use Rattle.path.proofs.Points.{points_one, points_two}
use Rattle.path.proofs.Encoding.{utf8_point, utf8, point_one, point_two, two_back, within_cons, within_more, utf8_decoded}

-- ---- one character

module _ (c : ℕ) where
  encode_one : c < 0x80 → encode c ≡ c ∷ []
  unfolding encode
  encode_one h = rw (lt-ltb c 0x80 h)

  encode_two : 0x80 ≤ c → c < 0x800 → encode c ≡ (0xC0 + c / 64) ∷ (0x80 + c % 64) ∷ []
  unfolding encode
  encode_two h k = rw (le-ltb c 0x80 h, lt-ltb c 0x800 k)

  -- three bytes or four
  encode_more : 0x800 ≤ c → (a : ℕ) × (b : ℕ) × (more : List ℕ) × (0xE0 ≤ a) × (encode c ≡ a ∷ b ∷ more)
  unfolding encode
  encode_more h = go (lt_or_le c 0x10000)
    where
      go : (c < 0x10000) ⊎ (0x10000 ≤ c) → (a : ℕ) × (b : ℕ) × (more : List ℕ) × (0xE0 ≤ a) × (encode c ≡ a ∷ b ∷ more)
      go (inl k) = (0xE0 + c / 4096, 128 + c / 64 % 64, (128 + c % 64) ∷ [], omega arith, rw (le-ltb c 0x80 (omega arith), le-ltb c 0x800 h, lt-ltb c 0x10000 k))
      go (inr k) = (0xF0 + c / 262144, 128 + c / 4096 % 64, (128 + c / 64 % 64) ∷ (128 + c % 64) ∷ [], omega arith, rw (le-ltb c 0x80 (omega arith), le-ltb c 0x800 h, le-ltb c 0x10000 k))

-- no two bytes that begin so
high_outside : (a b : ℕ) → 0xE0 ≤ a → outside ≡ two_bytes a b
unfolding two_bytes leads
high_outside a b h = search tests

-- ---- whole texts

points_of : (cs : List ℕ) → list_all (λ c. ltb c 0x300) cs ≡ within 0x300 (code_points (encodes cs))
unfolding every code_points outside
points_of [] = refl
points_of (c ∷ cs) = go (lt_or_le c 0x80) (lt_or_le c 0x800) (points_of cs)
  where
    go : (c < 0x80) ⊎ (0x80 ≤ c) → (c < 0x800) ⊎ (0x800 ≤ c) → list_all (λ c. ltb c 0x300) cs ≡ within 0x300 (code_points (encodes cs))
        → list_all (λ c. ltb c 0x300) (c ∷ cs) ≡ within 0x300 (code_points (encodes (c ∷ cs)))
    go (inl h) k ih = rw (encode_one c h, points_one c (encodes cs) h) (ap (λ (t : Bool). ltb c 0x300 && t) ih)
    go (inr h) (inl k) ih =
        rw (encode_two c h k, points_two (0xC0 + c / 64) (0x80 + c % 64) (encodes cs) (omega arith), ← two_back c h k) (ap (λ (t : Bool). ltb c 0x300 && t) ih)
    go (inr h) (inr k) ih =
        let (a, b, more, l, e) = encode_more c k in
        rw (le-ltb c 0x300 (omega arith), e, points_two a b (more ++ encodes cs) (omega arith), ← high_outside a b l) refl

low_encodes : (cs : List ℕ) → within 0x800 cs ≡ true → (scalars cs ≡ true) × (encodes cs ≡ utf8 cs)
unfolding utf8
low_encodes [] e = (refl, refl)
low_encodes (c ∷ cs) e =
    let p = within_cons 0x800 c cs e in
    let r = low_encodes cs p.1 in
    (rw (low_scalar c (omega arith)) r.0, ap₂ (λ (x y : List ℕ). x ++ y) (go (lt_or_le c 0x80) p.0) r.1)
  where
    go : (c < 0x80) ⊎ (0x80 ≤ c) → c < 0x800 → encode c ≡ utf8_point c
    go (inl h) k = encode_one c h ∙ sym (point_one c h)
    go (inr h) k = encode_two c h k ∙ sym (point_two c h)

module _ (s : List ℕ) where
  -- its characters decide
  pub text_plain : IsUtf8 s → list_all (λ c. ltb c 0x300) (chars s) ≡ plain_text s
  unfolding plain_text
  text_plain u = points_of (chars s) ∙ ap (λ (t : List ℕ). within 0x300 (code_points t)) (encodes-chars s u)

  plain_utf8 : plain_text s ≡ true → IsUtf8 s
  unfolding plain_text
  plain_utf8 e =
      let w = within_more 0x300 0x800 (omega arith) (code_points s) e in
      let l = low_encodes (code_points s) w in
      (code_points s, (l.0, l.1 ∙ utf8_decoded s w))

  -- no text is not plain
  pub no_text : (IsUtf8 s → ⊥) → false ≡ plain_text s
  no_text n = go (plain_text s) refl
    where
      go : (t : Bool) → plain_text s ≡ t → false ≡ t
      go true e = absurd (n (plain_utf8 e))
      go false e = refl
