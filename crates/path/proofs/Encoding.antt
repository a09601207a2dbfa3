-- RFC 3629 read the other way: code points as bytes. Decoding undoes it, and it keeps the order.
-- Assumes nothing.
use mathlib.Core.Path.{◌≡◌, refl, sym, ap, ap₂, ◌∙◌}
use mathlib.Core.Logic.{◌⊎◌, inl, inr}
use mathlib.Core.Bool.{Bool, true, false, ◌&&◌}
use mathlib.Core.List.{List, [], ◌∷◌, ◌++◌}
use Prim.Native.Nat.{ℕ, zero, suc, ◌+◌, ◌-◌, ◌*◌, ◌/◌, ◌%◌, ◌≤◌, ◌<◌}
use native.Mathlib.Omega.{arith}
use lib.Dec.{ltb, leb, lit<}
use lib.ListN.{get_or}
use borrow.Author.Tests.{lt-ltb, le-ltb, ltb-true, leb-true}
use Rattle.wire.specs.Answer.{choose}
use Rattle.wire.specs.Number.{Bytes}
use Rattle.wire.proofs.Cases.{both_hold, lt_or_le}
use Rattle.path.specs.Utf8.{outside, leads, follows, joined, two_bytes, code_points}
use Rattle.path.specs.Order.{below}
use Rattle.wire.specs.Every.{every, within}
use Rattle.wire.proofs.Both.{tests}
use Rattle.path.proofs.Orders.{Compared, less, same, more, compared, below_less, below_more, below_same, below_front, below_asymmetric}
use Rattle.path.proofs.Points.{points_one, points_two, points_cut}

-- section 3 of RFC 3629 up to U+07FF: 0xxxxxxx, or 110xxxxx 10xxxxxx
unfoldable pub utf8_point : ℕ → List ℕ
utf8_point c = choose (ltb c 0x80) (c ∷ []) ((0xC0 + c / 64) ∷ (0x80 + c % 64) ∷ [])

unfoldable pub utf8 : List ℕ → List ℕ
utf8 [] = []
utf8 (c ∷ cs) = utf8_point c ++ utf8 cs

-- ---- tests and facts

pub within_cons : (n c : ℕ) (cs : List ℕ) → within n (c ∷ cs) ≡ true → (c < n) × (within n cs ≡ true)
unfolding every
within_cons n c cs e =
    let p = both_hold (ltb c n) (within n cs) e in
    (ltb-true c n p.0, p.1)

pub within_more : (m n : ℕ) → m ≤ n → (cs : List ℕ) → within m cs ≡ true → within n cs ≡ true
unfolding every
within_more m n h [] e = refl
within_more m n h (c ∷ cs) e =
    let p = within_cons m c cs e in
    rw (lt-ltb c n (omega arith)) (within_more m n h cs p.1)

-- ---- one code point

module _ (c : ℕ) where
  pub point_one : c < 0x80 → utf8_point c ≡ c ∷ []
  unfolding utf8_point
  point_one h = rw (lt-ltb c 0x80 h)

  pub point_two : 0x80 ≤ c → utf8_point c ≡ (0xC0 + c / 64) ∷ (0x80 + c % 64) ∷ []
  unfolding utf8_point
  point_two h = rw (le-ltb c 0x80 h)

  -- the two bytes of a code point decode to it
  pub two_back : 0x80 ≤ c → c < 0x800 → c ≡ two_bytes (0xC0 + c / 64) (0x80 + c % 64)
  unfolding two_bytes leads follows joined
  two_back h k =
      let lead : (0xC0 ≤ 0xC0 + c / 64) × (0xC0 + c / 64 < 0xE0) = omega arith in
      let next : (0x80 ≤ 0x80 + c % 64) × (0x80 + c % 64 < 0xC0) = omega arith in
      let value : c ≡ joined (0xC0 + c / 64) (0x80 + c % 64) = omega arith in
      let shortest : 0x80 ≤ joined (0xC0 + c / 64) (0x80 + c % 64) = omega arith in
      search tests

-- two bytes that are a code point are its two bytes
abbrev paired : ℕ → ℕ → Bool
paired a b = leads a && (follows b && leb 0x80 (joined a b))

module _ (a b : ℕ) (h : two_bytes a b < 0x800) where
  passed : paired a b ≡ true
  unfolding two_bytes outside
  passed = go (paired a b) refl h
    where
      go : (t : Bool) → paired a b ≡ t → choose t (joined a b) outside < 0x800 → paired a b ≡ true
      go true e k = e
      go false e k = absurd (omega arith)

  two_forth : utf8_point (two_bytes a b) ≡ a ∷ b ∷ []
  unfolding two_bytes leads follows joined
  two_forth =
      let p = both_hold (leads a) (follows b && leb 0x80 (joined a b)) passed in
      let q = both_hold (follows b) (leb 0x80 (joined a b)) p.1 in
      let l = both_hold (leb 0xC0 a) (ltb a 0xE0) p.0 in
      let f = both_hold (leb 0x80 b) (ltb b 0xC0) q.0 in
      let la : 0xC0 ≤ a = leb-true 0xC0 a l.0 in
      let lb : a < 0xE0 = ltb-true a 0xE0 l.1 in
      let fa : 0x80 ≤ b = leb-true 0x80 b f.0 in
      let fb : b < 0xC0 = ltb-true b 0xC0 f.1 in
      let m : 0x80 ≤ (a - 0xC0) * 64 + (b - 0x80) = leb-true 0x80 (joined a b) q.1 in
      let e : two_bytes a b ≡ (a - 0xC0) * 64 + (b - 0x80) = rw passed in
      rw e (point_two ((a - 0xC0) * 64 + (b - 0x80)) m ∙ ap₂ (λ (x y : ℕ). x ∷ y ∷ []) (omega arith) (omega arith))

-- ---- whole texts

-- bytes that decode to code points of one and two bytes are the UTF-8 of these
module _ (a : ℕ) where
  text_one : (s : List ℕ) → a < 0x80 → within 0x800 (code_points (a ∷ s)) ≡ true → (within 0x800 (code_points s) ≡ true → utf8 (code_points s) ≡ s)
      → utf8 (code_points (a ∷ s)) ≡ a ∷ s
  unfolding utf8
  text_one s h e ih =
      let p = within_cons 0x800 a (code_points s) (rw (points_one a s h) at e) in
      rw (points_one a s h, point_one a h, ih p.1)

  text_two : (b : ℕ) (s : List ℕ) → 0x80 ≤ a → within 0x800 (code_points (a ∷ b ∷ s)) ≡ true
      → (within 0x800 (code_points s) ≡ true → utf8 (code_points s) ≡ s) → utf8 (code_points (a ∷ b ∷ s)) ≡ a ∷ b ∷ s
  unfolding utf8
  text_two b s h e ih =
      let p = within_cons 0x800 (two_bytes a b) (code_points s) (rw (points_two a b s h) at e) in
      rw (points_two a b s h, two_forth a b p.0, ih p.1)

  text_cut : 0x80 ≤ a → within 0x800 (code_points (a ∷ [])) ≡ true → ⊥
  unfolding outside
  text_cut h e =
      let p = within_cons 0x800 outside [] (rw (points_cut a h) at e) in
      omega arith

pub utf8_decoded : (s : List ℕ) → within 0x800 (code_points s) ≡ true → utf8 (code_points s) ≡ s
unfolding code_points utf8
utf8_decoded [] e = refl
utf8_decoded (a ∷ []) e = go (lt_or_le a 0x80)
  where
    go : (a < 0x80) ⊎ (0x80 ≤ a) → utf8 (code_points (a ∷ [])) ≡ a ∷ []
    go (inl h) = text_one a [] h e (λ p. refl)
    go (inr h) = absurd (text_cut a h e)
utf8_decoded (a ∷ b ∷ s) e = go (lt_or_le a 0x80) (utf8_decoded (b ∷ s)) (utf8_decoded s)
  where
    go : (a < 0x80) ⊎ (0x80 ≤ a) → (within 0x800 (code_points (b ∷ s)) ≡ true → utf8 (code_points (b ∷ s)) ≡ b ∷ s)
        → (within 0x800 (code_points s) ≡ true → utf8 (code_points s) ≡ s) → utf8 (code_points (a ∷ b ∷ s)) ≡ a ∷ b ∷ s
    go (inl h) rest after = text_one a (b ∷ s) h e rest
    go (inr h) rest after = text_two a b s h e after

-- the UTF-8 of code points below U+0800 decodes to them
pub decoded_utf8 : (cs : List ℕ) → within 0x800 cs ≡ true → code_points (utf8 cs) ≡ cs
unfolding utf8 code_points
decoded_utf8 [] e = refl
decoded_utf8 (c ∷ cs) e =
    let p = within_cons 0x800 c cs e in
    go (lt_or_le c 0x80) p.0 (decoded_utf8 cs p.1)
  where
    go : (c < 0x80) ⊎ (0x80 ≤ c) → c < 0x800 → code_points (utf8 cs) ≡ cs → code_points (utf8_point c ++ utf8 cs) ≡ c ∷ cs
    go (inl h) k ih = rw (point_one c h, points_one c (utf8 cs) h, ih)
    go (inr h) k ih =
        rw (point_two c h, points_two (0xC0 + c / 64) (0x80 + c % 64) (utf8 cs) (omega arith), ← two_back c h k, ih)

pub utf8_bytes : (cs : List ℕ) → within 0x800 cs ≡ true → Bytes (utf8 cs)
unfolding utf8
utf8_bytes [] e i = lit< tt
utf8_bytes (c ∷ cs) e i =
    let p = within_cons 0x800 c cs e in
    go (lt_or_le c 0x80) p.0 (utf8_bytes cs p.1) i
  where
    go : (c < 0x80) ⊎ (0x80 ≤ c) → c < 0x800 → Bytes (utf8 cs) → Bytes (utf8_point c ++ utf8 cs)
    go (inl h) k ih = rw (point_one c h) (λ i. one i)
      where
        one : (i : ℕ) → get_or (c ∷ utf8 cs) i 0 < 256
        one zero = omega arith
        one (suc i) = ih i
    go (inr h) k ih = rw (point_two c h) (λ i. two i)
      where
        two : (i : ℕ) → get_or ((0xC0 + c / 64) ∷ (0x80 + c % 64) ∷ utf8 cs) i 0 < 256
        two zero = omega arith
        two (suc zero) = omega arith
        two (suc (suc i)) = ih i

-- ---- the order

-- a lower code point makes a lower text, whatever follows
point_below : (c d : ℕ) (xs ys : List ℕ) → c < d → d < 0x800 → below (utf8_point c ++ xs) (utf8_point d ++ ys) ≡ true
point_below c d xs ys h k = go (lt_or_le c 0x80) (lt_or_le d 0x80)
  where
    go : (c < 0x80) ⊎ (0x80 ≤ c) → (d < 0x80) ⊎ (0x80 ≤ d) → below (utf8_point c ++ xs) (utf8_point d ++ ys) ≡ true
    go (inl p) (inl q) = rw (point_one c p, point_one d q) (below_less c d xs ys h)
    go (inl p) (inr q) = rw (point_one c p, point_two d q) (below_less c (0xC0 + d / 64) xs _ (omega arith))
    go (inr p) (inl q) = absurd (omega arith)
    go (inr p) (inr q) = rw (point_two c p, point_two d q) (second (compared (c / 64) (d / 64)))
      where
        second : Compared (c / 64) (d / 64)
            → below ((0xC0 + c / 64) ∷ (0x80 + c % 64) ∷ xs) ((0xC0 + d / 64) ∷ (0x80 + d % 64) ∷ ys) ≡ true
        second (less r) = below_less _ _ _ _ (omega arith)
        second (same r) = below_same _ _ _ _ (omega arith) ∙ below_less _ _ _ _ (omega arith)
        second (more r) = absurd (omega arith)

-- a code point has at least one byte
some_byte : (c : ℕ) (xs : List ℕ) → (below [] (utf8_point c ++ xs) ≡ true) × (below (utf8_point c ++ xs) [] ≡ false)
unfolding below
some_byte c xs = go (lt_or_le c 0x80)
  where
    go : (c < 0x80) ⊎ (0x80 ≤ c) → (below [] (utf8_point c ++ xs) ≡ true) × (below (utf8_point c ++ xs) [] ≡ false)
    go (inl h) = rw (point_one c h) (refl, refl)
    go (inr h) = rw (point_two c h) (refl, refl)

pub utf8_below : (cs ds : List ℕ) → within 0x800 cs ≡ true → within 0x800 ds ≡ true → below (utf8 cs) (utf8 ds) ≡ below cs ds
unfolding utf8 below
utf8_below [] [] p q = refl
utf8_below [] (d ∷ ds) p q = (some_byte d (utf8 ds)).0
utf8_below (c ∷ cs) [] p q = (some_byte c (utf8 cs)).1
utf8_below (c ∷ cs) (d ∷ ds) p q =
    let m = within_cons 0x800 c cs p in
    let n = within_cons 0x800 d ds q in
    go m.0 n.0 (utf8_below cs ds m.1 n.1) (compared c d)
  where
    go : c < 0x800 → d < 0x800 → below (utf8 cs) (utf8 ds) ≡ below cs ds → Compared c d
        → below (utf8_point c ++ utf8 cs) (utf8_point d ++ utf8 ds) ≡ below (c ∷ cs) (d ∷ ds)
    go m n ih (less h) = point_below c d (utf8 cs) (utf8 ds) h n ∙ sym (below_less c d cs ds h)
    go m n ih (more h) =
        below_asymmetric (utf8_point d ++ utf8 ds) (utf8_point c ++ utf8 cs) (point_below d c (utf8 ds) (utf8 cs) h m) ∙ sym (below_more c d cs ds h)
    go m n ih (same h) =
        ap (λ (z : ℕ). below (utf8_point c ++ utf8 cs) (utf8_point z ++ utf8 ds)) (sym h)
        ∙ below_front (utf8_point c) (utf8 cs) (utf8 ds) ∙ ih ∙ sym (below_same c d cs ds h)
