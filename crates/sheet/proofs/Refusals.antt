-- The words beside a refusal, laid one after another. Assumes nothing.
use mathlib.Core.Path.{◌≡◌, refl, sym}
use mathlib.Core.Bool.{Bool, true, false}
use mathlib.Core.List.{List, [], ◌++◌}
use Prim.Native.Nat.{ℕ, ◌+◌, ◌*◌, ◌≤◌}
use native.Mathlib.Omega.{arith}
use borrow.Author.Tests.{eq-eqb, ne_eqb}
use lib.Dec.{eqb}
use lib.ListN.{length, length-append}
use Rattle.digits.specs.Private.{Laid}
use Rattle.wire.specs.Over.{over}
use Rattle.wire.specs.Answer.{choose}
use Rattle.wire.proofs.Overs.{over_none}
use Rattle.digits.specs.Decimal.{decimal, numeral, line_feed, refused_name}
use Rattle.digits.proofs.Decimals.{length_decimal}
use Rattle.digits.proofs.Numerals.{length_numeral}
use Rattle.sheet.specs.Words.{colon, too_large, were_given, pages_of, bytes_hold, split_it, nothing_read, no_such_page, not_printed, given_words, large_words, reason_words, refusal_words}
use Rattle.digits.proofs.Laying.{laid_one, laid_then, laid_as}

-- another write behind the first, where there is room for both
laid_on : {at m n k r : ℕ} {xs bs l x y : List ℕ} → at + (m + k) ≤ length l → Laid at m xs l x n → Laid n k bs x y r → Laid at (m + k) (xs ++ bs) l y r
laid_on {at} {m} {n} {k} {r} {xs} {bs} {l} {x} {y} h p q = laid_then at m n k r xs bs l x y p q (omega (arith, p.next, p.short))

module _ (at given : ℕ) (l : List ℕ) where
  pub none_given : given ≡ 0 → Laid at 43 (given_words given) l l at
  unfolding given_words
  none_given e = rw e (laid_one at 43 [] l l at (omega arith) (omega arith) (sym (over_none at l)))

  pub some_given : (x y : List ℕ) (m r : ℕ) → at + 43 ≤ length l → (given ≡ 0 → ⊥) → Laid at 20 (numeral given) l x m → Laid m 23 were_given x y r
      → Laid at 43 (given_words given) l y r
  unfolding given_words
  some_given x y m r room e p q = rw (ne_eqb given 0 e) (laid_on room p q)

  pub large_laid : (size : ℕ) (x1 x2 x3 x4 x5 x6 x7 : List ℕ) (r1 r2 r3 r4 r5 r6 r7 : ℕ) → at + 186 ≤ length l → Laid at 11 too_large l x1 r1
      → Laid r1 43 (given_words given) x1 x2 r2 → Laid r2 12 pages_of x2 x3 r3 → Laid r3 20 (numeral size) x3 x4 r4 → Laid r4 12 bytes_hold x4 x5 r5
      → Laid r5 20 (numeral (size * 96)) x5 x6 r6 → Laid r6 68 split_it x6 x7 r7
      → Laid at 186 (large_words size given) l x7 r7
  unfolding large_words
  large_laid size x1 x2 x3 x4 x5 x6 x7 r1 r2 r3 r4 r5 r6 r7 room a b c d e f g =
      laid_on room (laid_on (omega arith) (laid_on (omega arith) (laid_on (omega arith) (laid_on (omega arith) (laid_on (omega arith) a b) c) d) e) f) g

-- ---- which words

module _ (at n size given : ℕ) (l x : List ℕ) (r : ℕ) where
  pub empty_told : n ≡ 19 → Laid at 55 nothing_read l x r → Laid at 186 (reason_words n size given) l x r
  unfolding reason_words
  empty_told e p = rw (eq-eqb n 19 e) (laid_as at 55 186 r _ _ l x p refl (omega arith))

  pub large_told : (n ≡ 19 → ⊥) → n ≡ 9 → Laid at 186 (large_words size given) l x r → Laid at 186 (reason_words n size given) l x r
  unfolding reason_words
  large_told a e p = rw (ne_eqb n 19 a, eq-eqb n 9 e) p

  pub place_told : (n ≡ 19 → ⊥) → (n ≡ 9 → ⊥) → n ≡ 8 → Laid at 67 no_such_page l x r
      → Laid at 186 (reason_words n size given) l x r
  unfolding reason_words
  place_told a b e p = rw (ne_eqb n 19 a, ne_eqb n 9 b, eq-eqb n 8 e) (laid_as at 67 186 r _ _ l x p refl (omega arith))

  pub other_told : (n ≡ 19 → ⊥) → (n ≡ 9 → ⊥) → (n ≡ 8 → ⊥) → Laid at 22 not_printed l x r → Laid at 186 (reason_words n size given) l x r
  unfolding reason_words
  other_told a b d p = rw (ne_eqb n 19 a, ne_eqb n 9 b, ne_eqb n 8 d) (laid_as at 22 186 r _ _ l x p refl (omega arith))

-- ---- the line

pub refusal_laid : (n size given a : ℕ) (l x1 x2 x3 x4 x5 : List ℕ) (r1 r3 r4 : ℕ) → 200 ≤ length l → Laid 0 8 refused_name l x1 r1
    → (a ≡ length (decimal n)) × (a ≤ 3) × (x2 ≡ over r1 (decimal n) x1) → Laid (r1 + a) 2 colon x2 x3 r3 → Laid r3 186 (reason_words n size given) x3 x4 r4
    → x5 ≡ over r4 line_feed x4 → Laid 0 200 (refusal_words n size given) l x5 (r4 + 1)
unfolding refusal_words
refusal_laid n size given a l x1 x2 x3 x4 x5 r1 r3 r4 room p (e, s, w) q t f =
    let digits = laid_one r1 3 (decimal n) x1 x2 (r1 + a) (omega arith) (omega arith) w in
    let feed = laid_one r4 1 line_feed x4 x5 (r4 + 1) refl (omega arith) f in
    laid_on room (laid_on (omega arith) (laid_on (omega arith) (laid_on (omega arith) p digits) q) t) feed

-- ---- how long it is at most

given_short : (given : ℕ) → length (given_words given) ≤ 43
unfolding given_words
given_short given = go (eqb given 0)
  where
    go : (t : Bool) → length (choose t [] (numeral given ++ were_given)) ≤ 43
    go true = omega arith
    go false = simp length-append (omega (arith, length_numeral given))

large_short : (size given : ℕ) → length (large_words size given) ≤ 186
unfolding large_words
large_short size given = simp length-append (omega (arith, given_short given, length_numeral size, length_numeral (size * 96)))

reason_short : (n size given : ℕ) → length (reason_words n size given) ≤ 186
unfolding reason_words
reason_short n size given = go (eqb n 19) (eqb n 9) (eqb n 8)
  where
    go : (a b d : Bool) → length (choose a nothing_read
        (choose b (large_words size given)
        (choose d no_such_page not_printed))) ≤ 186
    go true b d = omega arith
    go false true d = large_short size given
    go false false true = omega arith
    go false false false = omega arith

-- For the reader: 200 bytes are room for every such line, so that `sheet::refusal` does not answer
-- 11 then
pub refusal_room : (n size given : ℕ) → length (refusal_words n size given) ≤ 200
unfolding refusal_words
refusal_room n size given = simp length-append (omega (arith, length_decimal n, reason_short n size given))
