-- The typed lines of any bytes, laid out in groups. Assumes nothing.
use Prim.Native.Nat.{ℕ, ◌+◌, ◌-◌, ◌≤◌, ◌<◌}
use mathlib.Core.Path.{◌≡◌, refl, sym, ap, ◌∙◌}
use mathlib.Core.List.{List, [], ◌∷◌}
use native.Mathlib.Omega.{arith}
use borrow.Author.Tests.{le-leb, lt-leb}
use lib.ListN.{length, take, drop, replicate, length-replicate}
use Rattle.wire.specs.Answer.{Answer, done, Kept}
use Rattle.wire.specs.Writing.{Written, writing}
use Rattle.std.specs.Prelude.{Ok, Err}
use Rattle.wire.specs.declared.Refusal.TheVariants.{TooLarge}
use Rattle.wire.proofs.Overs.{over_none}
use Rattle.wire.proofs.Writes.{written, denied}
use Rattle.digits.specs.Private.{Laid}
use Rattle.digits.proofs.Laying.{laid_part, laid_as, laid_whole}
use Rattle.text.specs.Text.{zbase32, text_of}
use Rattle.text.proofs.Forms.{zbase32_lawful}
use Rattle.text.proofs.Counts.{filled, filling_lt}
use Rattle.typed.specs.Typed.{rows, numbered, typed_of}
use Rattle.sheet.specs.Sheet.{to_type_of, printed_lines, groups_verdict}
use Rattle.sheet.specs.Private.{spread}
use Rattle.sheet.proofs.Texts.{text_length}
use Rattle.sheet.proofs.Typing.{typed_spread, groups_short}

none_left : (l : List ℕ) → length l ≡ 0 → l ≡ []
none_left [] e = refl
none_left (x ∷ l) e = absurd (omega (arith, e))

no_text : (bs : List ℕ) → length bs ≡ 0 → text_of zbase32 bs ≡ []
unfolding zbase32
no_text bs e =
    none_left (text_of zbase32 bs)
    (omega (arith, text_length zbase32 bs, filled zbase32 zbase32_lawful (length bs), filling_lt zbase32 zbase32_lawful (length bs)))

pub groups_none : (bs out : List ℕ) → length bs ≡ 0 → Written 0 (groups_verdict bs) out out (Ok 0)
unfolding groups_verdict rows numbered printed_lines
groups_none bs out e = rw (le-leb (length bs) 500 (omega arith), no_text bs e) (written 0 out [] out 0 (omega arith) refl (sym (over_none 0 out)))

pub groups_large : (bs out : List ℕ) → 500 < length bs → Written 0 (groups_verdict bs) out out (Err TooLarge)
unfolding groups_verdict
groups_large bs out h = rw (lt-leb (length bs) 500 h) (denied 0 out TooLarge)

-- z holds in front what `typed` writes
module _ (bs z : List ℕ) (m : ℕ) (n : length bs ≡ 0 → ⊥) (h : length bs ≤ 500) (p : Laid 0 859 (typed_of bs) (replicate 859 0) z m) where
  meant : spread 0 (take (m - 0) (drop 0 z)) ≡ printed_lines (to_type_of bs)
  meant = ap (spread 0) (laid_part 859 m (typed_of bs) (replicate 859 0) z (omega (arith, length-replicate {A = ℕ} 859 0)) p) ∙ typed_spread bs (omega arith)

  pub groups_fit : 0 + length (spread 0 (take (m - 0) (drop 0 z))) ≤ length (replicate {A = ℕ} 980 0)
  groups_fit = omega (arith, ap length meant, groups_short bs, length-replicate {A = ℕ} 980 0)

  pub groups_end : (x : List ℕ) (r : ℕ) → length x ≡ length (replicate {A = ℕ} 980 0)
      → Laid 0 (length (spread 0 (take (m - 0) (drop 0 z)))) (spread 0 (take (m - 0) (drop 0 z))) (replicate 980 0) x r → r ≤ length x
  groups_end x r l q = omega (arith, q.next, groups_fit)

  pub groups_given : (x out out' : List ℕ) (r : ℕ) (a : Answer ℕ)
      → Laid 0 (length (spread 0 (take (m - 0) (drop 0 z)))) (spread 0 (take (m - 0) (drop 0 z))) (replicate 980 0) x r
      → Kept (writing 0 out (done (take (r - 0) (drop 0 x)))) out out' a → Kept (writing 0 out (groups_verdict bs)) out out' a
  unfolding groups_verdict
  groups_given x out out' r a q w =
      rw (le-leb (length bs) 500 h)
      (laid_whole 980 r (printed_lines (to_type_of bs)) (replicate 980 0) x out out' a (omega (arith, length-replicate {A = ℕ} 980 0))
      (laid_as 0 _ 980 r _ (printed_lines (to_type_of bs)) (replicate 980 0) x q meant (omega (arith, ap length meant, groups_short bs))) w)
