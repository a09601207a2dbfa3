-- The first line whose check is wrong is told: the one law of every slip that is found. Assumes
-- nothing.
use Prim.Native.Nat.{ℕ, suc, ◌+◌, ◌≤◌}
use mathlib.Core.Path.{◌≡◌, refl, sym, ap, ap₂, ◌∙◌}
use mathlib.Core.Bool.{Bool, true, false, ◌&&◌}
use mathlib.Core.List.{List, [], ◌∷◌, ◌++◌, map, map-append}
use native.Mathlib.Nat.{zero-add}
use native.Mathlib.Omega.{arith}
use lib.ListN.{length, length-map, length-append}
use Rattle.wire.specs.Answer.{Answer, done, refused_at, then}
use Rattle.wire.specs.Every.{every}
use Rattle.wire.proofs.Cases.{both_hold}
use Rattle.wire.proofs.Both.{hold_both}
use Rattle.text.specs.Text.{zbase32, read_text}
use Rattle.typed.specs.Typed.{most_lines, is_letter, lines_of, count_right, none, counts_right, right, joined_from, read_typed}
use Rattle.typed.proofs.Cutting.{every_append, judged, read_lines, Passed, lines_passed, lines_judged}
use Rattle.typed.proofs.Rows.{joined_first}

-- ---- one line of those that were read

count_at : (front : List (List ℕ)) (l : List ℕ) (more : List (List ℕ)) → counts_right (front ++ (l ∷ more)) ≡ true → count_right (none more) (length l) ≡ true
unfolding counts_right
count_at [] l more h = (both_hold (count_right (none more) (length l)) (counts_right more) h).0
count_at (x ∷ front) l more h = count_at front l more (both_hold (count_right _ (length x)) (counts_right (front ++ (l ∷ more))) h).1

right_at : (n : ℕ) (front : List (List ℕ)) (l : List ℕ) (more : List (List ℕ)) (d : List ℕ) → joined_from n (front ++ (l ∷ more)) ≡ done d → right (length front + n) l ≡ true
right_at n [] l more d j = rw (zero-add n) (joined_first n l more d j).0
right_at n (x ∷ front) l more d j =
    let (r, rest, jr, e) = joined_first n x (front ++ (l ∷ more)) d j in
    let same : length front + suc n ≡ suc (length front) + n = omega arith in
    ap (λ (k : ℕ). right k l) (sym same) ∙ right_at (suc n) front l more rest jr

-- what it passed, and the lines beside it
pub record Line (front : List (List ℕ)) (l : List ℕ) (more : List (List ℕ)) : Type 0 where
  pub ahead : every (every is_letter) front ≡ true
  pub letters : every is_letter l ≡ true
  pub behind : every (every is_letter) more ≡ true
  pub few : length front + suc (length more) ≤ most_lines
  pub count : count_right (none more) (length l) ≡ true
  pub good : right (suc (length front)) l ≡ true

page_passed : (cs bs : List ℕ) (ls : List (List ℕ)) → read_typed cs ≡ done bs → lines_of cs ≡ ls → Passed ls bs
page_passed cs bs ls h e = lines_passed ls bs (ap judged (sym e) ∙ sym (read_lines cs) ∙ h)

pub line_passed : (cs bs : List ℕ) (front : List (List ℕ)) (l : List ℕ) (more : List (List ℕ)) → read_typed cs ≡ done bs
    → lines_of cs ≡ front ++ (l ∷ more) → Line front l more
unfolding every
line_passed cs bs front l more h e =
    let p : Passed (front ++ (l ∷ more)) bs = page_passed cs bs (front ++ (l ∷ more)) h e in
    let a = both_hold (every (every is_letter) front) (every (every is_letter) (l ∷ more)) (sym (every_append (every is_letter) front (l ∷ more)) ∙ p.letters) in
    let b = both_hold (every is_letter l) (every (every is_letter) more) a.1 in
    let number : length front + 1 ≡ suc (length front) = omega arith in
    record {
      ahead = a.0;
      letters = b.0;
      behind = b.1;
      few = omega (arith, p.few, length-append front (l ∷ more));
      count = count_at front l more p.counts;
      good = ap (λ (k : ℕ). right k l) (sym number) ∙ right_at 1 front l more p.contents p.joined;
    }

-- ---- the law of slips

-- counts go by the lengths of the lines
counts_same : (ls ms : List (List ℕ)) → map length ls ≡ map length ms → counts_right ls ≡ counts_right ms
unfolding counts_right
counts_same [] [] e = refl
counts_same [] (m ∷ ms) e = cc
counts_same (l ∷ ls) [] e = cc
counts_same (l ∷ ls) (m ∷ ms) e =
    let h : length l ≡ length m = cc in
    let t : map length ls ≡ map length ms = cc in
    ap₂ (λ (b c : Bool). b && c) (ap₂ count_right (none_same ls ms t) h) (counts_same ls ms t)
  where
    none_same : (ls ms : List (List ℕ)) → map length ls ≡ map length ms → none ls ≡ none ms
    none_same [] [] e = refl
    none_same [] (m ∷ ms) e = cc
    none_same (l ∷ ls) [] e = cc
    none_same (l ∷ ls) (m ∷ ms) e = refl

-- the lines before are right, and this one is not
stops : (n : ℕ) (front : List (List ℕ)) (l l' : List ℕ) (more more' : List (List ℕ)) (d : List ℕ) → joined_from n (front ++ (l ∷ more)) ≡ done d
    → right (length front + n) l' ≡ false → joined_from n (front ++ (l' ∷ more')) ≡ refused_at 23 (length front + n)
unfolding joined_from
stops n [] l l' more more' d j w = rw (zero-add n, sym (ap (λ (k : ℕ). right k l') (zero-add n)) ∙ w)
stops n (x ∷ front) l l' more more' d j w =
    let (r, rest, jr, e) = joined_first n x (front ++ (l ∷ more)) d j in
    let same : length front + suc n ≡ suc (length front) + n = omega arith in
    rw (r, stops (suc n) front l l' more more' rest jr (ap (λ (k : ℕ). right k l') same ∙ w), same)

-- of a text that reads, the lines are changed from one on: each has as many characters as before,
-- and letters alone, and the first of them is not right for its number. Then that number is told
pub found : (cs cs' bs : List ℕ) (front : List (List ℕ)) (l l' : List ℕ) (more more' : List (List ℕ))
    → read_typed cs ≡ done bs
    → lines_of cs ≡ front ++ (l ∷ more)
    → lines_of cs' ≡ front ++ (l' ∷ more')
    → map length (l' ∷ more') ≡ map length (l ∷ more)
    → every (every is_letter) (l' ∷ more') ≡ true
    → right (suc (length front)) l' ≡ false
    → read_typed cs' ≡ refused_at 23 (suc (length front))
found cs cs' bs front l l' more more' h e e' same letters w =
    let p : Passed (front ++ (l ∷ more)) bs = page_passed cs bs (front ++ (l ∷ more)) h e in
    let k : Line front l more = line_passed cs bs front l more h e in
    let lengths : map length (front ++ (l' ∷ more')) ≡ map length (front ++ (l ∷ more)) = map-append length front (l' ∷ more') ∙ ap (λ (r : List ℕ). map length front ++ r) same ∙ sym (map-append length front (l ∷ more)) in
    let number : length front + 1 ≡ suc (length front) = omega arith in
    read_lines cs'
    ∙ ap judged e'
    ∙ lines_judged (front ++ (l' ∷ more'))
    (every_append (every is_letter) front (l' ∷ more') ∙ hold_both _ _ k.ahead letters)
    (omega (arith, p.few, ap length lengths, length-map (front ++ (l' ∷ more')) length, length-map (front ++ (l ∷ more)) length))
    (counts_same (front ++ (l' ∷ more')) (front ++ (l ∷ more)) lengths ∙ p.counts)
    ∙ ap (λ (a : Answer (List ℕ)). then a (read_text zbase32)) (stops 1 front l l' more more' p.contents p.joined (ap (λ (k : ℕ). right k l') number ∙ w))
    ∙ ap (refused_at 23) number
