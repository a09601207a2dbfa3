-- A page and its lines judged one by one: what each reader answers of the other's. Assumes nothing.
use Prim.Native.Nat.{ℕ, suc, ◌+◌, ◌≤◌}
use mathlib.Core.Path.{◌≡◌, refl, ap, ◌∙◌}
use mathlib.Core.Bool.{Bool, true, ◌&&◌}
use mathlib.Core.List.{List, [], ◌∷◌, ◌++◌, map}
use native.Mathlib.Omega.{arith}
use borrow.Author.Tests.{le-leb, leb-true}
use lib.Dec.{leb}
use lib.ListN.{length, length-map}
use Rattle.wire.specs.Answer.{Answer, done, then}
use Rattle.wire.specs.Every.{every}
use Rattle.wire.proofs.Cases.{both_hold, passed}
use Rattle.wire.proofs.Both.{hold_both}
use Rattle.text.specs.Text.{zbase32, read_text}
use Rattle.typed.specs.Typed.{most_lines, plain, is_letter, lines_of, count_right, none, counts_right, data_of, right, joined_from, read_typed, read_line, parted}
use Rattle.typed.proofs.Cutting.{plain_letters, lines_parted, judged, read_lines, lines_judged}
use Rattle.typed.proofs.Rows.{passed_at}
use Rattle.typed.proofs.Found.{Line, line_passed}

-- For the reader: of a text that reads, each line by itself is right, under its number, and as the
-- last where none follows
pub line_of_page : (cs bs : List ℕ) (front : List (List ℕ)) (l : List ℕ) (more : List (List ℕ)) → read_typed cs ≡ done bs
    → lines_of cs ≡ front ++ (l ∷ more) → read_line (none more) (suc (length front)) l ≡ done tt
unfolding read_line
line_of_page cs bs front l more h e =
    let k : Line front l more = line_passed cs bs front l more h e in
    let n : ℕ = suc (length front) in
    rw (plain_letters l k.letters, k.letters, le-leb 1 n (omega arith), le-leb n most_lines (omega (arith, k.few)), k.count, k.good)

-- ---- the other way

-- each is right as line n, n + 1, .. of a page, the last one as the last
abbrev pub Rights : ℕ → List (List ℕ) → Type 0
Rights n [] = Unit
Rights n (r ∷ more) = (read_line (none more) n r ≡ done tt) × Rights (suc n) more

-- their data
abbrev pub contents_of : List (List ℕ) → List ℕ
contents_of [] = []
contents_of (r ∷ more) = data_of (plain r) ++ contents_of more

record Fit (last : Bool) (n : ℕ) (r : List ℕ) : Type 0 where
  letters : every is_letter (plain r) ≡ true
  number : n ≤ most_lines
  count : count_right last (length (plain r)) ≡ true
  good : right n (plain r) ≡ true

fit : (last : Bool) (n : ℕ) (r : List ℕ) → read_line last n r ≡ done tt → Fit last n r
unfolding read_line
fit last n r h =
    let a = passed (every is_letter (plain r)) _ 1 h in
    let b = passed ((leb 1 n && leb n most_lines) && count_right last (length (plain r))) _ 2 a.1 in
    let c = both_hold (leb 1 n && leb n most_lines) (count_right last (length (plain r))) b.0 in
    let d = both_hold (leb 1 n) (leb n most_lines) c.0 in
    record { letters = a.0; number = leb-true n most_lines d.1; count = c.1; good = (passed_at (right n (plain r)) _ 23 n b.1).0 }

none_map : (rs : List (List ℕ)) → none (map plain rs) ≡ none rs
none_map [] = refl
none_map (r ∷ rs) = refl

rights_letters : (n : ℕ) (rs : List (List ℕ)) → Rights n rs → every (every is_letter) (map plain rs) ≡ true
unfolding every
rights_letters n [] h = refl
rights_letters n (r ∷ more) (h, k) = hold_both _ _ (fit (none more) n r h).letters (rights_letters (suc n) more k)

rights_counts : (n : ℕ) (rs : List (List ℕ)) → Rights n rs → counts_right (map plain rs) ≡ true
unfolding counts_right
rights_counts n [] h = refl
rights_counts n (r ∷ more) (h, k) =
    hold_both _ _ (ap (λ (last : Bool). count_right last (length (plain r))) (none_map more) ∙ (fit (none more) n r h).count) (rights_counts (suc n) more k)

rights_few : (n : ℕ) (rs : List (List ℕ)) → n ≤ suc most_lines → Rights n rs → n + length rs ≤ suc most_lines
rights_few n [] l h = omega arith
rights_few n (r ∷ more) l (h, k) = omega (arith, rights_few (suc n) more (omega (arith, (fit (none more) n r h).number)) k)

rights_joined : (n : ℕ) (rs : List (List ℕ)) → Rights n rs → joined_from n (map plain rs) ≡ done (contents_of rs)
unfolding joined_from
rights_joined n [] h = refl
rights_joined n (r ∷ more) (h, k) = rw ((fit (none more) n r h).good, rights_joined (suc n) more k)

-- For the reader: lines that were each found right make a page, in which no line is refused; the
-- joined data is all that is left to judge
pub page_of_lines : (rs : List (List ℕ)) → Rights 1 rs → read_typed (parted rs) ≡ read_text zbase32 (contents_of rs)
page_of_lines rs h =
    let letters : every (every is_letter) (map plain rs) ≡ true = rights_letters 1 rs h in
    let counts : counts_right (map plain rs) ≡ true = rights_counts 1 rs h in
    read_lines (parted rs)
    ∙ ap judged (lines_parted rs letters counts)
    ∙ lines_judged (map plain rs) letters (omega (arith, rights_few 1 rs (omega arith) h, length-map rs plain)) counts
    ∙ ap (λ (a : Answer (List ℕ)). then a (read_text zbase32)) (rights_joined 1 rs h)
