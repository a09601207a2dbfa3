-- A text and its lines, each from the other, and that what is read depends on the lines alone.
-- Assumes nothing.
use Prim.Native.Nat.{ℕ, ◌≤◌, ◌<◌}
use mathlib.Core.Path.{◌≡◌, refl, sym, ap, ap₂, ◌∙◌}
use mathlib.Core.Bool.{Bool, true, false, not, ◌&&◌, ◌||◌, and_assoc, and-true, false≢true}
use mathlib.Core.List.{List, [], ◌∷◌, ◌++◌, map, append-nil}
use native.Mathlib.Omega.{arith}
use borrow.Author.Tests.{eqb-true, leb-true, le-leb, not-true}
use lib.Dec.{leb, eqb}
use lib.ListN.{length, drop}
use lib.Seq.{append_snoc}
use Rattle.wire.specs.Answer.{choose, Answer, done, then, demand}
use Rattle.wire.specs.Every.{every, without}
use Rattle.wire.proofs.Cases.{both_hold, passed, then_done}
use Rattle.text.specs.Text.{zbase32, read_text}
use Rattle.typed.specs.Typed.{most_lines, skipped, plain, is_letter, feed, cut, lines_of, count_right, counts_right, joined_from, read_typed, fed, parted}
use Rattle.typed.proofs.Letters.{letter_unskipped, letter_not_feed}

-- ---- a test of every one, of two lists put together

pub every_append : {A : Type 0} (test : A → Bool) (xs ys : List A) → every test (xs ++ ys) ≡ (every test xs && every test ys)
unfolding every
every_append test [] ys = refl
every_append test (x ∷ xs) ys =
    ap (λ (b : Bool). test x && b) (every_append test xs ys) ∙ sym (and_assoc (test x) (every test xs) (every test ys))

-- ---- skipped characters

pub plain_append : (xs ys : List ℕ) → plain (xs ++ ys) ≡ plain xs ++ plain ys
unfolding plain
plain_append [] ys = refl
plain_append (x ∷ xs) ys = go (skipped x) (plain_append xs ys)
  where
    go : (t : Bool) → plain (xs ++ ys) ≡ plain xs ++ plain ys
        → choose t (plain (xs ++ ys)) (x ∷ plain (xs ++ ys)) ≡ choose t (plain xs) (x ∷ plain xs) ++ plain ys
    go true e = e
    go false e = ap (λ (r : List ℕ). x ∷ r) e

pub plain_letter : (c : ℕ) (ys : List ℕ) → is_letter c ≡ true → plain (c ∷ ys) ≡ c ∷ plain ys
unfolding plain
plain_letter c ys h = rw (letter_unskipped c h)

pub plain_letters : (l : List ℕ) → every is_letter l ≡ true → plain l ≡ l
unfolding plain every
plain_letters [] h = refl
plain_letters (c ∷ l) h =
    let b = both_hold (is_letter c) (every is_letter l) h in
    rw (letter_unskipped c b.0) (ap (λ (r : List ℕ). c ∷ r) (plain_letters l b.1))

-- ---- cut, and put together

fed_cut : (line p : List ℕ) → fed (cut line p) ≡ feed ∷ (line ++ p)
unfolding cut fed
fed_cut line [] = refl
fed_cut line (c ∷ p) = go (eqb c feed) refl (fed_cut [] p) (fed_cut (line ++ (c ∷ [])) p)
  where
    go : (t : Bool) → eqb c feed ≡ t → fed (cut [] p) ≡ feed ∷ p → fed (cut (line ++ (c ∷ [])) p) ≡ feed ∷ (line ++ (c ∷ []) ++ p)
        → fed (choose t (line ∷ cut [] p) (cut (line ++ (c ∷ [])) p)) ≡ feed ∷ (line ++ (c ∷ p))
    go true h e f = ap (λ (r : List ℕ). feed ∷ (line ++ r)) (e ∙ ap (λ (x : ℕ). x ∷ p) (sym (eqb-true c feed h)))
    go false h e f = f ∙ ap (λ (r : List ℕ). feed ∷ r) (append_snoc line c p)

-- lines parted are lines with line feeds in front, but for the first
pub parted_fed : (ls : List (List ℕ)) → parted ls ≡ drop 1 (fed ls)
unfolding parted fed
parted_fed [] = refl
parted_fed (l ∷ ls) = refl

pub parted_lines : (cs : List ℕ) → parted (lines_of cs) ≡ plain cs
unfolding lines_of plain parted
parted_lines [] = refl
parted_lines (c ∷ cs) = parted_fed (cut [] (plain (c ∷ cs))) ∙ ap (drop 1) (fed_cut [] (plain (c ∷ cs)))

-- what has no line feed ends no line
pub cut_feedless : (line l q : List ℕ) → without feed l ≡ true → cut line (l ++ q) ≡ cut (line ++ l) q
unfolding cut every
cut_feedless line [] q h = ap (λ (r : List ℕ). cut r q) (sym (append-nil line))
cut_feedless line (c ∷ l) q h =
    let b = both_hold (not (eqb c feed)) (without feed l) h in
    rw (not-true (eqb c feed) b.0)
    (cut_feedless (line ++ (c ∷ [])) l q b.1 ∙ ap (λ (r : List ℕ). cut r q) (append_snoc line c l))

letters_feedless : (l : List ℕ) → every is_letter l ≡ true → without feed l ≡ true
unfolding every
letters_feedless [] h = refl
letters_feedless (c ∷ l) h =
    let b = both_hold (is_letter c) (every is_letter l) h in
    rw (letter_not_feed c b.0) (letters_feedless l b.1)

cut_fed : (line : List ℕ) (ls : List (List ℕ)) → every (every is_letter) ls ≡ true → cut line (fed ls) ≡ line ∷ ls
unfolding cut fed every
cut_fed line [] h = refl
cut_fed line (l ∷ ls) h =
    let b = both_hold (every is_letter l) (every (every is_letter) ls) h in
    ap (λ (r : List (List ℕ)). line ∷ r) (cut_feedless [] l (fed ls) (letters_feedless l b.0) ∙ cut_fed l ls b.1)

plain_fed : (rs : List (List ℕ)) → plain (fed rs) ≡ fed (map plain rs)
unfolding plain skipped fed
plain_fed [] = refl
plain_fed (r ∷ rs) = ap (λ (q : List ℕ). feed ∷ q) (plain_append r (fed rs) ∙ ap (λ (q : List ℕ). plain r ++ q) (plain_fed rs))

plain_parted : (rs : List (List ℕ)) → plain (parted rs) ≡ parted (map plain rs)
unfolding plain parted
plain_parted [] = refl
plain_parted (r ∷ rs) = plain_append r (fed rs) ∙ ap (λ (q : List ℕ). plain r ++ q) (plain_fed rs)

-- the lines of lines parted are those, without what is skipped: each has letters, so none is empty
pub lines_parted : (rs : List (List ℕ)) → every (every is_letter) (map plain rs) ≡ true → counts_right (map plain rs) ≡ true
    → lines_of (parted rs) ≡ map plain rs
unfolding lines_of plain parted counts_right count_right every
lines_parted [] h k = refl
lines_parted ([] ∷ []) h k = absurd (false≢true k)
lines_parted ([] ∷ (m ∷ more)) h k = absurd (false≢true k)
lines_parted ((c ∷ r) ∷ more) h k =
    let b = both_hold (every is_letter (plain (c ∷ r))) (every (every is_letter) (map plain more)) h in
    ap (cut []) (plain_parted ((c ∷ r) ∷ more))
    ∙ cut_feedless [] (plain (c ∷ r)) (fed (map plain more)) (letters_feedless (plain (c ∷ r)) b.0)
    ∙ cut_fed (plain (c ∷ r)) (map plain more) b.1

pub plain_lines : (ls : List (List ℕ)) → every (every is_letter) ls ≡ true → map plain ls ≡ ls
unfolding every
plain_lines [] h = refl
plain_lines (l ∷ ls) h =
    let b = both_hold (every is_letter l) (every (every is_letter) ls) h in
    ap₂ (λ (x : List ℕ) (r : List (List ℕ)). x ∷ r) (plain_letters l b.0) (plain_lines ls b.1)

-- ---- what is read depends on the lines alone

-- a text has letters and line feeds alone where its lines have letters alone
letters_cut : (line p : List ℕ) → every (every is_letter) (cut line p) ≡ (every is_letter line && every (λ c. eqb c feed || is_letter c) p)
unfolding cut every
letters_cut line [] = refl
letters_cut line (c ∷ p) = go (eqb c feed) (letters_cut [] p) (letters_cut (line ++ (c ∷ [])) p)
  where
    go : (t : Bool)
        → every (every is_letter) (cut [] p) ≡ every (λ c. eqb c feed || is_letter c) p
        → every (every is_letter) (cut (line ++ (c ∷ [])) p) ≡ (every is_letter (line ++ (c ∷ [])) && every (λ c. eqb c feed || is_letter c) p)
        → every (every is_letter) (choose t (line ∷ cut [] p) (cut (line ++ (c ∷ [])) p)) ≡ (every is_letter line && ((t || is_letter c) && every (λ c. eqb c feed || is_letter c) p))
    go true e f = ap (λ (b : Bool). every is_letter line && b) e
    go false e f = f ∙ rw (every_append is_letter line (c ∷ []), and-true (is_letter c)) (and_assoc (every is_letter line) (is_letter c) _)

letters_lines : (cs : List ℕ) → every (λ c. eqb c feed || is_letter c) (plain cs) ≡ every (every is_letter) (lines_of cs)
unfolding lines_of plain every
letters_lines [] = refl
letters_lines (c ∷ cs) = sym (letters_cut [] (plain (c ∷ cs)))

abbrev pub judged : List (List ℕ) → Answer (List ℕ)
judged ls =
    demand (every (every is_letter) ls) 1
    (demand (leb (length ls) most_lines && counts_right ls) 2
    (then (joined_from 1 ls) (read_text zbase32)))

pub read_lines : (cs : List ℕ) → read_typed cs ≡ judged (lines_of cs)
unfolding read_typed
read_lines cs = rw (letters_lines cs)

-- For the reader: spaces, tabs and dashes change nothing, wherever they stand; only a text of no
-- byte at all has no line
pub skipped_free : (cs cs' : List ℕ) → plain cs ≡ plain cs' → 0 < length cs → 0 < length cs' → read_typed cs ≡ read_typed cs'
unfolding lines_of
skipped_free [] cs' e h h' = absurd (omega arith)
skipped_free (c ∷ cs) [] e h h' = absurd (omega arith)
skipped_free (c ∷ cs) (d ∷ cs') e h h' =
    read_lines (c ∷ cs) ∙ ap (λ (p : List ℕ). judged (cut [] p)) e ∙ sym (read_lines (d ∷ cs'))

-- what lines passed that were read: `contents` is the data of all
pub record Passed (ls : List (List ℕ)) (bs : List ℕ) : Type 0 where
  pub letters : every (every is_letter) ls ≡ true
  pub few : length ls ≤ most_lines
  pub counts : counts_right ls ≡ true
  pub contents : List ℕ
  pub joined : joined_from 1 ls ≡ done contents
  pub decoded : read_text zbase32 contents ≡ done bs

pub lines_passed : (ls : List (List ℕ)) (bs : List ℕ) → judged ls ≡ done bs → Passed ls bs
lines_passed ls bs h =
    let a = passed (every (every is_letter) ls) _ 1 h in
    let b = passed (leb (length ls) most_lines && counts_right ls) _ 2 a.1 in
    let c = both_hold (leb (length ls) most_lines) (counts_right ls) b.0 in
    let (d, j, e) = then_done (joined_from 1 ls) (read_text zbase32) b.1 in
    record { letters = a.0; few = leb-true (length ls) most_lines c.0; counts = c.1; contents = d; joined = j; decoded = e }

-- the other way: lines of the right characters and counts are as their checks say
pub lines_judged : (ls : List (List ℕ)) → every (every is_letter) ls ≡ true → length ls ≤ most_lines → counts_right ls ≡ true
    → judged ls ≡ then (joined_from 1 ls) (read_text zbase32)
lines_judged ls a b c = rw (a, le-leb (length ls) most_lines b, c)
