-- Rows of 40 characters and the lines that they become, each from the other. Assumes nothing.
use Prim.Native.Nat.{ℕ, zero, suc, ◌+◌, ◌-◌, ◌*◌, ◌/◌, ◌%◌, ◌≤◌, ◌<◌}
use mathlib.Core.Path.{◌≡◌, refl, sym, ap, ◌∙◌}
use mathlib.Core.Logic.{◌⊎◌, inl, inr}
use mathlib.Core.Bool.{Bool, true, false}
use mathlib.Core.List.{List, [], ◌∷◌, ◌++◌, append-nil}
use native.Mathlib.Omega.{arith}
use borrow.Author.Tests.{le-leb, leb-true, eq-eqb, eqb-true}
use lib.Dec.{leb}
use lib.ListN.{length, take, drop, length-append, length-drop, take-append-drop, drop_of_length-le}
use lib.Seq.{take_at, drop_at, take_all, length-take-le}
use Rattle.wire.specs.Answer.{choose, Answer, done, refused_at}
use Rattle.wire.specs.Every.{every}
use Rattle.wire.proofs.Cases.{both_hold, lt_or_le, not_done, done_value, then_done}
use Rattle.wire.proofs.Both.{hold_both}
use Rattle.typed.specs.Typed.{full_data, full_line, is_letter, count_right, none, counts_right, check_of, check_letters, data_of, right, joined_from, rows, with_check, numbered, fed}
use Rattle.typed.proofs.Letters.{letter_is}
use Rattle.typed.proofs.Cutting.{every_append}
use Rattle.typed.proofs.Checks.{check_data, check_right, right_check, check_small}

-- ---- rows

pub rows_none : (k : ℕ) → rows k [] ≡ []
unfolding rows
rows_none zero = refl
rows_none (suc k) = refl

pub rows_step : (k : ℕ) (cs : List ℕ) → 1 ≤ length cs → rows (suc k) cs ≡ take full_data cs ∷ rows k (drop full_data cs)
unfolding rows
rows_step k [] h = absurd (omega arith)
rows_step k (c ∷ cs) h = refl

pub lines_few : (k n : ℕ) (cs : List ℕ) → length (numbered n (rows k cs)) ≤ k
unfolding rows numbered
lines_few zero n cs = omega arith
lines_few (suc k) n [] = omega arith
lines_few (suc k) n (c ∷ cs) = omega (arith, lines_few k (suc n) (drop full_data (c ∷ cs)))

-- ---- the lines of rows are of letters

every_split : (k : ℕ) (cs : List ℕ) → every is_letter cs ≡ true → (every is_letter (take k cs) ≡ true) × (every is_letter (drop k cs) ≡ true)
every_split k cs h =
    both_hold (every is_letter (take k cs)) (every is_letter (drop k cs))
    (sym (every_append is_letter (take k cs) (drop k cs)) ∙ ap (every is_letter) (take-append-drop k cs) ∙ h)

check_letters_lem : (n : ℕ) (cs : List ℕ) → every is_letter (check_letters n cs) ≡ true
unfolding check_letters every
check_letters_lem n cs =
    let s : check_of n cs < 1021 = check_small n cs in
    rw (letter_is (check_of n cs / 32) (omega arith), letter_is (check_of n cs % 32) (omega arith))

pub lines_letters : (k n : ℕ) (cs : List ℕ) → every is_letter cs ≡ true → every (every is_letter) (numbered n (rows k cs)) ≡ true
unfolding rows numbered every
lines_letters zero n cs h = refl
lines_letters (suc k) n [] h = refl
lines_letters (suc k) n (c ∷ cs) h =
    let t : List ℕ = take full_data (c ∷ cs) in
    let s = every_split full_data (c ∷ cs) h in
    hold_both (every is_letter (with_check n t)) _
    (every_append is_letter t (check_letters n t) ∙ hold_both (every is_letter t) _ s.0 (check_letters_lem n t))
    (lines_letters k (suc n) (drop full_data (c ∷ cs)) s.1)

-- ---- the lines of rows have as many characters as they must

pub length_check : (n : ℕ) (cs : List ℕ) → length (with_check n cs) ≡ length cs + 2
unfolding check_letters
length_check n cs = length-append cs (check_letters n cs)

some_line : (k n : ℕ) (cs : List ℕ) → 1 ≤ k → 1 ≤ length cs → none (numbered n (rows k cs)) ≡ false
unfolding rows numbered
some_line zero n cs h l = absurd (omega arith)
some_line (suc k) n [] h l = absurd (omega arith)
some_line (suc k) n (c ∷ cs) h l = refl

count_step : (k n : ℕ) (cs : List ℕ) → 1 ≤ length cs → length cs ≤ full_data * suc k
    → count_right (none (numbered (suc n) (rows k (drop full_data cs)))) (length (with_check n (take full_data cs))) ≡ true
unfolding count_right numbered
count_step k n cs h l = go (lt_or_le full_data (length cs))
  where
    go : (full_data < length cs) ⊎ (length cs ≤ full_data)
        → count_right (none (numbered (suc n) (rows k (drop full_data cs)))) (length (with_check n (take full_data cs))) ≡ true
    go (inl more) =
        rw (some_line k (suc n) (drop full_data cs) (omega arith) (omega (arith, length-drop full_data cs)))
        (eq-eqb _ full_line (length_check n (take full_data cs) ∙ ap (λ (m : ℕ). m + 2) (length-take-le full_data cs (omega arith))))
    go (inr last) =
        let m : length (with_check n (take full_data cs)) ≡ length cs + 2 = length_check n (take full_data cs) ∙ ap (λ (r : List ℕ). length r + 2) (take_all full_data cs last) in
        rw (drop_of_length-le cs {i = full_data} last, rows_none k, m)
        (hold_both _ _ (le-leb 3 (length cs + 2) (omega arith)) (le-leb (length cs + 2) full_line (omega arith)))

pub lines_counts : (k n : ℕ) (cs : List ℕ) → length cs ≤ full_data * k → counts_right (numbered n (rows k cs)) ≡ true
unfolding rows numbered counts_right
lines_counts zero n cs h = refl
lines_counts (suc k) n [] h = refl
lines_counts (suc k) n (c ∷ cs) h =
    hold_both _ _ (count_step k n (c ∷ cs) (omega arith) h)
    (lines_counts k (suc n) (drop full_data (c ∷ cs)) (omega (arith, length-drop full_data (c ∷ cs))))

-- ---- the lines of rows are right, and their data is the characters again

pub lines_joined : (k n : ℕ) (cs : List ℕ) → length cs ≤ full_data * k → joined_from n (numbered n (rows k cs)) ≡ done cs
unfolding rows numbered joined_from
lines_joined zero n [] h = refl
lines_joined zero n (c ∷ cs) h = absurd (omega arith)
lines_joined (suc k) n [] h = refl
lines_joined (suc k) n (c ∷ cs) h =
    let t : List ℕ = take full_data (c ∷ cs) in
    let r : List ℕ = drop full_data (c ∷ cs) in
    rw (check_right n t, lines_joined k (suc n) r (omega (arith, length-drop full_data (c ∷ cs))))
    (ap done (ap (λ (d : List ℕ). d ++ r) (check_data n t) ∙ take-append-drop full_data (c ∷ cs)))

-- ---- and back: lines that are right are those of the rows of their data

-- a test whose failure refuses at a place was passed
pub passed_at : {A : Type 0} {v : A} (t : Bool) (x : Answer A) (e k : ℕ) → choose t x (refused_at e k) ≡ done v → (t ≡ true) × (x ≡ done v)
passed_at true x e k h = (refl, h)
passed_at false x e k h = not_done h

pub joined_first : (n : ℕ) (l : List ℕ) (more : List (List ℕ)) (d : List ℕ) → joined_from n (l ∷ more) ≡ done d
    → (right n l ≡ true) × (rest : List ℕ) × (joined_from (suc n) more ≡ done rest) × (data_of l ++ rest ≡ d)
unfolding joined_from
joined_first n l more d h =
    let a = passed_at (right n l) _ 23 n h in
    let (rest, j, q) = then_done (joined_from (suc n) more) (λ rest. done (data_of l ++ rest)) a.1 in
    (a.0, rest, j, done_value q)

pub count_bounds : (last : Bool) (n : ℕ) → count_right last n ≡ true → (3 ≤ n) × (n ≤ full_line)
unfolding count_right
count_bounds true n h = let b = both_hold (leb 3 n) (leb n full_line) h in (leb-true 3 n b.0, leb-true n full_line b.1)
count_bounds false n h = let e : n ≡ full_line = eqb-true n full_line h in omega arith

length_data : (l : List ℕ) → length (data_of l) ≡ length l - 2
unfolding data_of
length_data l = length-take-le (length l - 2) l (omega arith)

-- the data of a line is a row; only behind that of the last line nothing stands
first_row : (n : ℕ) (l rest : List ℕ) (more : List (List ℕ)) → count_right (none more) (length l) ≡ true → joined_from n more ≡ done rest
    → (take full_data (data_of l ++ rest) ≡ data_of l) × (drop full_data (data_of l ++ rest) ≡ rest)
unfolding count_right joined_from
first_row n l rest [] c h =
    let b = count_bounds true (length l) c in
    let s : length (data_of l) ≤ full_data = omega (arith, length_data l) in
    let e : data_of l ++ rest ≡ data_of l = ap (λ (r : List ℕ). data_of l ++ r) (sym (done_value h)) ∙ append-nil (data_of l) in
    (ap (take full_data) e ∙ take_all full_data (data_of l) s, ap (drop full_data) e ∙ drop_of_length-le (data_of l) {i = full_data} s ∙ done_value h)
first_row n l rest (m ∷ more) c h =
    let e : length l ≡ full_line = eqb-true (length l) full_line c in
    let s : length (data_of l) ≡ full_data = omega (arith, length_data l) in
    (take_at (data_of l) rest full_data s, drop_at (data_of l) rest full_data s)

pub lines_back : (k n : ℕ) (ls : List (List ℕ)) (d : List ℕ) → length ls ≤ k → counts_right ls ≡ true → joined_from n ls ≡ done d
    → numbered n (rows k d) ≡ ls
unfolding counts_right numbered joined_from
lines_back k n [] d h c j = ap (λ (r : List ℕ). numbered n (rows k r)) (sym (done_value j)) ∙ ap (numbered n) (rows_none k)
lines_back zero n (l ∷ more) d h c j = absurd (omega arith)
lines_back (suc k) n (l ∷ more) d h c j =
    let (r, rest, jr, e) = joined_first n l more d j in
    let b = both_hold (count_right (none more) (length l)) (counts_right more) c in
    let s = count_bounds (none more) (length l) b.0 in
    let q = first_row (suc n) l rest more b.0 jr in
    let some : 1 ≤ length (data_of l ++ rest) = omega (arith, length-append (data_of l) rest, length_data l) in
    rw (← e, rows_step k (data_of l ++ rest) some, q.0, q.1, lines_back k (suc n) more rest (omega arith) b.1 jr, right_check n l (omega arith) r)

pub joined_short : (n : ℕ) (ls : List (List ℕ)) (d : List ℕ) → counts_right ls ≡ true → joined_from n ls ≡ done d → length d ≤ full_data * length ls
unfolding counts_right joined_from
joined_short n [] d c j = omega (arith, ap length (done_value j))
joined_short n (l ∷ more) d c j =
    let (r, rest, jr, e) = joined_first n l more d j in
    let b = both_hold (count_right (none more) (length l)) (counts_right more) c in
    omega (arith, ap length e, length-append (data_of l) rest, length_data l, count_bounds (none more) (length l) b.0, joined_short (suc n) more rest b.1 jr)

pub joined_letters : (n : ℕ) (ls : List (List ℕ)) (d : List ℕ) → every (every is_letter) ls ≡ true → joined_from n ls ≡ done d → every is_letter d ≡ true
unfolding every joined_from data_of
joined_letters n [] d h j = rw (← done_value j)
joined_letters n (l ∷ more) d h j =
    let (r, rest, jr, e) = joined_first n l more d j in
    let b = both_hold (every is_letter l) (every (every is_letter) more) h in
    ap (every is_letter) (sym e)
    ∙ every_append is_letter (data_of l) rest
    ∙ hold_both _ _ (every_split (length l - 2) l b.0).0 (joined_letters (suc n) more rest b.1 jr)

-- ---- how long the lines of rows are together

pub lines_short : (k n : ℕ) (cs : List ℕ) → length (fed (numbered n (rows k cs))) ≤ length cs + 3 * k
unfolding rows numbered fed
lines_short zero n cs = omega arith
lines_short (suc k) n [] = omega arith
lines_short (suc k) n (c ∷ cs) =
    let t : List ℕ = take full_data (c ∷ cs) in
    let r : List ℕ = drop full_data (c ∷ cs) in
    let whole : length t + length r ≡ length (c ∷ cs) = sym (length-append t r) ∙ ap length (take-append-drop full_data (c ∷ cs)) in
    omega (arith, length-append (with_check n t) (fed (numbered (suc n) (rows k r))), length_check n t, lines_short k (suc n) r)
