-- Slips of the hand that are always found, with the line that they are on: one letter for another,
-- two letters exchanged on a line, two lines exchanged. Each is said of texts, and follows from
-- `found` of proofs/Found.antt. Assumes nothing.
use Prim.Native.Nat.{ℕ, suc, ◌+◌, ◌≤◌, ◌<◌}
use mathlib.Core.Path.{◌≡◌, refl, sym, ap, ap₂, ◌∙◌}
use mathlib.Core.Logic.{⊎_elim}
use mathlib.Core.Bool.{Bool, true, false, not, false≢true}
use mathlib.Core.List.{List, [], ◌∷◌, ◌++◌, map, map-append, append_assoc, append-nil}
use native.Mathlib.Omega.{arith}
use borrow.Author.Tests.{ne_eqb}
use lib.Dec.{eqb}
use lib.ListN.{length, length-append}
use lib.Seq.{append_snoc}
use Rattle.wire.specs.Answer.{choose, done, refused_at}
use Rattle.wire.specs.Every.{every, without}
use Rattle.wire.proofs.Cases.{both_hold, lt_or_le}
use Rattle.wire.proofs.Both.{hold_both}
use Rattle.typed.specs.Typed.{full_line, skipped, plain, is_letter, feed, cut, lines_of, right, read_typed}
use Rattle.typed.specs.Slip.{line_at, before, rest}
use Rattle.typed.proofs.Letters.{letter_not_feed, feed_unskipped}
use Rattle.typed.proofs.Cutting.{every_append, plain_append, plain_letter, cut_feedless}
use Rattle.typed.proofs.Checks.{letter_wrong, check_wrong, exchange_wrong, number_wrong}
use Rattle.typed.proofs.Rows.{count_bounds}
use Rattle.typed.proofs.Found.{Line, line_passed, found}

-- ---- where a part of a line stands

skipped_not_feed : (c : ℕ) → skipped c ≡ true → eqb c feed ≡ false
skipped_not_feed c h = ne_eqb c feed (λ e. false≢true (sym feed_unskipped ∙ ap skipped (sym e) ∙ h))

-- where p ends: the lines before, and the beginning of line n
abbrev Begun : (line p : List ℕ) (n : ℕ) → Type 0
Begun line p n = (front : List (List ℕ)) × (a : List ℕ) × (suc (length front) ≡ n) × ((q : List ℕ) → cut line (p ++ q) ≡ front ++ cut a q)

begun : (line xs : List ℕ) → Begun line (plain xs) (line_at xs)
unfolding plain cut line_at
begun line [] = ([], line, refl, λ q. refl)
begun line (x ∷ xs) = go (skipped x) refl (eqb x feed) refl (λ l. begun l xs)
  where
    go : (s : Bool) → skipped x ≡ s → (t : Bool) → eqb x feed ≡ t → ((l : List ℕ) → Begun l (plain xs) (line_at xs))
        → Begun line (choose s (plain xs) (x ∷ plain xs)) (choose t (suc (line_at xs)) (line_at xs))
    go true hs true ht on = absurd (false≢true (sym (skipped_not_feed x hs) ∙ ht))
    go true hs false ht on = on line
    go false hs true ht on = let (front, a, n, e) = on [] in (line ∷ front, a, ap suc n, λ q. rw ht (ap (λ (r : List (List ℕ)). line ∷ r) (e q)))
    go false hs false ht on = let (front, a, n, e) = on (line ++ (x ∷ [])) in (front, a, n, λ q. rw ht (e q))

-- where p begins: the end b of the line, and the lines behind
abbrev Ended : (p b : List ℕ) → Type 0
Ended p b = (more : List (List ℕ)) × ((line : List ℕ) → cut line p ≡ (line ++ b) ∷ more)

ended : (p : List ℕ) → Ended p (before p)
unfolding cut before
ended [] = ([], λ line. ap (λ (l : List ℕ). l ∷ []) (sym (append-nil line)))
ended (c ∷ p) = go (eqb c feed) refl (ended p)
  where
    go : (t : Bool) → eqb c feed ≡ t → Ended p (before p) → Ended (c ∷ p) (choose t [] (c ∷ before p))
    go true ht on = (cut [] p, λ line. rw ht (ap (λ (l : List ℕ). l ∷ cut [] p) (sym (append-nil line))))
    go false ht (more, e) = (more, λ line. rw ht (e (line ++ (c ∷ [])) ∙ ap (λ (l : List ℕ). l ∷ more) (append_snoc line c (before p))))

plain_feedless : (s : List ℕ) → without feed s ≡ true → without feed (plain s) ≡ true
unfolding plain every
plain_feedless [] h = refl
plain_feedless (c ∷ s) h = let b = both_hold (not (eqb c feed)) (without feed s) h in go (skipped c) b.0 (plain_feedless s b.1)
  where
    go : (t : Bool) → not (eqb c feed) ≡ true → without feed (plain s) ≡ true → without feed (choose t (plain s) (c ∷ plain s)) ≡ true
    go true f k = k
    go false f k = hold_both _ _ f k

lines_some : (xs : List ℕ) (c : ℕ) (ys : List ℕ) → lines_of (xs ++ (c ∷ ys)) ≡ cut [] (plain (xs ++ (c ∷ ys)))
unfolding lines_of
lines_some [] c ys = refl
lines_some (x ∷ xs) c ys = refl

-- the lines of a text, whatever stands between xs and ys on one line
around : (xs ys : List ℕ) → (front : List (List ℕ)) × (a : List ℕ) × (more : List (List ℕ)) × (suc (length front) ≡ line_at xs)
    × ((c : ℕ) (s : List ℕ) → without feed (c ∷ s) ≡ true → lines_of (xs ++ ((c ∷ s) ++ ys)) ≡ front ++ ((a ++ (plain (c ∷ s) ++ rest ys)) ∷ more))
around xs ys =
    let (front, a, n, e) = begun [] xs in
    let (more, f) = ended (plain ys) in (
      front,
      a,
      more,
      n,
      λ c s h.
          lines_some xs c (s ++ ys)
          ∙ ap (cut []) (plain_append xs ((c ∷ s) ++ ys) ∙ ap (λ (p : List ℕ). plain xs ++ p) (plain_append (c ∷ s) ys))
          ∙ e (plain (c ∷ s) ++ plain ys)
          ∙ ap (λ (r : List (List ℕ)). front ++ r)
          (cut_feedless a (plain (c ∷ s)) (plain ys) (plain_feedless (c ∷ s) h)
          ∙ f (a ++ plain (c ∷ s))
          ∙ ap (λ (l : List ℕ). l ∷ more) (append_assoc a (plain (c ∷ s)) (rest ys))),
    )

-- a line that was right, and is of the right length, is not right with q for p; r is its end
abbrev Spoils : (p q r : List ℕ) → Type 0
Spoils p q r =
    (n : ℕ) (a : List ℕ) → right n (a ++ (p ++ r)) ≡ true → 3 ≤ length (a ++ (p ++ r)) → length (a ++ (p ++ r)) ≤ full_line → right n (a ++ (q ++ r)) ≡ false

-- then it is found: p and q are what is not skipped of the old part and of the new
part_found : (xs ys : List ℕ) (c d : ℕ) (s t p q bs : List ℕ) → read_typed (xs ++ ((c ∷ s) ++ ys)) ≡ done bs
    → without feed (c ∷ s) ≡ true
    → without feed (d ∷ t) ≡ true
    → plain (c ∷ s) ≡ p
    → plain (d ∷ t) ≡ q
    → length q ≡ length p
    → (every is_letter p ≡ true → every is_letter q ≡ true)
    → Spoils p q (rest ys)
    → read_typed (xs ++ ((d ∷ t) ++ ys)) ≡ refused_at 23 (line_at xs)
unfolding every
part_found xs ys c d s t p q bs h hs ht ep eq same spelt spoils =
    let (front, a, more, n, e) = around xs ys in
    let whole : List ℕ → List ℕ = λ r. a ++ (r ++ rest ys) in
    let old : lines_of (xs ++ ((c ∷ s) ++ ys)) ≡ front ++ (whole p ∷ more) = e c s hs ∙ ap (λ (r : List ℕ). front ++ (whole r ∷ more)) ep in
    let new : lines_of (xs ++ ((d ∷ t) ++ ys)) ≡ front ++ (whole q ∷ more) = e d t ht ∙ ap (λ (r : List ℕ). front ++ (whole r ∷ more)) eq in
    let k : Line front (whole p) more = line_passed (xs ++ ((c ∷ s) ++ ys)) bs front (whole p) more h old in
    let b = count_bounds _ _ k.count in
    let u = both_hold (every is_letter a) (every is_letter (p ++ rest ys)) (sym (every_append is_letter a (p ++ rest ys)) ∙ k.letters) in
    let v = both_hold (every is_letter p) (every is_letter (rest ys)) (sym (every_append is_letter p (rest ys)) ∙ u.1) in
    let end : every is_letter (q ++ rest ys) ≡ true = every_append is_letter q (rest ys) ∙ hold_both _ _ (spelt v.0) v.1 in
    let letters : every is_letter (whole q) ≡ true = every_append is_letter a (q ++ rest ys) ∙ hold_both _ _ u.0 end in
    let size : (r : List ℕ) → length (whole r) ≡ length a + (length r + length (rest ys)) = λ r. length-append a (r ++ rest ys) ∙ ap (λ (m : ℕ). length a + m) (length-append r (rest ys)) in
    let lengths : length (whole q) ≡ length (whole p) = size q ∙ ap (λ (m : ℕ). length a + (m + length (rest ys))) same ∙ sym (size p) in
    found (xs ++ ((c ∷ s) ++ ys)) (xs ++ ((d ∷ t) ++ ys)) bs front (whole p) (whole q) more more h old new (ap (λ (m : ℕ). m ∷ map length more) lengths) (hold_both _ _ letters k.behind) (spoils (suc (length front)) a k.good b.0 b.1)
    ∙ ap (refused_at 23) n

-- ---- one letter for another

module _ (xs ys bs : List ℕ) (c d : ℕ) (reads : read_typed (xs ++ (c ∷ ys)) ≡ done bs) (hc : is_letter c ≡ true) (hd : is_letter d ≡ true) (ne : c ≡ d → ⊥) where
  one_found : Spoils (c ∷ []) (d ∷ []) (rest ys) → read_typed (xs ++ (d ∷ ys)) ≡ refused_at 23 (line_at xs)
  unfolding plain every
  one_found =
      part_found xs ys c d [] [] (c ∷ []) (d ∷ []) bs reads (rw (letter_not_feed c hc)) (rw (letter_not_feed d hd)) (plain_letter c [] hc) (plain_letter d [] hd) refl (λ h. rw hd)

  -- For the reader: among the data, so that two characters at least follow on its line
  pub replaced : 2 ≤ length (rest ys) → read_typed (xs ++ (d ∷ ys)) ≡ refused_at 23 (line_at xs)
  replaced two = one_found (λ n a good long short. letter_wrong n a (rest ys) c d hc hd ne good short two)

  -- For the reader: in the check, so that fewer than two follow
  pub check_replaced : length (rest ys) < 2 → read_typed (xs ++ (d ∷ ys)) ≡ refused_at 23 (line_at xs)
  check_replaced few = one_found (λ n a good long short. check_wrong n a (rest ys) c d hc hd ne good (omega arith) few)

  -- For the reader: so wherever it stands
  pub any_replaced : read_typed (xs ++ (d ∷ ys)) ≡ refused_at 23 (line_at xs)
  any_replaced = ⊎_elim check_replaced replaced (lt_or_le (length (rest ys)) 2)

-- ---- two letters exchanged

-- For the reader: on one line, both among the data
pub exchanged : (xs ys zs bs : List ℕ) (c d : ℕ) → read_typed (xs ++ (c ∷ ys) ++ (d ∷ zs)) ≡ done bs
    → is_letter c ≡ true
    → is_letter d ≡ true
    → (c ≡ d → ⊥)
    → without feed ys ≡ true
    → 2 ≤ length (rest zs)
    → read_typed (xs ++ (d ∷ ys) ++ (c ∷ zs)) ≡ refused_at 23 (line_at xs)
unfolding plain every
exchanged xs ys zs bs c d reads hc hd ne flat two =
    ap read_typed (as_part d c)
    ∙ part_found xs zs c d (ys ++ (d ∷ [])) (ys ++ (c ∷ [])) (ends c d) (ends d c) bs (ap read_typed (sym (as_part c d)) ∙ reads) (feedless c d hc hd) (feedless d c hd hc) (plain_ends c d hc hd) (plain_ends d c hd hc) (omega (arith, length-append (plain ys) (c ∷ []), length-append (plain ys) (d ∷ []))) spelt spoils
  where
    -- what stands from the one letter to the other
    ends : (v w : ℕ) → List ℕ
    ends v w = v ∷ (plain ys ++ (w ∷ []))

    as_part : (v w : ℕ) → xs ++ (v ∷ ys) ++ (w ∷ zs) ≡ xs ++ ((v ∷ (ys ++ (w ∷ []))) ++ zs)
    as_part v w = append_assoc xs (v ∷ ys) (w ∷ zs) ∙ ap (λ (r : List ℕ). xs ++ r) (sym (append_snoc (v ∷ ys) w zs))

    feedless : (v w : ℕ) → is_letter v ≡ true → is_letter w ≡ true → without feed (v ∷ (ys ++ (w ∷ []))) ≡ true
    feedless v w hv hw = rw (letter_not_feed v hv, every_append (λ c. not (eqb c feed)) ys (w ∷ []), flat, letter_not_feed w hw)

    plain_ends : (v w : ℕ) → is_letter v ≡ true → is_letter w ≡ true → plain (v ∷ (ys ++ (w ∷ []))) ≡ ends v w
    plain_ends v w hv hw =
        plain_letter v (ys ++ (w ∷ [])) hv
        ∙ ap (λ (r : List ℕ). v ∷ r) (plain_append ys (w ∷ []) ∙ ap (λ (r : List ℕ). plain ys ++ r) (plain_letter w [] hw))

    spelt : every is_letter (ends c d) ≡ true → every is_letter (ends d c) ≡ true
    spelt h =
        let b = both_hold (every is_letter (plain ys)) _ (sym (every_append is_letter (plain ys) (d ∷ [])) ∙ (both_hold (is_letter c) _ h).1) in
        hold_both _ _ hd (every_append is_letter (plain ys) (c ∷ []) ∙ hold_both _ _ b.0 (rw hc))

    as_line : (a : List ℕ) (v w : ℕ) → a ++ (ends v w ++ rest zs) ≡ a ++ (v ∷ (plain ys ++ (w ∷ rest zs)))
    as_line a v w = ap (λ (r : List ℕ). a ++ (v ∷ r)) (append_snoc (plain ys) w (rest zs))

    spoils : Spoils (ends c d) (ends d c) (rest zs)
    spoils n a good long short =
        ap (right n) (as_line a d c)
        ∙ exchange_wrong n a (plain ys) (rest zs) c d hc hd ne (ap (right n) (sym (as_line a c d)) ∙ good) (rw (as_line a c d) at short) two

-- ---- two lines exchanged

-- For the reader: two lines with as many characters, in each other's place. The first of the two
-- places is told
pub lines_exchanged : (cs cs' bs : List ℕ) (front : List (List ℕ)) (l : List ℕ) (between : List (List ℕ)) (m : List ℕ) (more : List (List ℕ))
    → read_typed cs ≡ done bs
    → lines_of cs ≡ front ++ (l ∷ between) ++ (m ∷ more)
    → lines_of cs' ≡ front ++ (m ∷ between) ++ (l ∷ more)
    → length l ≡ length m
    → read_typed cs' ≡ refused_at 23 (suc (length front))
unfolding every
lines_exchanged cs cs' bs front l between m more reads e e' same =
    let first : lines_of cs ≡ front ++ (l ∷ (between ++ (m ∷ more))) = e ∙ append_assoc front (l ∷ between) (m ∷ more) in
    let k : Line front l (between ++ (m ∷ more)) = line_passed cs bs front l (between ++ (m ∷ more)) reads first in
    let j : Line (front ++ (l ∷ between)) m more = line_passed cs bs (front ++ (l ∷ between)) m more reads e in
    let far : suc (length (front ++ (l ∷ between))) ≡ suc (length front) + suc (length between) = omega (arith, length-append front (l ∷ between)) in
    let near : suc (length between) ≤ 19 = omega (arith, k.few, length-append between (m ∷ more)) in
    let wrong : right (suc (length front)) m ≡ false =
    number_wrong (suc (length front)) (suc (length between)) m (omega (arith, count_bounds _ _ j.count)) (omega arith) near (ap (λ (n : ℕ). right n m) (sym far) ∙ j.good) in
    let flat = both_hold (every (every is_letter) between) _ (sym (every_append (every is_letter) between (m ∷ more)) ∙ k.behind) in
    let letters : every (every is_letter) (between ++ (l ∷ more)) ≡ true =
    every_append (every is_letter) between (l ∷ more) ∙ hold_both _ _ flat.0 (hold_both _ _ k.letters j.behind) in
    let lengths : map length (between ++ (l ∷ more)) ≡ map length (between ++ (m ∷ more)) =
    map-append length between (l ∷ more) ∙ ap (λ (x : ℕ). map length between ++ (x ∷ map length more)) same ∙ sym (map-append length between (m ∷ more)) in
    found cs cs' bs front l m (between ++ (m ∷ more)) (between ++ (l ∷ more)) reads first (e' ∙ append_assoc front (m ∷ between) (l ∷ more)) (ap₂ (λ (x : ℕ) (r : List ℕ). x ∷ r) (sym same) lengths) (hold_both _ _ j.letters letters) wrong
