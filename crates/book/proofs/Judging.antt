-- Whether a collection is well formed: one page block, the loop over all, and what the judge
-- answers. Assumes nothing.
use mathlib.Core.Path.{◌≡◌, refl, sym, ◌∙◌}
use mathlib.Core.Bool.{Bool, true, false, ◌&&◌, false≢true}
use mathlib.Core.List.{List}
use Prim.Native.Nat.{ℕ, suc, ◌+◌, ◌*◌, ◌-◌, ◌≤◌, ◌<◌}
use native.Mathlib.Numerals.{add-one}
use native.Mathlib.Omega.{arith}
use borrow.Author.Tests.{lt-ltb, le-ltb, eq-eqb}
use lib.Dec.{eqb}
use Rattle.wire.specs.Answer.{done, refused, number_of, then, demand}
use Rattle.wire.specs.Refusal.{number}
use Rattle.wire.specs.declared.Refusal.{Refusal}
use Rattle.wire.specs.declared.Refusal.TheVariants as refusal
use Rattle.wire.proofs.Cases.{both_hold}
use Rattle.wire.proofs.Placeless.{Placeless, placeless, numbered}
use Rattle.model.specs.Book.{Book}
use Rattle.model.specs.Finish.{is_absent}
use Rattle.block.specs.Block.{state_of}
use Rattle.block.specs.Read.{block_at, read_slot, ok_page}
use Rattle.block.proofs.Slots.{absent_yes, absent_no}
use Rattle.book.specs.Head.{read_head, has_head, head_in}
use Rattle.book.specs.Read.{page_at, read_book, ok_at, ok_pages, book_in, ok_book}

-- ---- one block

-- t and i are what the head says: its total and its id
module _ (c : List ℕ) (k at t : ℕ) (place : at ≡ 512 + 512 * k) (et : t ≡ (read_head c).total) where
  abbrev judged : Bool
  judged = ok_at (read_head c) k (page_at k c)

  -- from the total on, and not absent
  pub at_past : t ≤ k → (state_of (read_slot (block_at at c)) ≡ 0 → ⊥) → false ≡ judged
  unfolding ok_at
  at_past h n =
      let z : is_absent (read_slot (block_at at c)) ≡ false = absent_no (read_slot (block_at at c)) n in
      rw (← et, le-ltb k t h, ← place, z)

  module _ (i : List ℕ) (r : Bool) (ei : i ≡ (read_head c).id) (e : r ≡ ok_page i k (block_at at c)) where
    -- from the total on, and absent
    pub at_absent : t ≤ k → state_of (read_slot (block_at at c)) ≡ 0 → r ≡ judged
    unfolding ok_at
    at_absent h z =
        let y : is_absent (read_slot (block_at at c)) ≡ true = absent_yes (read_slot (block_at at c)) z in
        e ∙ rw (← et, le-ltb k t h, ← place, y, ei)

    -- below the total
    pub at_within : k < t → r ≡ judged
    unfolding ok_at
    at_within h = e ∙ rw (← et, lt-ltb k t h, ← place, ei)

-- ---- a refusal has a number

pub some_number : (r : Refusal) → number r ≡ 0 → ⊥
some_number refusal.BadCharacter e = omega arith
some_number refusal.BadTextLength e = omega arith
some_number refusal.CutOrLeftOver e = omega arith
some_number refusal.BadMagic e = omega arith
some_number refusal.BadVersion e = omega arith
some_number refusal.BadFrameType e = omega arith
some_number refusal.BadVarint e = omega arith
some_number refusal.BadPlace e = omega arith
some_number refusal.TooLarge e = omega arith
some_number refusal.BadChecksum e = omega arith
some_number refusal.NoRoom e = omega arith
some_number refusal.OtherDocument e = omega arith
some_number refusal.BadCollection e = omega arith
some_number refusal.TotalsDisagree e = omega arith
some_number refusal.PageDisputed e = omega arith
some_number refusal.PageMissing e = omega arith
some_number refusal.OtherCiphertext e = omega arith
some_number refusal.NotCanonical e = omega arith
some_number refusal.OutOfRange e = omega arith
some_number refusal.BadPath e = omega arith
some_number refusal.BadContents e = omega arith
some_number refusal.Mistyped e = omega arith
some_number refusal.TooFewSlips e = omega arith
some_number refusal.UnlikeSlips e = omega arith
some_number refusal.SlipTwice e = omega arith
some_number refusal.OffTheCurve e = omega arith
some_number refusal.BadPadding e = omega arith

-- ---- the judge of the whole

one_test : {B : Type 0} (b : Bool) (y : B) → eqb (number_of (demand b 13 (done y))) 0 ≡ b
one_test true y = refl
one_test false y = refl

-- a head and a test of what stands under it, as the judge asks for them
two_tests : {A B : Type 0} (h : A) (f : A → Bool) (g : A → B) (a : Bool)
    → eqb (number_of (then (demand a 13 (done h)) (λ x. demand (f x) 13 (done (g x))))) 0 ≡ (a && f h)
two_tests h f g false = refl
two_tests h f g true = one_test (f h) (g h)

module _ (c : List ℕ) where
  -- well formed is a head and 96 page blocks under it
  pub ok_is : ok_book c ≡ (has_head c && ok_pages (read_head c) 0 96 c)
  unfolding ok_book book_in head_in
  ok_is = two_tests (read_head c) (λ h. ok_pages h 0 96 c) (λ h. read_book c) (has_head c)

  -- what the judge lets through is what is read
  pub judged_done : ok_book c ≡ true → book_in c ≡ done (read_book c)
  unfolding book_in head_in
  judged_done ok =
      let b = both_hold (has_head c) (ok_pages (read_head c) 0 96 c) (sym ok_is ∙ ok) in
      rw (b.0, b.1)

  -- what is not well formed is refused with 13
  pub judged_bad : ok_book c ≡ false → book_in c ≡ refused 13
  unfolding book_in head_in
  judged_bad bad = go (has_head c) (ok_pages (read_head c) 0 96 c) refl refl
    where
      go : (a b : Bool) → has_head c ≡ a → ok_pages (read_head c) 0 96 c ≡ b → book_in c ≡ refused 13
      go true true p q = absurd (false≢true (sym bad ∙ ok_is ∙ rw (p, q)))
      go true false p q = rw (p, q)
      go false b p q = rw p

  -- and nothing else is let through
  pub judged_only : (b : Book) → book_in c ≡ done b → (ok_book c ≡ true) × (b ≡ read_book c)
  judged_only b e =
      let ok : ok_book c ≡ true = unfold ok_book in rw e in
      (ok, let z : done b ≡ done (read_book c) = sym e ∙ judged_done ok in cc)

  -- its refusals have no place
  pub book_placeless : Placeless (book_in c)
  unfolding book_in head_in
  book_placeless = search placeless

  -- the answers of the judge as a number
  module _ (n : ℕ) (e : n ≡ number_of (book_in c)) where
    pub judge_passed : n ≡ 0 → ok_book c ≡ true
    unfolding ok_book
    judge_passed z = eq-eqb (number_of (book_in c)) 0 (sym e ∙ z)

    pub judge_refused : (n ≡ 0 → ⊥) → book_in c ≡ refused n
    judge_refused z = numbered (book_in c) n book_placeless e z

    -- a refusal that was handed out
    pub judge_err : (r : Refusal) → n ≡ number r → book_in c ≡ refused n
    judge_err r q = judge_refused (λ z. some_number r (sym q ∙ z))

  -- and of the judge of the head
  module _ (n : ℕ) (e : n ≡ number_of (head_in c)) where
    pub head_passed : n ≡ 0 → has_head c ≡ true
    unfolding head_in
    head_passed z = sym (one_test (has_head c) (read_head c)) ∙ eq-eqb (number_of (head_in c)) 0 (sym e ∙ z)

    pub head_refused : (n ≡ 0 → ⊥) → head_in c ≡ refused n
    unfolding head_in
    head_refused z = numbered (head_in c) n (search placeless) e z

    pub head_err : (r : Refusal) → n ≡ number r → head_in c ≡ refused n
    head_err r q = head_refused (λ z. some_number r (sym q ∙ z))

-- ---- all of the page blocks

-- the blocks before index k are well formed, and what is left decides
pub record Passed (c : List ℕ) (k : ℕ) : Type 0 where
  pub most : k ≤ 96
  pub head : has_head c ≡ true
  pub left : ok_book c ≡ ok_pages (read_head c) k (96 - k) c

module _ (c : List ℕ) where
  step : (k : ℕ) → k < 96 → ok_pages (read_head c) k (96 - k) c ≡ (ok_at (read_head c) k (page_at k c) && ok_pages (read_head c) (k + 1) (96 - (k + 1)) c)
  unfolding ok_pages
  step k h =
      let e : 96 - k ≡ suc (96 - (k + 1)) = omega arith in
      rw (e, add-one k)

  -- a head that the judge of heads refuses
  pub head_stops : (r : Refusal) → number r ≡ number_of (head_in c) → number r ≡ number_of (book_in c)
  unfolding book_in
  head_stops r e = rw (head_err c (number r) e r refl)

  pub passed_none : 0 ≡ number_of (head_in c) → Passed c 0
  passed_none e = let h = head_passed c 0 e refl in record { most = omega arith; head = h; left = ok_is c ∙ rw h }

  -- what the judge answers, from whether the whole is well formed
  answer_0 : ok_book c ≡ true → 0 ≡ number_of (book_in c)
  answer_0 ok = rw (judged_done c ok)

  module _ (k n : ℕ) (h : k < n) (m : n ≤ 96) (p : Passed c k) (q : Bool) (e : q ≡ ok_at (read_head c) k (page_at k c)) where
    pub passed_on : q ≡ true → Passed c (k + 1)
    passed_on f = record { most = omega arith; head = p.head; left = p.left ∙ step k (omega arith) ∙ rw (← e, f) }

    pub passed_not : q ≡ false → 13 ≡ number_of (book_in c)
    unfolding book_in head_in
    passed_not f =
        let bad : ok_pages (read_head c) 0 96 c ≡ false = sym (rw p.head at (ok_is c)) ∙ p.left ∙ step k (omega arith) ∙ rw (← e, f) in
        rw (p.head, bad)

  pub passed_end : (k : ℕ) → 96 ≤ k → Passed c k → 0 ≡ number_of (book_in c)
  unfolding ok_pages
  passed_end k h p =
      let e : 96 - k ≡ 0 = omega arith in
      answer_0 (p.left ∙ rw e)
