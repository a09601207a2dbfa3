-- The numbers of the pages in a state, as they are laid. Assumes nothing.
use mathlib.Core.Path.{◌≡◌, refl, sym, ap, ◌∙◌}
use mathlib.Core.Bool.{Bool, true, false}
use mathlib.Core.List.{List, [], ◌∷◌, ◌++◌, append-nil, append_assoc}
use Prim.Native.Nat.{ℕ, suc, ◌+◌, ◌*◌, ◌-◌, ◌≤◌, ◌<◌}
use native.Mathlib.Nat.{sub-zero}
use native.Mathlib.Numerals.{add-one}
use native.Mathlib.Omega.{arith}
use borrow.Author.Tests.{eq-eqb, ne_eqb, eqb-true, eqb-false}
use lib.Dec.{eqb}
use lib.ListN.{length, take, drop, replicate, length-replicate}
use Rattle.wire.specs.Answer.{Answer, done, refused_at, number_of, Kept}
use Rattle.wire.specs.Ascii.{ascii}
use Rattle.wire.specs.Over.{over}
use Rattle.std.specs.Prelude.{Result, Ok, Err}
use Rattle.wire.specs.Reading.{told}
use Rattle.wire.specs.Refusal.{number}
use Rattle.wire.specs.declared.Refusal.{Refusal}
use Rattle.wire.specs.Writing.{writing}
use Rattle.wire.proofs.Overs.{over_none, length_over}
use Rattle.digits.specs.Decimal.{decimal, line_feed}
use Rattle.digits.specs.Private.{Laid}
use Rattle.digits.proofs.Laying.{laid_one, laid_then, laid_as, laid_whole}
use Rattle.model.specs.Book.{Slot, Book, empty, collecting, disagree}
use Rattle.model.specs.Finish.{is_absent, is_disputed, count}
use Rattle.block.specs.Block.{state_of}
use Rattle.block.specs.Read.{block_at, read_slot}
use Rattle.book.specs.Head.{read_head}
use Rattle.book.specs.Read.{page_at, read_pages, read_book, book_in, ok_book}
use Rattle.book.specs.Tally.{in_state}
use Rattle.book.proofs.Judging.{some_number, judged_done, judge_passed, judge_refused}
use Rattle.book.proofs.Decode.{ok_state, ok_head_lem, head_allowed, total_range, book_0, book_1, book_2}
use Rattle.book.proofs.Below.{in_absent, in_disputed, count_as, take_read}
use Rattle.told.specs.Pages.{entry, listed, list_line, list_of, missing_line, disputed_line}

-- ---- one page

module _ (c : List ℕ) (k s at p x : ℕ) (q : p ≡ 512 + 512 * k) (f : x ≡ state_of (read_slot (block_at p c))) (l : List ℕ) where
  e : x ≡ state_of (read_slot (page_at k c))
  e = f ∙ rw q

  pub entry_none : (x ≡ s → ⊥) → Laid at 4 (entry (in_state s (read_slot (page_at k c))) k) l l at
  unfolding in_state
  entry_none h = rw (ne_eqb (state_of (read_slot (page_at k c))) s (λ i. h (e ∙ i))) (record { next = omega arith; short = omega arith; stands = sym (over_none at l) })

  pub entry_one : x ≡ s → at + 4 ≤ length l → (r : ℕ) (y z : List ℕ) → y ≡ over at (ascii " ") l
      → (r ≡ length (decimal k)) × (r ≤ 3) × (z ≡ over (at + 1) (decimal k) y) → Laid at 4 (entry (in_state s (read_slot (page_at k c))) k) l z (at + 1 + r)
  unfolding in_state
  entry_one h room r y z o (g, i, j) =
      rw (eq-eqb (state_of (read_slot (page_at k c))) s (sym e ∙ h))
      (laid_then at 1 (at + 1) 3 (at + 1 + r) (ascii " ") (decimal k) l y z (laid_one at 1 (ascii " ") l y (at + 1) refl (omega arith) o)
      (laid_one (at + 1) 3 (decimal k) y z (at + 1 + r) (omega arith) (omega arith) j) (omega arith))

-- ---- the pages, one after another

-- before page k: what was laid from index n on, and behind it what is left to lay, are the whole
pub record Listing (c l : List ℕ) (t s n : ℕ) (x : List ℕ) (at k : ℕ) : Type 0 where
  pub below : k ≤ t
  pub size : length x ≡ length l
  pub front : List ℕ
  pub laid : Laid n (4 * k) front l x at
  pub rest : front ++ listed (in_state s) k (read_pages k (t - k) c) ≡ listed (in_state s) 0 (read_pages 0 t c)

module _ (c l : List ℕ) (t s n : ℕ) where
  pub listing_none : Listing c l t s n l n 0
  listing_none = record {
    below = omega arith;
    size = refl;
    front = [];
    laid = record { next = omega arith; short = omega arith; stands = sym (over_none n l) };
    rest = rw (sub-zero t);
  }

  -- the name was laid in front of l₀
  module _ (name l₀ : List ℕ) (o : (t ≤ 96) × (length name ≤ 9) × (length l₀ ≡ 400)) (e : l ≡ over 0 name l₀) (w : n ≡ length name) where
    long : length l ≡ 400
    long = ap length e ∙ length_over 0 name l₀ ∙ o.2

    module _ (x : List ℕ) (at k : ℕ) (p : Listing c l t s n x at k) where
      -- the next one has room
      pub listing_room : k < t → at + 4 ≤ length x
      listing_room i = omega (arith, o.0, o.1, long, p.laid.next, p.laid.short, p.size)

      pub listing_on : k < t → (r : ℕ) (y : List ℕ) → Laid at 4 (entry (in_state s (read_slot (page_at k c))) k) x y r → Listing c l t s n y r (k + 1)
      unfolding read_pages listed
      listing_on i r y q =
          let u : t - k ≡ suc (t - (k + 1)) = omega arith in
          record {
            below = omega arith;
            size = ap length q.stands ∙ length_over at _ x ∙ p.size;
            front = p.front ++ entry (in_state s (read_slot (page_at k c))) k;
            laid =
                laid_as n (4 * k + 4) (4 * (k + 1)) r _ _ l y
                (laid_then n (4 * k) at 4 r p.front _ l x y p.laid q (omega (arith, o.0, o.1, long, p.laid.next, p.laid.short))) refl (omega arith);
            rest =
                append_assoc p.front (entry (in_state s (read_slot (page_at k c))) k) (listed (in_state s) (k + 1) (read_pages (k + 1) (t - (k + 1)) c))
                ∙ rw (u, ← add-one k) at p.rest;
          }

      pub listing_end : t ≤ k → Laid 0 393 (name ++ listed (in_state s) 0 (read_pages 0 t c)) l₀ x at
      unfolding read_pages listed
      listing_end i =
          let u : t - k ≡ 0 = omega (arith, p.below) in
          let all : p.front ≡ listed (in_state s) 0 (read_pages 0 t c) = sym (append-nil p.front) ∙ rw u at p.rest in
          let body = laid_as n (4 * k) 384 at _ _ l x p.laid all (omega (arith, p.below, o.0)) in
          laid_then 0 9 n 384 at name _ l₀ l x (laid_one 0 9 name l₀ l n (omega arith) o.1 e) body (omega (arith, o.1, o.2))

-- ---- the line

module _ (c name : List ℕ) (t s m n : ℕ) (d : m ≡ s) (f : n ≡ count (in_state m) (read_pages 0 t c)) (out out' : List ℕ) (r : Answer ℕ) where
  counted : n ≡ count (in_state s) (read_pages 0 t c)
  counted = rw d at f

  pub below_none : n ≡ 0 → Kept (writing 0 out (done [])) out out' r → Kept (writing 0 out (done (list_line name (in_state s) (read_pages 0 t c)))) out out' r
  unfolding list_line
  below_none z w = rw (eq-eqb (count (in_state s) (read_pages 0 t c)) 0 (sym counted ∙ z)) w

  pub below_some : (n ≡ 0 → ⊥) → (j : ℕ) (x y : List ℕ) → Laid 0 393 (name ++ listed (in_state s) 0 (read_pages 0 t c)) (replicate 400 0) x j → y ≡ over j line_feed x
      → Kept (writing 0 out (done (take (j + 1 - 0) (drop 0 y)))) out out' r → Kept (writing 0 out (done (list_line name (in_state s) (read_pages 0 t c)))) out out' r
  unfolding list_line
  below_some z j x y p v w =
      let room : length (replicate {A = ℕ} 400 0) ≡ 400 = length-replicate {A = ℕ} 400 0 in
      rw (ne_eqb (count (in_state s) (read_pages 0 t c)) 0 (λ i. z (counted ∙ i)))
      (laid_whole 394 (j + 1) _ (replicate 400 0) y out out' r (omega arith)
      (laid_then 0 393 j 1 (j + 1) _ _ (replicate 400 0) x y p (laid_one j 1 line_feed x y (j + 1) refl (omega arith) v) (omega (arith, p.next, p.short))) w)

-- ---- of any bytes: r is what the judge answered

module _ (c : List ℕ) (r : Result Unit Refusal) (e : number_of (told r) ≡ number_of (book_in c)) where
  sound : (u : Unit) → r ≡ Ok u → ok_book c ≡ true
  sound u h = judge_passed c 0 (ap (λ (q : Result Unit Refusal). number_of (told q)) (sym h) ∙ e) refl

  pub list_most : (u : Unit) → r ≡ Ok u → (s : ℕ) → s ≡ (read_head c).state → (t : ℕ) → s ≡ 1 → t ≡ (read_head c).total → t ≤ 96
  list_most u h s es t g et =
      let k = total_range (read_head c).total (rw (sym es ∙ g) at (head_allowed c (ok_head_lem c (sound u h)))) in
      omega (arith, et, k.1)

  module _ (name : List ℕ) (f : Slot → Bool) where
    pub list_refused : (why : Refusal) → r ≡ Err why → list_of name f (book_in c) ≡ []
    list_refused why h =
        rw (judge_refused c (number why) (ap (λ (q : Result Unit Refusal). number_of (told q)) (sym h) ∙ e) (some_number why))

    module _ (u : Unit) (h : r ≡ Ok u) (s : ℕ) (es : s ≡ (read_head c).state) where
      pub list_pageless : (s ≡ 1 → ⊥) → list_of name f (book_in c) ≡ []
      list_pageless g = go (eqb s 0) refl
        where
          go : (w : Bool) → eqb s 0 ≡ w → list_of name f (book_in c) ≡ []
          go true z = rw (judged_done c (sound u h), book_0 c (sym es ∙ eqb-true s 0 z))
          go false z =
              let two : (read_head c).state ≡ 2 = omega (arith, ok_state c (sound u h), eqb-false s 0 z) in
              rw (judged_done c (sound u h), book_2 c two)

      module _ (t : ℕ) (g : s ≡ 1) (et : t ≡ (read_head c).total) where
        pub list_pages : list_of name f (book_in c) ≡ list_line name f (read_pages 0 t c)
        list_pages =
            let b : read_book c ≡ collecting t (read_pages 0 96 c) = rw et (book_1 c (sym es ∙ g)) in
            rw (judged_done c (sound u h), b) (ap (list_line name f) (take_read 0 96 t c (list_most u h s es t g et)))

-- ---- by what the number of a state means

module _ (f g : Slot → Bool) (agree : (p : Slot) → f p ≡ g p) where
  listed_as : (k : ℕ) (ss : List Slot) → listed f k ss ≡ listed g k ss
  unfolding listed
  listed_as k [] = refl
  listed_as k (x ∷ ss) = rw (agree x, listed_as (suc k) ss)

  line_as : (name : List ℕ) (ss : List Slot) → list_line name f ss ≡ list_line name g ss
  unfolding list_line
  line_as name ss = rw (count_as f g agree ss, listed_as 0 ss)

  list_as : (name : List ℕ) (a : Answer Book) → list_of name f a ≡ list_of name g a
  list_as name (done empty) = refl
  list_as name (done (collecting t ss)) = line_as name (take t ss)
  list_as name (done disagree) = refl
  list_as name (refused_at e place) = refl

pub missing_as : (c : List ℕ) → missing_line c ≡ list_of (ascii "missing:") (in_state 0) (book_in c)
unfolding missing_line
missing_as c = sym (list_as (in_state 0) is_absent in_absent (ascii "missing:") (book_in c))

pub disputed_as : (c : List ℕ) → disputed_line c ≡ list_of (ascii "disputed:") (in_state 2) (book_in c)
unfolding disputed_line
disputed_as c = sym (list_as (in_state 2) is_disputed in_disputed (ascii "disputed:") (book_in c))
