-- What well-formed bytes say, and that they are the bytes of that. Assumes nothing.
use mathlib.Core.Path.{◌≡◌, refl, sym, ap, ap₂, ◌∙◌}
use mathlib.Core.Bool.{Bool, true, false, ◌&&◌, ◌||◌}
use mathlib.Core.List.{List, ◌++◌}
use Prim.Native.Nat.{ℕ, zero, suc, ◌+◌, ◌*◌, ◌≤◌, ◌<◌}
use native.Mathlib.Omega.{arith}
use borrow.Author.Tests.{le-ltb, eqb-true, leb-true}
use lib.Dec.{eqb, leb, ltb}
use lib.ListN.{length, take, drop, get_or, replicate, length-take, length-drop, length-replicate, take-append-drop, drop_of_length-le}
use lib.Seq.{drop-drop}
use Rattle.wire.specs.Over.{over}
use Rattle.wire.proofs.Cases.{both_hold}
use Rattle.wire.proofs.Overs.{over_all}
use Rattle.lend.specs.Same.{same}
use Rattle.lend.proofs.Sames.{same_eq}
use Rattle.model.specs.Book.{Slot, absent, data_of, empty, collecting, disagree, no_pages, total_of, slots_of}
use Rattle.model.specs.Finish.{is_absent}
use Rattle.block.specs.Read.{block_at, read_slot, ok_page}
use Rattle.block.proofs.Reading.{block_here, read_fits}
use Rattle.block.proofs.Round.{page_ok}
use Rattle.block.proofs.Slots.{said_absent}
use Rattle.book.specs.Head.{Head, head_for, head_block, read_head, ok_total, ok_head, has_head}
use Rattle.book.specs.Encode.{state_no, head_of, pages, encode}
use Rattle.book.specs.Read.{id_of, page_at, read_pages, book_for, read_book, ok_at, ok_pages, ok_book}
use Rattle.model.proofs.Slots.{none_is}
use Rattle.model.proofs.Valid.{EachData, Short, short_none, Valid}
use Rattle.book.proofs.Judging.{ok_is}

-- ---- one block

module _ (h : Head) (k : ℕ) (b : List ℕ) (ok : ok_at h k b ≡ true) where
  pub at_page : ok_page h.id k b ≡ true
  unfolding ok_at
  at_page = (both_hold (ltb k h.total || is_absent (read_slot b)) (ok_page h.id k b) ok).1

  pub at_beyond : h.total ≤ k → read_slot b ≡ absent
  unfolding ok_at
  at_beyond past =
      let f : (is_absent (read_slot b) && ok_page h.id k b) ≡ true = rw (le-ltb k h.total past) at ok in
      said_absent (read_slot b) (both_hold (is_absent (read_slot b)) (ok_page h.id k b) f).0

-- ---- what n blocks say

pub length_read : (k n : ℕ) (c : List ℕ) → length (read_pages k n c) ≡ n
unfolding read_pages
length_read k zero c = refl
length_read k (suc n) c = ap suc (length_read (suc k) n c)

-- slot i is what block k + i says
pub read_at : (k n i j : ℕ) (c : List ℕ) → i < n → j ≡ k + i → get_or (read_pages k n c) i absent ≡ read_slot (page_at j c)
unfolding read_pages
read_at k zero i j c h e = absurd (omega arith)
read_at k (suc n) zero j c h e = let x : j ≡ k = omega arith in rw x
read_at k (suc n) (suc i) j c h e = read_at (suc k) n i j c (omega arith) (omega arith)

-- what is read is short enough, of any bytes
pub read_short : (k n : ℕ) (c : List ℕ) → EachData Short (read_pages k n c)
unfolding read_pages
read_short k zero c j = unfold data_of in short_none
read_short k (suc n) c zero = read_fits (page_at k c)
read_short k (suc n) c (suc j) = read_short (suc k) n c j

-- ---- n well-formed blocks

module _ (g : Head) (c : List ℕ) where
  -- all are well formed where each is
  pub pages_each : (k n i j : ℕ) → ok_pages g k n c ≡ true → i < n → j ≡ k + i → ok_at g j (page_at j c) ≡ true
  unfolding ok_pages
  pages_each k zero i j ok h e = absurd (omega arith)
  pages_each k (suc n) zero j ok h e =
      let x : j ≡ k = omega arith in
      rw x (both_hold (ok_at g k (page_at k c)) (ok_pages g (suc k) n c) ok).0
  pages_each k (suc n) (suc i) j ok h e =
      pages_each (suc k) n i j (both_hold (ok_at g k (page_at k c)) (ok_pages g (suc k) n c) ok).1 (omega arith) (omega arith)

  pub pages_all : (k n : ℕ) → ((j : ℕ) → k ≤ j → j < k + n → ok_at g j (page_at j c) ≡ true) → ok_pages g k n c ≡ true
  unfolding ok_pages
  pages_all k zero f = refl
  pages_all k (suc n) f = rw (f k (omega arith) (omega arith), pages_all (suc k) n (λ j h g. f j (omega arith) (omega arith)))

  pub pages_beyond : (k n j : ℕ) → ok_pages g k n c ≡ true → g.total ≤ k + j → get_or (read_pages k n c) j absent ≡ absent
  unfolding read_pages ok_pages
  pages_beyond k zero j ok h = refl
  pages_beyond k (suc n) zero ok h =
      at_beyond g k (page_at k c) (both_hold (ok_at g k (page_at k c)) (ok_pages g (suc k) n c) ok).0 (omega arith)
  pages_beyond k (suc n) (suc j) ok h =
      pages_beyond (suc k) n j (both_hold (ok_at g k (page_at k c)) (ok_pages g (suc k) n c) ok).1 (omega arith)

  -- the bytes of n blocks up to the end are those of what they say
  pub pages_are : (k n a : ℕ) → ok_pages g k n c ≡ true → a ≡ 512 + 512 * k → length c ≡ a + 512 * n → drop a c ≡ pages g.id k (read_pages k n c)
  unfolding read_pages pages ok_pages
  pages_are k zero a ok e l = drop_of_length-le c {i = a} (omega arith)
  pages_are k (suc n) a ok e l =
      let both = both_hold (ok_at g k (page_at k c)) (ok_pages g (suc k) n c) ok in
      let here : take 512 (drop a c) ≡ page_at k c = rw e (sym (block_here (512 + 512 * k) c (omega arith))) in
      let rest : drop 512 (drop a c) ≡ pages g.id (suc k) (read_pages (suc k) n c) =
      drop-drop 512 a c ∙ pages_are (suc k) n (a + 512) both.1 (omega arith) (omega arith) in
      sym (take-append-drop 512 (drop a c))
      ∙ ap₂ ◌++◌ (here ∙ page_ok g.id k (page_at k c) (at_page g k (page_at k c) both.0)) rest

-- ---- the head

module _ (c : List ℕ) (ok : has_head c ≡ true) where
  pub head_size_lem : length c ≡ 49664
  unfolding has_head
  head_size_lem = eqb-true (length c) 49664 (both_hold (eqb (length c) 49664) (ok_head c) ok).0

  parts : (ok_total (read_head c).state (read_head c).total ≡ true) × (same (block_at 0 c) (head_block (read_head c)) ≡ true)
  unfolding has_head ok_head
  parts =
      both_hold (ok_total (read_head c).state (read_head c).total) (same (block_at 0 c) (head_block (read_head c)))
      (both_hold (eqb (length c) 49664) (ok_head c) ok).1

  pub head_allowed : ok_total (read_head c).state (read_head c).total ≡ true
  head_allowed = parts.0

  -- the head block is that of what it says
  pub head_stands : take 512 c ≡ head_block (read_head c)
  head_stands = sym (block_here 0 c (omega (arith, head_size_lem))) ∙ same_eq (block_at 0 c) (head_block (read_head c)) parts.1

  pub head_eight : length (id_of c) ≡ 8
  unfolding read_head
  head_eight = simp (length-take, length-drop) (omega (arith, head_size_lem))

  -- the copy of its id is whole
  pub head_copy : (id : List ℕ) → id ≡ over 0 (id_of c) (replicate 8 0) → id ≡ id_of c
  head_copy id e = e ∙ over_all (id_of c) (replicate 8 0) (head_eight ∙ sym (length-replicate {A = ℕ} 8 0))

-- ---- the state, the total and the slots of what is read

-- a head and slots are those of the collection that is read from them
pub record Says (h : Head) (ss : List Slot) : Type 0 where
  pub state_is : state_no (book_for h ss) ≡ h.state
  pub total_is : total_of (book_for h ss) ≡ h.total
  pub slots_are : slots_of (book_for h ss) ≡ ss
  pub valid : Valid (book_for h ss)

pub state_range : (s t : ℕ) → ok_total s t ≡ true → s ≤ 2
unfolding ok_total
state_range s t e = go (eqb s 1) refl
  where
    go : (w : Bool) → eqb s 1 ≡ w → s ≤ 2
    go true q = omega (arith, eqb-true s 1 q)
    go false q =
        let f : (leb s 2 && eqb t 0) ≡ true = rw q at e in
        leb-true s 2 (both_hold (leb s 2) (eqb t 0) f).0

pub total_range : (t : ℕ) → ok_total 1 t ≡ true → (1 ≤ t) × (t ≤ 96)
unfolding ok_total
total_range t e = let b = both_hold (leb 1 t) (leb t 96) e in (leb-true 1 t b.0, leb-true t 96 b.1)

module _ (id : List ℕ) (t : ℕ) (ss : List Slot) (l : length ss ≡ 96) (short : EachData Short ss) (beyond : (k : ℕ) → t ≤ k → get_or ss k absent ≡ absent) where
  none_held : t ≡ 0 → no_pages ≡ ss
  none_held e = sym (none_is ss l (λ k. beyond k (omega arith)))

  says_0 : ok_total 0 t ≡ true → Says (head_for id 0 t) ss
  unfolding ok_total book_for state_no total_of slots_of
  says_0 e =
      let z : t ≡ 0 = eqb-true t 0 e in
      record { state_is = refl; total_is = sym z; slots_are = none_held z; valid = tt }

  says_1 : ok_total 1 t ≡ true → Says (head_for id 1 t) ss
  unfolding book_for state_no total_of slots_of
  says_1 e =
      let r = total_range t e in
      record {
        state_is = refl;
        total_is = refl;
        slots_are = refl;
        valid = record { least = r.0; most = r.1; slots = l; short = short; beyond = beyond };
      }

  says_2 : ok_total 2 t ≡ true → Says (head_for id 2 t) ss
  unfolding ok_total book_for state_no total_of slots_of
  says_2 e =
      let z : t ≡ 0 = eqb-true t 0 e in
      record { state_is = refl; total_is = sym z; slots_are = none_held z; valid = tt }

  pub says : (s : ℕ) → ok_total s t ≡ true → Says (head_for id s t) ss
  says zero e = says_0 e
  says (suc zero) e = says_1 e
  says (suc (suc zero)) e = says_2 e
  says (suc (suc (suc s))) e = absurd (omega (arith, state_range (suc (suc (suc s))) t e))

-- ---- the whole

module _ (c : List ℕ) (ok : ok_book c ≡ true) where
  pub ok_head_lem : has_head c ≡ true
  ok_head_lem = (both_hold (has_head c) (ok_pages (read_head c) 0 96 c) (sym (ok_is c) ∙ ok)).0

  pub ok_pages_lem : ok_pages (read_head c) 0 96 c ≡ true
  ok_pages_lem = (both_hold (has_head c) (ok_pages (read_head c) 0 96 c) (sym (ok_is c) ∙ ok)).1

  pub ok_size : length c ≡ 49664
  ok_size = head_size_lem c ok_head_lem

  pub ok_id : length (id_of c) ≡ 8
  ok_id = head_eight c ok_head_lem

  -- block k of the collection
  pub ok_at_lem : (k : ℕ) → k < 96 → ok_at (read_head c) k (page_at k c) ≡ true
  ok_at_lem k h = pages_each (read_head c) c 0 96 k k ok_pages_lem h (omega arith)

  ok_says : Says (read_head c) (read_pages 0 96 c)
  ok_says =
      says (read_head c).id (read_head c).total (read_pages 0 96 c) (length_read 0 96 c) (read_short 0 96 c)
      (λ k h. pages_beyond (read_head c) c 0 96 k ok_pages_lem (omega arith)) (read_head c).state (head_allowed c ok_head_lem)

  -- what is well formed says a valid collection
  pub decoded_valid : Valid (read_book c)
  unfolding read_book
  decoded_valid = ok_says.valid

  -- whose slots are what the 96 blocks say, whatever the state of the head
  pub decoded_slots : slots_of (read_book c) ≡ read_pages 0 96 c
  unfolding read_book
  decoded_slots = ok_says.slots_are

  -- and is the bytes of it
  pub decoded : c ≡ encode (id_of c) (read_book c)
  unfolding encode head_of read_book
  decoded =
      let s = ok_says in
      sym (take-append-drop 512 c)
      ∙ ap₂ ◌++◌ (head_stands c ok_head_lem) (pages_are (read_head c) c 0 96 512 ok_pages_lem refl ok_size)
      ∙ rw (s.state_is, s.total_is, s.slots_are)

  pub ok_state : (read_head c).state ≤ 2
  ok_state = state_range (read_head c).state (read_head c).total (head_allowed c ok_head_lem)

-- slot k of what is read
pub read_block : (c : List ℕ) (k : ℕ) → k < 96 → get_or (read_pages 0 96 c) k absent ≡ read_slot (page_at k c)
read_block c k h = read_at 0 96 k k c h (omega arith)

-- what is read, by the state of the head
module _ (c : List ℕ) where
  pub book_0 : (read_head c).state ≡ 0 → read_book c ≡ empty
  unfolding read_book book_for
  book_0 e = rw e

  pub book_1 : (read_head c).state ≡ 1 → read_book c ≡ collecting (read_head c).total (read_pages 0 96 c)
  unfolding read_book book_for
  book_1 e = rw e

  pub book_2 : (read_head c).state ≡ 2 → read_book c ≡ disagree
  unfolding read_book book_for
  book_2 e = rw e
