-- What mending does: the result is well formed, what was well formed is untouched, and nothing is
-- invented. Assumes nothing.
use mathlib.Core.Path.{◌≡◌, refl, sym, ap, ◌∙◌}
use mathlib.Core.Bool.{Bool, true, false, ◌&&◌, ◌||◌}
use mathlib.Core.Logic.{◌↔◌}
use mathlib.Core.List.{List}
use Prim.Native.Nat.{ℕ, zero, suc, ◌+◌, ◌≤◌, ◌<◌}
use native.Mathlib.Omega.{arith}
use borrow.Author.Tests.{eq-eqb}
use lib.Dec.{eqb, ltb}
use lib.ListN.{length, take, get_or}
use Rattle.wire.specs.Answer.{choose, Answer, done, refused, bytes_after, answer_of}
use Rattle.wire.proofs.Cases.{both_hold}
use Rattle.model.specs.Book.{Slot, absent, held, empty, collecting, disagree}
use Rattle.model.specs.Finish.{is_absent}
use Rattle.block.specs.Block.{page_block}
use Rattle.block.specs.Read.{block_at, read_slot}
use Rattle.block.proofs.Reading.{block_here}
use Rattle.block.proofs.Round.{slot_page, ok_page_lem}
use Rattle.book.specs.Head.{Head, read_head, ok_head, has_head, head_in}
use Rattle.book.specs.Read.{id_of, page_at, read_pages, book_for, read_book, ok_at, ok_pages, ok_book}
use Rattle.book.proofs.Judging.{ok_is}
use Rattle.book.proofs.Decode.{head_size_lem, head_eight, ok_head_lem, ok_pages_lem, ok_at_lem, pages_all, read_block}
use Rattle.book.proofs.Places.{same_blocks}
use Rattle.mend.specs.Mend.{mended_block, bad_pages, mending}
use Rattle.mend.proofs.Mending.{same_head, short_absent, mended_file, file_is, file_size_lem, file_front, file_page}

-- ---- one block

module _ (g : Head) (k : ℕ) (b : List ℕ) where
  -- a block that was well formed is untouched
  pub block_kept : ok_at g k b ≡ true → mended_block g k b ≡ b
  unfolding mended_block
  block_kept e = rw e

  -- one that was not says absent now
  pub block_emptied : ok_at g k b ≡ false → mended_block g k b ≡ page_block g.id k absent
  unfolding mended_block
  block_emptied e = rw e

  absent_ok : length g.id ≡ 8 → ok_at g k (page_block g.id k absent) ≡ true
  unfolding ok_at is_absent
  absent_ok eight = rw (slot_page g.id k eight absent short_absent, ok_page_lem g.id k eight absent short_absent) (go (ltb k g.total))
    where
      go : (w : Bool) → ((w || true) && true) ≡ true
      go true = refl
      go false = refl

  -- either way it is well formed now
  pub block_ok : length g.id ≡ 8 → ok_at g k (mended_block g k b) ≡ true
  block_ok eight = go (ok_at g k b) refl
    where
      go : (w : Bool) → ok_at g k b ≡ w → ok_at g k (mended_block g k b) ≡ true
      go true e = rw (block_kept e) e
      go false e = rw (block_emptied e) (absent_ok eight)

  -- it holds data only where they stood in a well-formed block
  pub block_held : length g.id ≡ 8 → (d : List ℕ) → read_slot (mended_block g k b) ≡ held d → (ok_at g k b ≡ true) × (read_slot b ≡ held d)
  block_held eight d h = go (ok_at g k b) refl
    where
      go : (w : Bool) → ok_at g k b ≡ w → (ok_at g k b ≡ true) × (read_slot b ≡ held d)
      go true e = (e, ap read_slot (sym (block_kept e)) ∙ h)
      go false e =
          let q : absent ≡ held d = sym (slot_page g.id k eight absent short_absent) ∙ ap read_slot (sym (block_emptied e)) ∙ h in
          let z : ◌≡◌ {A = ℕ} 0 1 = cc in
          absurd (omega arith)

-- ---- the count

module _ (g : Head) (c : List ℕ) where
  -- where all are well formed there is none
  pub bad_none : (k n : ℕ) → ok_pages g k n c ≡ true → bad_pages g k n c ≡ 0
  unfolding bad_pages ok_pages
  bad_none k zero e = refl
  bad_none k (suc n) e =
      let b = both_hold (ok_at g k (page_at k c)) (ok_pages g (suc k) n c) e in
      let z : choose {A = ℕ} (ok_at g k (page_at k c)) 0 1 ≡ 0 = rw b.0 in
      omega (arith, bad_none (suc k) n b.1)

  -- and where there is none all are well formed
  pub none_bad : (k n : ℕ) → bad_pages g k n c ≡ 0 → ok_pages g k n c ≡ true
  unfolding bad_pages ok_pages
  none_bad k zero e = refl
  none_bad k (suc n) e = go (ok_at g k (page_at k c)) e (none_bad (suc k) n)
    where
      go : (w : Bool) → choose w 0 1 + bad_pages g (suc k) n c ≡ 0 → (bad_pages g (suc k) n c ≡ 0 → ok_pages g (suc k) n c ≡ true)
          → (w && ok_pages g (suc k) n c) ≡ true
      go true h r = r (omega arith)
      go false h r = absurd (omega arith)

-- ---- the bytes and the answer

abbrev pub mended : List ℕ → List ℕ
mended c = bytes_after c (mending c)

abbrev pub repair : List ℕ → Answer ℕ
repair c = answer_of (mending c)

-- where there is no head that can be relied on
module _ (c : List ℕ) (bad : has_head c ≡ false) where
  pub unmended : mended c ≡ c
  unfolding mending head_in
  unmended = rw bad

  pub unheaded : repair c ≡ refused 13
  unfolding mending head_in
  unheaded = rw bad

-- ---- a head that is well formed

module _ (c : List ℕ) (ok : has_head c ≡ true) where
  is_file : mended c ≡ mended_file c ok
  unfolding mending head_in
  is_file = rw ok (sym (file_is c ok))

  pub mended_count : repair c ≡ done (bad_pages (read_head c) 0 96 c)
  unfolding mending head_in
  mended_count = rw ok

  pub mended_size : length (mended c) ≡ 49664
  mended_size = ap length is_file ∙ file_size_lem c ok

  -- the head block is untouched
  pub mended_front : take 512 (mended c) ≡ take 512 c
  mended_front = ap (take 512) is_file ∙ file_front c ok

  -- page block k
  pub mended_page : (k : ℕ) → k < 96 → page_at k (mended c) ≡ mended_block (read_head c) k (page_at k c)
  mended_page k h = ap (page_at k) is_file ∙ file_page c ok k h

  long : 512 ≤ length (mended c)
  long = omega (arith, mended_size)

  pub mended_head : read_head (mended c) ≡ read_head c
  mended_head = same_head (mended c) c long mended_front

  pub mended_has_head : has_head (mended c) ≡ true
  unfolding has_head ok_head
  mended_has_head =
      let f : block_at 0 (mended c) ≡ block_at 0 c =
      block_here 0 (mended c) (omega (arith, mended_size)) ∙ mended_front ∙ sym (block_here 0 c (omega (arith, head_size_lem c ok))) in
      let h : ok_head c ≡ true = (both_hold (eqb (length c) 49664) (ok_head c) ok).1 in
      rw (eq-eqb (length (mended c)) 49664 mended_size, mended_head, f) h

  -- the result is well formed
  pub mended_ok : ok_book (mended c) ≡ true
  mended_ok =
      ok_is (mended c)
      ∙ rw (
        mended_has_head,
        mended_head,
        pages_all (read_head c) (mended c) 0 96 (λ k g h. rw (mended_page k (omega arith)) (block_ok (read_head c) k (page_at k c) (head_eight c ok))),
      )

  -- a page block that was well formed is untouched
  pub mended_kept : (k : ℕ) → k < 96 → ok_at (read_head c) k (page_at k c) ≡ true → page_at k (mended c) ≡ page_at k c
  mended_kept k h e = mended_page k h ∙ block_kept (read_head c) k (page_at k c) e

  -- one that was not is that of an absent page
  pub mended_absent : (k : ℕ) → k < 96 → ok_at (read_head c) k (page_at k c) ≡ false → page_at k (mended c) ≡ page_block (id_of c) k absent
  mended_absent k h e = mended_page k h ∙ block_emptied (read_head c) k (page_at k c) e

  -- a block that holds data held them before, and was well formed
  pub mended_held : (k : ℕ) (d : List ℕ) → k < 96 → read_slot (page_at k (mended c)) ≡ held d
      → (ok_at (read_head c) k (page_at k c) ≡ true) × (read_slot (page_at k c) ≡ held d)
  mended_held k d h e = block_held (read_head c) k (page_at k c) (head_eight c ok) d (ap read_slot (sym (mended_page k h)) ∙ e)

-- ---- a collection that is well formed

module _ (c : List ℕ) (ok : ok_book c ≡ true) where
  -- mending it changes nothing
  pub mended_same : mended c ≡ c
  mended_same =
      let h = ok_head_lem c ok in
      same_blocks (mended c) c (mended_size c h) (head_size_lem c h) (mended_front c h) (λ k l. mended_kept c h k l (ok_at_lem c ok k l))

  -- and answers 0
  pub mended_zero : repair c ≡ done 0
  mended_zero = mended_count c (ok_head_lem c ok) ∙ ap done (bad_none (read_head c) c 0 96 (ok_pages_lem c ok))

-- For the reader: mending again changes nothing
pub again_same : (c : List ℕ) → has_head c ≡ true → mended (mended c) ≡ mended c
again_same c ok = mended_same (mended c) (mended_ok c ok)

-- For the reader: and answers 0 then
pub again_zero : (c : List ℕ) → has_head c ≡ true → repair (mended c) ≡ done 0
again_zero c ok = mended_zero (mended c) (mended_ok c ok)

-- For the reader: the answer is 0 exactly of a collection that is well formed
pub zero_exact : (c : List ℕ) → (repair c ≡ done 0) ↔ (ok_book c ≡ true)
zero_exact c = ((λ e. go (has_head c) refl e), mended_zero c)
  where
    go : (w : Bool) → has_head c ≡ w → repair c ≡ done 0 → ok_book c ≡ true
    go true h e =
        let f : done (bad_pages (read_head c) 0 96 c) ≡ done 0 = sym (mended_count c h) ∙ e in
        let z : bad_pages (read_head c) 0 96 c ≡ 0 = cc in
        ok_is c ∙ rw (h, none_bad (read_head c) c 0 96 z)
    go false h e =
        let f : refused {A = ℕ} 13 ≡ done 0 = sym (unheaded c h) ∙ e in
        let z : ◌≡◌ {A = ℕ} 0 1 = cc in
        absurd (omega arith)

-- ---- said of the collection that is read

data_kept : (c : List ℕ) → has_head c ≡ true → (k : ℕ) (d : List ℕ) → k < 96 → get_or (read_pages 0 96 (mended c)) k absent ≡ held d
    → (ok_at (read_head c) k (page_at k c) ≡ true) × (read_slot (page_at k c) ≡ held d)
data_kept c ok k d h e = mended_held c ok k d h (sym (read_block (mended c) k h) ∙ e)

-- For the reader: mending brings in no data: what is held afterwards stood in a good block
pub nothing_invented : (c : List ℕ) → has_head c ≡ true → (t : ℕ) (ss : List Slot) → read_book (mended c) ≡ collecting t ss
    → (k : ℕ) (d : List ℕ) → k < 96 → get_or ss k absent ≡ held d → (ok_at (read_head c) k (page_at k c) ≡ true) × (read_slot (page_at k c) ≡ held d)
unfolding read_book book_for
nothing_invented c ok t ss e k d h f = go (eqb (read_head (mended c)).state 0) (eqb (read_head (mended c)).state 1) e
  where
    go : (v w : Bool) → choose v empty (choose w (collecting (read_head (mended c)).total (read_pages 0 96 (mended c))) disagree) ≡ collecting t ss
        → (ok_at (read_head c) k (page_at k c) ≡ true) × (read_slot (page_at k c) ≡ held d)
    go true w q = let z : ◌≡◌ {A = ℕ} 0 1 = cc in absurd (omega arith)
    go false true q =
        let s : ss ≡ read_pages 0 96 (mended c) = cc in
        data_kept c ok k d h (rw s at f)
    go false false q = let z : ◌≡◌ {A = ℕ} 0 1 = cc in absurd (omega arith)
