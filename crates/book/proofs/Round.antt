-- The bytes of a valid collection are well formed and say that collection, so there is one for
-- each. Assumes nothing.
use mathlib.Core.Path.{◌≡◌, refl, sym, ap, ap₂, ◌∙◌}
use mathlib.Core.Bool.{true}
use mathlib.Core.Logic.{⊎_elim}
use mathlib.Core.List.{List, [], ◌∷◌, ◌++◌, append_assoc}
use Prim.Native.Nat.{ℕ, ◌+◌, ◌*◌, ◌≤◌, ◌<◌}
use native.Mathlib.Omega.{arith}
use borrow.Author.Tests.{eq-eqb, le-leb, lt-ltb, le-ltb}
use lib.ListN.{length, take, drop, get_or, replicate, length-append}
use lib.Seq.{take_at, drop_at, drop-drop, get_or_at, ext_get_or}
use Rattle.wire.specs.Answer.{done}
use Rattle.wire.specs.Number.{big_endian}
use Rattle.wire.proofs.Cases.{lt_or_le}
use Rattle.lend.proofs.Sames.{same_refl}
use Rattle.crc.specs.Crc.{crc32}
use Rattle.model.specs.Book.{Slot, absent, Book, empty, collecting, disagree, no_pages, total_of, slots_of}
use Rattle.model.specs.Finish.{is_absent}
use Rattle.block.specs.Block.{sealed, page_block}
use Rattle.block.specs.Read.{block_at, read_slot, ok_page}
use Rattle.block.proofs.Reading.{block_here}
use Rattle.block.proofs.Round.{slot_page, ok_page_lem}
use Rattle.book.specs.Head.{Head, head_for, head_body, head_block, read_head, ok_total, ok_head, has_head}
use Rattle.book.specs.Encode.{state_no, head_of, pages, encode}
use Rattle.book.specs.Read.{id_of, page_at, read_pages, book_for, read_book, ok_at, ok_pages, book_in, ok_book}
use Rattle.model.proofs.Slots.{get_or_none, length_none}
use Rattle.model.proofs.Valid.{EachData, Short, short_none, data_none, Valid}
use Rattle.book.proofs.Heads.{length_headblock}
use Rattle.book.proofs.Pages.{length_pages, pages_at}
use Rattle.book.proofs.Judging.{ok_is, judged_done}
use Rattle.book.proofs.Decode.{length_read, read_block, pages_all, decoded}

-- ---- a head block, with anything behind it

module _ (h : Head) (r : List ℕ) where
  tail : List ℕ
  tail = replicate 495 0 ++ (big_endian 4 (crc32 (head_body h)) ++ r)

  regroup : (f i zs e : List ℕ) → f ++ i ++ (h.total ∷ []) ++ zs ++ e ++ r ≡ f ++ (i ++ (h.total ∷ (zs ++ (e ++ r))))
  regroup f i zs e = simp append_assoc

  shape : head_block h ++ r ≡ (0x49 ∷ 0x4D ∷ 1 ∷ h.state ∷ []) ++ (h.id ++ (h.total ∷ tail))
  unfolding head_block sealed head_body tail
  shape = regroup (0x49 ∷ 0x4D ∷ 1 ∷ h.state ∷ []) h.id (replicate 495 0) (big_endian 4 (crc32 (head_body h)))

  -- it is read back
  pub head_read : length h.id ≡ 8 → read_head (head_block h ++ r) ≡ h
  unfolding read_head
  head_read eight =
      rw (shape, take_at h.id (h.total ∷ tail) 8 eight, get_or_at h.id h.total tail 0 8 eight)

-- ---- what a collection has to have

-- a slot for each index, with data that a block can hold: enough to be read back
pub record Fits (b : Book) : Type 0 where
  pub slots : length (slots_of b) ≡ 96
  pub short : EachData Short (slots_of b)

none_fits : (b : Book) → no_pages ≡ slots_of b → Fits b
none_fits b e = record { slots = rw (← e) length_none; short = rw (← e) (data_none Short short_none) }

pub fits_pages : (t : ℕ) (ss : List Slot) → length ss ≡ 96 → EachData Short ss → Fits (collecting t ss)
unfolding slots_of
fits_pages t ss l f = record { slots = l; short = f }

pub valid_fits : (b : Book) → Valid b → Fits b
valid_fits empty v = none_fits empty (unfold slots_of in refl)
valid_fits (collecting t ss) v = fits_pages t ss v.slots v.short
valid_fits disagree v = none_fits disagree (unfold slots_of in refl)

pub valid_total : (b : Book) → Valid b → ok_total (state_no b) (total_of b) ≡ true
unfolding ok_total state_no total_of
valid_total empty v = refl
valid_total (collecting t ss) v = rw (le-leb 1 t v.least, le-leb t 96 v.most)
valid_total disagree v = refl

pub valid_beyond : (b : Book) → Valid b → (k : ℕ) → total_of b ≤ k → get_or (slots_of b) k absent ≡ absent
unfolding slots_of total_of
valid_beyond empty v k h = get_or_none k
valid_beyond (collecting t ss) v k h = v.beyond k h
valid_beyond disagree v k h = get_or_none k

book_for_lem : (id : List ℕ) (b : Book) → book_for (head_of id b) (slots_of b) ≡ b
unfolding book_for head_of state_no total_of slots_of
book_for_lem id empty = refl
book_for_lem id (collecting t ss) = refl
book_for_lem id disagree = refl

-- ---- the bytes of a collection

module _ (id : List ℕ) (eight : length id ≡ 8) (b : Book) (f : Fits b) where
  head_long : length (head_block (head_of id b)) ≡ 512
  unfolding head_of
  head_long = length_headblock (head_for id (state_no b) (total_of b)) eight

  pub encode_length : length (encode id b) ≡ 49664
  unfolding encode
  encode_length =
      length-append (head_block (head_of id b)) (pages id 0 (slots_of b))
      ∙ omega (arith, head_long, length_pages id eight 0 (slots_of b) f.short, f.slots)

  pub encode_head : read_head (encode id b) ≡ head_of id b
  unfolding encode head_of
  encode_head = head_read (head_for id (state_no b) (total_of b)) (pages id 0 (slots_of b)) eight

  pub encode_id : id_of (encode id b) ≡ id
  unfolding head_of
  encode_id = ap (λ (h : Head). h.id) encode_head

  pub encode_total : (read_head (encode id b)).total ≡ total_of b
  unfolding head_of
  encode_total = ap (λ (h : Head). h.total) encode_head

  pub encode_state : (read_head (encode id b)).state ≡ state_no b
  unfolding head_of
  encode_state = ap (λ (h : Head). h.state) encode_head

  pub encode_front : take 512 (encode id b) ≡ head_block (head_of id b)
  unfolding encode
  encode_front = take_at (head_block (head_of id b)) (pages id 0 (slots_of b)) 512 head_long

  pub encode_pages : drop 512 (encode id b) ≡ pages id 0 (slots_of b)
  unfolding encode
  encode_pages = drop_at (head_block (head_of id b)) (pages id 0 (slots_of b)) 512 head_long

  -- block k is that of slot k
  pub encode_page : (k : ℕ) → k < 96 → page_at k (encode id b) ≡ page_block id k (get_or (slots_of b) k absent)
  encode_page k h =
      block_here (512 + 512 * k) (encode id b) (omega (arith, encode_length))
      ∙ ap (take 512) (sym (drop-drop (512 * k) 512 (encode id b)) ∙ ap (drop (512 * k)) encode_pages)
      ∙ pages_at id eight 0 k (512 * k) k (slots_of b) (omega (arith, f.slots)) f.short refl (omega arith)

  pub encode_slot : (k : ℕ) → k < 96 → read_slot (page_at k (encode id b)) ≡ get_or (slots_of b) k absent
  encode_slot k h = ap read_slot (encode_page k h) ∙ slot_page id k eight (get_or (slots_of b) k absent) (f.short k)

  slots_read : read_pages 0 96 (encode id b) ≡ slots_of b
  slots_read =
      ext_get_or absent (read_pages 0 96 (encode id b)) (slots_of b) (length_read 0 96 (encode id b) ∙ sym f.slots)
      (λ k h.
      let i : k < 96 = omega (arith, h, length_read 0 96 (encode id b)) in
      read_block (encode id b) k i ∙ encode_slot k i)

  -- it is read back
  pub encode_read : read_book (encode id b) ≡ b
  unfolding read_book
  encode_read = rw (encode_head, slots_read) (book_for_lem id b)

-- ---- the bytes of a valid collection

module _ (id : List ℕ) (eight : length id ≡ 8) (b : Book) (v : Valid b) where
  f : Fits b
  f = valid_fits b v

  at_ok : (k : ℕ) → k < 96 → ok_at (head_of id b) k (page_block id k (get_or (slots_of b) k absent)) ≡ true
  unfolding ok_at head_of
  at_ok k h =
      let p : Slot = get_or (slots_of b) k absent in
      let fine : ok_page id k (page_block id k p) ≡ true = ok_page_lem id k eight p (f.short k) in
      ⊎_elim (λ in-it. rw (lt-ltb k (total_of b) in-it, fine))
      (λ past.
      let e : read_slot (page_block id k p) ≡ absent = slot_page id k eight p (f.short k) ∙ valid_beyond b v k past in
      rw (le-ltb k (total_of b) past, e, fine) (unfold is_absent in refl))
      (lt_or_le k (total_of b))

  pages_ok : ok_pages (head_of id b) 0 96 (encode id b) ≡ true
  pages_ok = pages_all (head_of id b) (encode id b) 0 96 (λ k g h. rw (encode_page id eight b f k (omega arith)) (at_ok k (omega arith)))

  pub encode_has_head : has_head (encode id b) ≡ true
  unfolding has_head ok_head head_of
  encode_has_head =
      let front : block_at 0 (encode id b) ≡ head_block (head_of id b) = block_here 0 (encode id b) (omega (arith, encode_length id eight b f)) ∙ encode_front id eight b f in
      rw (eq-eqb (length (encode id b)) 49664 (encode_length id eight b f), encode_head id eight b f, front, valid_total b v, same_refl (head_block (head_of id b)))

  -- it is well formed
  pub encode_ok : ok_book (encode id b) ≡ true
  encode_ok = ok_is (encode id b) ∙ rw (encode_has_head, encode_head id eight b f, pages_ok)

  -- so the judge lets it through, as the collection that it is
  pub encode_judged : book_in (encode id b) ≡ done b
  encode_judged = judged_done (encode id b) encode_ok ∙ ap done (encode_read id eight b f)

-- ---- one collection for well-formed bytes, and one sequence of bytes for a collection

-- For the reader: the bytes say which document and which collection they are of
pub one_book : (id jd : List ℕ) (a b : Book) → length id ≡ 8 → length jd ≡ 8 → Fits a → Fits b → encode id a ≡ encode jd b → (id ≡ jd) × (a ≡ b)
one_book id jd a b h k v w e =
    (sym (encode_id id h a v) ∙ ap id_of e ∙ encode_id jd k b w, sym (encode_read id h a v) ∙ ap read_book e ∙ encode_read jd k b w)

-- For the reader: two well-formed files that say the same of one document are the same bytes
pub one_file : (a b : List ℕ) → ok_book a ≡ true → ok_book b ≡ true → id_of a ≡ id_of b → read_book a ≡ read_book b → a ≡ b
one_file a b h k e f = decoded a h ∙ ap₂ encode e f ∙ sym (decoded b k)
