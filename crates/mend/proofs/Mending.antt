-- A mended collection block by block, and the loop that makes it. Assumes nothing.
use mathlib.Core.Path.{◌≡◌, refl, sym, ap, ◌∙◌}
use mathlib.Core.Bool.{Bool, true, false}
use mathlib.Core.Logic.{⊎_elim}
use mathlib.Core.List.{List, ◌++◌}
use Prim.Native.Nat.{ℕ, zero, suc, ◌+◌, ◌*◌, ◌≤◌, ◌<◌}
use native.Mathlib.Omega.{arith}
use native.Mathlib.Numerals.{add-one}
use lib.ListN.{length, take, drop, replicate, length-append, length-take, length-drop, take-append-drop, get_or-append}
use lib.Seq.{take_at, drop-append-add, drop-append-le, take-append-le}
use Rattle.wire.specs.Answer.{choose, done, refused, number_of, Kept}
use Rattle.wire.specs.Over.{over}
use Rattle.wire.specs.Refusal.{number}
use Rattle.wire.specs.declared.Refusal.{Refusal}
use Rattle.wire.proofs.Cases.{lt_or_le}
use Rattle.model.specs.Book.{absent, data_of}
use Rattle.block.specs.Block.{page_block, with_page}
use Rattle.block.proofs.Lengths.{length_block}
use Rattle.block.proofs.Reading.{block_here, block_length}
use Rattle.block.proofs.Writing.{with_page_lem}
use Rattle.book.specs.Head.{Head, read_head, has_head, head_in}
use Rattle.book.specs.Read.{id_of, page_at, ok_at}
use Rattle.book.proofs.Judging.{head_passed, head_err}
use Rattle.book.proofs.Decode.{head_size_lem, head_eight, head_copy}
use Rattle.book.proofs.Places.{anew_size, anew_here, anew_front, anew_other, same_blocks}
use Rattle.mend.specs.Mend.{mended_block, mended_pages, bad_pages, mending}

-- ---- the head is what the first block says

front_says : (h r : List ℕ) → 512 ≤ length h → read_head (h ++ r) ≡ read_head h
unfolding read_head
front_says h r l =
    rw (
      drop-append-le 4 h r (omega arith),
      take-append-le 8 (drop 4 h) r (simp length-drop (omega arith)),
      get_or-append h r 0 3 (omega arith),
      get_or-append h r 0 12 (omega arith),
    )

-- two files with the same first block have the same head
pub same_head : (a b : List ℕ) → 512 ≤ length a → take 512 a ≡ take 512 b → read_head a ≡ read_head b
same_head a b l e =
    let k : length (take 512 a) ≡ 512 = simp length-take (omega arith) in
    ap read_head (sym (take-append-drop 512 a))
    ∙ front_says (take 512 a) (drop 512 a) (omega arith)
    ∙ ap read_head e
    ∙ sym (front_says (take 512 b) (drop 512 b) (omega (arith, k, ap length e)))
    ∙ ap read_head (take-append-drop 512 b)

-- ---- n mended blocks, from index k on

pub short_absent : length (data_of absent) ≤ 480
unfolding data_of
short_absent = omega arith

module _ (h : Head) (c : List ℕ) where
  -- one block more at the end
  pub bad_more : (k n m : ℕ) → m ≡ k + n → bad_pages h k (suc n) c ≡ bad_pages h k n c + choose (ok_at h m (page_at m c)) 0 1
  unfolding bad_pages
  bad_more k zero m e = let q : m ≡ k = omega arith in rw q (omega arith)
  bad_more k (suc n) m e = omega (arith, bad_more (suc k) n m (omega arith))

  module _ (size : length c ≡ 49664) (eight : length h.id ≡ 8) where
    -- a mended block has 512 bytes
    pub length_mended : (k : ℕ) → k < 96 → length (mended_block h k (page_at k c)) ≡ 512
    unfolding mended_block
    length_mended k i = go (ok_at h k (page_at k c))
      where
        go : (w : Bool) → length (choose w (page_at k c) (page_block h.id k absent)) ≡ 512
        go true = block_length (512 + 512 * k) c (omega arith)
        go false = length_block h.id k absent eight short_absent

    pub length_mends : (k n : ℕ) → k + n ≤ 96 → length (mended_pages h k n c) ≡ 512 * n
    unfolding mended_pages
    length_mends k zero i = refl
    length_mends k (suc n) i =
        length-append (mended_block h k (page_at k c)) (mended_pages h (suc k) n c)
        ∙ omega (arith, length_mended k (omega arith), length_mends (suc k) n (omega arith))

    -- block i of them
    pub mends_at : (k n i p m : ℕ) → i < n → k + n ≤ 96 → p ≡ 512 * i → m ≡ k + i
        → take 512 (drop p (mended_pages h k n c)) ≡ mended_block h m (page_at m c)
    unfolding mended_pages
    mends_at k zero i p m j l e d = absurd (omega arith)
    mends_at k (suc n) zero p m j l e d =
        let x : m ≡ k = omega arith in
        let y : p ≡ 0 = omega arith in
        rw (x, y) (take_at (mended_block h k (page_at k c)) (mended_pages h (suc k) n c) 512 (length_mended k (omega arith)))
    mends_at k (suc n) (suc i) p m j l e d =
        let b : List ℕ = mended_block h k (page_at k c) in
        let x : p ≡ length b + 512 * i = omega (arith, length_mended k (omega arith)) in
        rw (x, drop-append-add b (mended_pages h (suc k) n c) (512 * i)) (mends_at (suc k) n i (512 * i) m (omega arith) (omega arith) refl (omega arith))

-- ---- the whole file

module _ (c : List ℕ) (ok : has_head c ≡ true) where
  -- the head, and the page blocks mended
  pub mended_file : List ℕ
  mended_file = take 512 c ++ mended_pages (read_head c) 0 96 c

  head_long : length (take 512 c) ≡ 512
  head_long = simp length-take (omega (arith, head_size_lem c ok))

  pub file_is : mended_file ≡ take 512 c ++ mended_pages (read_head c) 0 96 c
  unfolding mended_file
  file_is = refl

  pub file_size_lem : length mended_file ≡ 49664
  unfolding mended_file
  file_size_lem =
      length-append (take 512 c) (mended_pages (read_head c) 0 96 c)
      ∙ omega (arith, head_long, length_mends (read_head c) c (head_size_lem c ok) (head_eight c ok) 0 96 (omega arith))

  pub file_front : take 512 mended_file ≡ take 512 c
  unfolding mended_file
  file_front = take_at (take 512 c) (mended_pages (read_head c) 0 96 c) 512 head_long

  -- page block k
  pub file_page : (k : ℕ) → k < 96 → page_at k mended_file ≡ mended_block (read_head c) k (page_at k c)
  unfolding mended_file
  file_page k h =
      let m : List ℕ = mended_pages (read_head c) 0 96 c in
      let e : 512 + 512 * k ≡ length (take 512 c) + 512 * k = omega (arith, head_long) in
      block_here (512 + 512 * k) (take 512 c ++ m) (omega (arith, file_size_lem))
      ∙ ap (λ (n : ℕ). take 512 (drop n (take 512 c ++ m))) e
      ∙ ap (take 512) (drop-append-add (take 512 c) m (512 * k))
      ∙ mends_at (read_head c) c (head_size_lem c ok) (head_eight c ok) 0 96 k (512 * k) k h (omega arith) refl (omega arith)

-- ---- one block

-- it counts for at most one
pub one_most : (c : List ℕ) (k r : ℕ) → r ≡ choose (ok_at (read_head c) k (page_at k c)) 0 1 → r ≤ 1
one_most c k r e = go (ok_at (read_head c) k (page_at k c)) e
  where
    go : (w : Bool) → r ≡ choose w 0 1 → r ≤ 1
    go true q = omega arith
    go false q = omega arith

-- ---- the loop

-- the page blocks before index k are mended, n of them were not well formed, and the rest is as it
-- was
pub record Mending (c : List ℕ) (k n : ℕ) (x : List ℕ) : Type 0 where
  pub most : k ≤ 96
  pub few : n ≤ k
  pub size : length x ≡ 49664
  pub number : n ≡ bad_pages (read_head c) 0 k c
  pub front : take 512 x ≡ take 512 c
  pub done : (j : ℕ) → j < k → page_at j x ≡ mended_block (read_head c) j (page_at j c)
  pub left : (j : ℕ) → k ≤ j → j < 96 → page_at j x ≡ page_at j c

module _ (c : List ℕ) (ok : has_head c ≡ true) where
  pub mending_none : Mending c 0 0 c
  unfolding bad_pages
  mending_none = record {
    most = omega arith;
    few = omega arith;
    size = head_size_lem c ok;
    number = refl;
    front = refl;
    done = λ j h. absurd (omega arith);
    left = λ j h g. refl;
  }

  pub mending_end : (k n : ℕ) (x : List ℕ) → 96 ≤ k → Mending c k n x → (n ≡ bad_pages (read_head c) 0 96 c) × (x ≡ take 512 c ++ mended_pages (read_head c) 0 96 c)
  mending_end k n x h m =
      let e : k ≡ 96 = omega (arith, m.most) in (
        m.number ∙ rw e,
        same_blocks x (mended_file c ok) m.size (file_size_lem c ok) (m.front ∙ sym (file_front c ok)) (λ j g. m.done j (omega arith) ∙ sym (file_page c ok j g))
            ∙ file_is c ok,
      )

  module _ (k n : ℕ) (x : List ℕ) (m : Mending c k n x) (h : k < 96) where
    same_judge : ok_at (read_head x) k (page_at k x) ≡ ok_at (read_head c) k (page_at k c)
    same_judge =
        rw (same_head x c (omega (arith, m.size)) m.front, m.left k (omega arith) h)

    counted : (r : ℕ) → r ≡ choose (ok_at (read_head c) k (page_at k c)) 0 1 → n + r ≡ bad_pages (read_head c) 0 (k + 1) c
    counted r e = rw add-one (omega (arith, m.number, bad_more (read_head c) c 0 k k (omega arith)))

    -- the block of this turn was well formed
    kept : ok_at (read_head c) k (page_at k c) ≡ true → Mending c (k + 1) (n + 0) x
    unfolding mended_block
    kept w = record {
      most = omega arith;
      few = omega (arith, m.few);
      size = m.size;
      number = counted 0 (rw w);
      front = m.front;
      done = λ j g. ⊎_elim (λ lt. m.done j lt) (λ le. here j (omega (arith, g, le))) (lt_or_le j k);
      left = λ j g l. m.left j (omega arith) l;
    }
      where
        here : (j : ℕ) → j ≡ k → page_at j x ≡ mended_block (read_head c) j (page_at j c)
        here j e = rw (e, w) (m.left k (omega arith) h)

    -- it was not, and the block of an absent page stands there now
    made : (y : List ℕ) → ok_at (read_head c) k (page_at k c) ≡ false → y ≡ with_page (512 + 512 * k) (id_of c) k absent x → Mending c (k + 1) (n + 1) y
    unfolding mended_block
    made y w e = record {
      most = omega arith;
      few = omega (arith, m.few);
      size = ap length z ∙ anew_size x b k at m.size one h refl;
      number = counted 1 (rw w);
      front = ap (take 512) z ∙ anew_front x b k at m.size one h refl ∙ m.front;
      done = λ j g. ⊎_elim (λ lt. other j (omega (arith, lt, h)) (λ q. omega (arith, q, lt)) ∙ m.done j lt) (λ le. here j (omega (arith, g, le))) (lt_or_le j k);
      left = λ j g l. other j l (λ q. omega (arith, q, g)) ∙ m.left j (omega arith) l;
    }
      where
        at : ℕ
        at = 512 + 512 * k

        b : List ℕ
        b = page_block (id_of c) k absent

        one : length b ≡ 512
        one = length_block (id_of c) k absent (head_eight c ok) short_absent

        z : y ≡ over at b x
        z = e ∙ with_page_lem at (id_of c) k absent x (head_eight c ok) short_absent

        other : (j : ℕ) → j < 96 → (j ≡ k → ⊥) → page_at j y ≡ page_at j x
        other j g q = ap (page_at j) z ∙ anew_other x b k at m.size one h refl j g q

        here : (j : ℕ) → j ≡ k → page_at j y ≡ mended_block (read_head c) j (page_at j c)
        here j q = rw (q, w) (ap (page_at k) z ∙ anew_here x b k at m.size one h refl)

    -- a turn
    pub mending_on : (r : ℕ) (y id : List ℕ) → id ≡ over 0 (id_of c) (replicate 8 0) → r ≡ choose (ok_at (read_head x) k (page_at k x)) 0 1
        → y ≡ choose (ok_at (read_head x) k (page_at k x)) x (with_page (512 + 512 * k) id k absent x) → Mending c (k + 1) (n + r) y
    mending_on r y id i e f = go (ok_at (read_head c) k (page_at k c)) refl (rw same_judge at e) (rw (head_copy c ok id i, same_judge) at f)
      where
        go : (w : Bool) → ok_at (read_head c) k (page_at k c) ≡ w → r ≡ choose w 0 1 → y ≡ choose w x (with_page (512 + 512 * k) (id_of c) k absent x) → Mending c (k + 1) (n + r) y
        go true w a b = rw (a, b) (kept w)
        go false w a b = rw a (made y w b)

-- ---- the whole, by what the judge of the head answered

module _ (c : List ℕ) where
  pub mend_refused : (r : Refusal) → number r ≡ number_of (head_in c) → Kept (mending c) c c (refused (number r))
  unfolding mending
  mend_refused r e = rw (head_err c (number r) e r refl) (record { answer = refl; bytes = refl })

  pub mend_made : 0 ≡ number_of (head_in c) → (m : ℕ) (x : List ℕ)
      → (m ≡ bad_pages (read_head c) 0 96 c) × (x ≡ take 512 c ++ mended_pages (read_head c) 0 96 c) → Kept (mending c) c x (done m)
  unfolding mending head_in
  mend_made e m x (g, h) = rw (head_passed c 0 e refl) (record { answer = ap done g; bytes = h })
