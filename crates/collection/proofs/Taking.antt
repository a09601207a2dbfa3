-- A page taken into well-formed bytes, for each way through the code. Assumes nothing.
use mathlib.Core.Path.{◌≡◌, sym, ap, ◌∙◌}
use mathlib.Core.List.{List}
use Prim.Native.Nat.{ℕ, ◌+◌, ◌*◌, ◌<◌}
use native.Mathlib.Omega.{arith}
use lib.ListN.{length, get_or}
use Rattle.model.specs.Book.{Slot, absent, held, data_of, empty, collecting, disagree, no_pages}
use Rattle.model.specs.Take.{join_slot, take_page, kind_of_slot}
use Rattle.model.proofs.Slots.{get_or_none, length_none, join_first}
use Rattle.model.proofs.Valid.{Short, short_none, data_none, data_join}
use Rattle.model.proofs.Changes.{offered, take_first, take_set, take_other_total, take_disagree, kind_first, kind_set, kind_other_total, kind_disagree}
use Rattle.block.specs.Block.{with_page}
use Rattle.book.specs.Head.{head_for, with_head, read_head}
use Rattle.book.specs.Encode.{state_no, head_of, encode}
use Rattle.book.specs.Read.{read_pages, read_book}
use Rattle.book.proofs.Decode.{decoded, ok_id, ok_state, book_0, book_1, book_2}
use Rattle.model.specs.Book.{total_of, slots_of}
use Rattle.collection.specs.Private.{page, Fits, BlockOf, slot_at, Slotted, Became}
use Rattle.collection.specs.Built.{Of}
use Rattle.collection.proofs.Laid.{Laid, laid_ok, laid_slot, laid_set, laid_head, laid_collecting, of_laid}

-- ---- what a well-formed collection is

module _ (id c : List ℕ) (o : Of id c) where
  -- the bytes of what it says
  pub of_bytes : c ≡ encode id (read_book c)
  of_bytes = decoded c o.0 ∙ ap (λ (j : List ℕ). encode j (read_book c)) (sym o.1)

  pub of_eight : length id ≡ 8
  of_eight = ap length o.1 ∙ ok_id c o.0

  pub of_empty : (read_head c).state ≡ 0 → Laid id 0 0 no_pages c
  unfolding encode head_of state_no total_of slots_of
  of_empty e = record { eight = of_eight; slots = length_none; short = data_none Short short_none; bytes = of_bytes ∙ ap (encode id) (book_0 c e) }

  -- neither empty nor in state 2
  pub of_state : (s : ℕ) → s ≡ (read_head c).state → (s ≡ 0 → ⊥) → (s ≡ 2 → ⊥) → (read_head c).state ≡ 1
  of_state s e n m = omega (arith, ok_state c o.0)

  pub of_collecting : (read_head c).state ≡ 1 → Laid id 1 (read_head c).total (read_pages 0 96 c) c
  of_collecting e = rw (← e) (of_laid id c o)

-- the head of an empty collection written with a total
pub totalled : (id c : List ℕ) (t : ℕ) (x : List ℕ) → Of id c → (read_head c).state ≡ 0 → x ≡ with_head (head_for id 1 t) c → Laid id 1 t no_pages x
totalled id c t x o e f = laid_head (of_empty id c o e) 1 t x f

-- ---- page i, of total t, with data d

module _ (id c : List ℕ) (i t : ℕ) (d : List ℕ) (o : Of id c) (f : Fits i t d) where
  low : i < 96
  low = omega (arith, f.0, f.1)

  -- totals disagree already
  pub taken_disagree : (s : ℕ) → s ≡ (read_head c).state → s ≡ 2 → Became id i (take_page (page i t d) (read_book c)) c 3
  taken_disagree s es e =
      let b : read_book c ≡ disagree = book_2 c (sym es ∙ e) in
      record {
        answer = rw b (sym (kind_disagree (page i t d)));
        bytes = of_bytes id c o ∙ ap (encode id) (rw b (sym (take_disagree (page i t d))));
      }

  -- the first page: x has the total already
  module _ (s : ℕ) (es : s ≡ (read_head c).state) (e : s ≡ 0) (x : List ℕ) (g : x ≡ with_head (head_for id 1 t) c) (at : ℕ) (place : at ≡ 512 + 512 * i) where
    pub first_block : BlockOf id at i x
    first_block = laid_ok (totalled id c t x o (sym es ∙ e) g) i at low place

    pub taken_first : (y : List ℕ) (r : ℕ) → Slotted id at i (join_slot (slot_at at x) (held d)) x y r → Became id i (take_page (page i t d) (read_book c)) y r
    unfolding kind_of_slot data_of
    taken_first y r p =
        let l = totalled id c t x o (sym es ∙ e) g in
        let b : read_book c ≡ empty = book_0 c (sym es ∙ e) in
        let z : slot_at at x ≡ absent = laid_slot l i at low place ∙ get_or_none i in
        let w : join_slot (slot_at at x) (held d) ≡ held d = rw z (join_first (held d)) in
        let h : y ≡ with_page at id i (held d) x = p.bytes ∙ ap (λ (v : Slot). with_page at id i v x) w in
        let n : r ≡ 1 = p.answer ∙ ap kind_of_slot w in
        record {
          answer = rw b (n ∙ sym (kind_first (page i t d) low));
          bytes =
              laid_collecting (laid_set l i at low place (held d) y f.2 h) ∙ ap (encode id) (rw b (sym (take_first (page i t d))));
        }

  -- a further page: u is the total
  module _ (s : (read_head c).state ≡ 1) where
    ss : List Slot
    ss = read_pages 0 96 c

    pub taken_other : (y : List ℕ) (u : ℕ) → u ≡ (read_head c).total → (u ≡ t → ⊥) → y ≡ encode id disagree → Became id i (take_page (page i t d) (read_book c)) y 3
    unfolding ss
    taken_other y u eu k e =
        let b : read_book c ≡ collecting u ss = rw eu (book_1 c s) in
        record {
          answer = rw b (sym (kind_other_total (page i t d) u ss (λ q. k (sym q))));
          bytes = e ∙ ap (encode id) (rw b (sym (take_other_total (page i t d) u ss (λ q. k (sym q)))));
        }

    module _ (at : ℕ) (place : at ≡ 512 + 512 * i) where
      pub next_block : BlockOf id at i c
      next_block = laid_ok (of_collecting id c o s) i at low place

      pub taken_next : (y : List ℕ) (r u : ℕ) → u ≡ (read_head c).total → u ≡ t → Slotted id at i (join_slot (slot_at at c) (held d)) c y r
          → Became id i (take_page (page i t d) (read_book c)) y r
      unfolding data_of ss
      taken_next y r u eu same_total p =
          let v : ℕ = (read_head c).total in
          let one : t ≡ v = sym same_total ∙ eu in
          let l = of_collecting id c o s in
          let b : read_book c ≡ collecting v ss = book_1 c s in
          let w : join_slot (slot_at at c) (held d) ≡ offered ss i d = ap (λ (v : Slot). join_slot v (held d)) (laid_slot l i at low place) in
          let h : y ≡ with_page at id i (offered ss i d) c = p.bytes ∙ ap (λ (v : Slot). with_page at id i v c) w in
          let k : Short (data_of (offered ss i d)) = data_join Short short_none (get_or ss i absent) (held d) (l.short i) f.2 in
          record {
            answer = rw b (p.answer ∙ ap kind_of_slot w ∙ sym (kind_set (page i t d) v ss (omega (arith, low, l.slots)) one));
            bytes = laid_collecting (laid_set l i at low place (offered ss i d) y k h) ∙ ap (encode id) (rw b (sym (take_set (page i t d) v ss one)));
          }
