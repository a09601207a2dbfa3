-- One collection joined into another, both well formed and of one document, for each way through
-- the code. Assumes nothing.
use mathlib.Core.Path.{◌≡◌, refl, sym, ap, ap₂, ◌∙◌, subst}
use mathlib.Core.List.{List}
use Prim.Native.Nat.{ℕ}
use lib.ListN.{length, get_or}
use lib.Seq.{ext_get_or}
use Rattle.model.specs.Book.{Slot, absent, collecting, disagree, no_pages, total_of}
use Rattle.model.specs.Take.{join_slot, join_slots, join_book}
use Rattle.model.proofs.Slots.{get_or_none, length_none, get_or_joins, length_joins, join_first}
use Rattle.model.proofs.Valid.{Short, short_none, data_none, Valid}
use Rattle.model.proofs.Changes.{join_empty, join_to_empty, join_disagree, join_to_disagree, join_one_total, join_two_totals}
use Rattle.book.specs.Head.{head_for, with_head, read_head}
use Rattle.book.specs.Encode.{state_no, encode}
use Rattle.book.specs.Read.{read_pages, read_book}
use Rattle.book.proofs.Decode.{decoded_valid, length_read, book_0, book_1, book_2}
use Rattle.book.proofs.Round.{Fits, fits_pages, encode_ok, encode_id, encode_read, encode_state, encode_total}
use Rattle.collection.specs.Private.{OneTotal}
use Rattle.collection.specs.Built.{Of}
use Rattle.collection.proofs.Laid.{laid_collecting}
use Rattle.collection.proofs.Taking.{of_bytes, of_eight, of_state, totalled}

-- no pages take on those of the other
none_joined : (us : List Slot) → length us ≡ 96 → join_slots no_pages us ≡ us
none_joined us l =
    ext_get_or absent (join_slots no_pages us) us (length_joins no_pages us ∙ length_none ∙ sym l)
    (λ k h. get_or_joins no_pages us k (length_none ∙ sym l) ∙ ap (λ (p : Slot). join_slot p (get_or us k absent)) (get_or_none k) ∙ join_first (get_or us k absent))

-- the result of joining o into c
abbrev pub Merged : List ℕ → List ℕ → List ℕ → List ℕ → Type 0
Merged id c o x = x ≡ encode id (join_book (read_book c) (read_book o))

module _ (id c o : List ℕ) (q : Of id c) (r : Of id o) (b : ℕ) (eb : b ≡ (read_head o).state) where
  pub theirs_empty : b ≡ 0 → Merged id c o c
  theirs_empty e = of_bytes id c q ∙ ap (encode id) (rw (book_0 o (sym eb ∙ e)) (sym (join_empty (read_book c))))

  pub theirs_disagree : (x : List ℕ) → b ≡ 2 → x ≡ encode id disagree → Merged id c o x
  theirs_disagree x e f = f ∙ ap (encode id) (rw (book_2 o (sym eb ∙ e)) (sym (join_disagree (read_book c))))

-- the other is collecting, with the total t; a is the state of ours
module _ (id c o : List ℕ) (q : Of id c) (r : Of id o) (s : (read_head o).state ≡ 1) (a : ℕ) (ea : a ≡ (read_head c).state) where
  pub ours_disagree : a ≡ 2 → Merged id c o c
  ours_disagree e = of_bytes id c q ∙ ap (encode id) (rw (book_2 c (sym ea ∙ e)) (sym (join_to_disagree (read_book o))))

  module _ (t : ℕ) (et : t ≡ (read_head o).total) where
    us : List Slot
    us = read_pages 0 96 o

    theirs : read_book o ≡ collecting t us
    unfolding us
    theirs = rw et (book_1 o s)

    -- the empty one: x has the total of o already
    module _ (x : List ℕ) (e : a ≡ 0) (f : x ≡ with_head (head_for id 1 t) c) where
      total_valid : Valid (collecting t no_pages)
      total_valid =
          let v : Valid (collecting t us) = subst Valid theirs (decoded_valid o r.0) in
          record { least = v.least; most = v.most; slots = length_none; short = data_none Short short_none; beyond = λ k h. get_or_none k }

      total_fits : Fits (collecting t no_pages)
      total_fits = fits_pages t no_pages length_none (data_none Short short_none)

      as_bytes : x ≡ encode id (collecting t no_pages)
      as_bytes = laid_collecting (totalled id c t x q (sym ea ∙ e) f)

      pub totalled_of : Of id x
      totalled_of =
          rw as_bytes (encode_ok id (of_eight id c q) (collecting t no_pages) total_valid, sym (encode_id id (of_eight id c q) (collecting t no_pages) total_fits))

      pub totalled_one : OneTotal x o
      unfolding state_no total_of
      totalled_one = (
        rw as_bytes (encode_state id (of_eight id c q) (collecting t no_pages) total_fits),
        s,
        rw as_bytes (encode_total id (of_eight id c q) (collecting t no_pages) total_fits) ∙ et,
      )

      pub totalled_merged : (y : List ℕ) → Merged id x o y → Merged id c o y
      unfolding us
      totalled_merged y h =
          let b : read_book x ≡ collecting t no_pages = rw as_bytes (encode_read id (of_eight id c q) (collecting t no_pages) total_fits) in
          let z : join_book (read_book x) (read_book o) ≡ join_book (read_book c) (read_book o) =
          ap₂ join_book b theirs ∙ join_one_total t t no_pages us refl ∙ ap (collecting t) (none_joined us (length_read 0 96 o))
          ∙ sym (ap₂ join_book (book_0 c (sym ea ∙ e)) theirs ∙ join_to_empty (collecting t us)) in
          h ∙ ap (encode id) z

    -- both collecting; ours has the total v
    module _ (j : a ≡ 0 → ⊥) (k : a ≡ 2 → ⊥) (v : ℕ) (ev : v ≡ (read_head c).total) where
      pub both_two : (x : List ℕ) → (v ≡ t → ⊥) → x ≡ encode id disagree → Merged id c o x
      both_two x e f =
          let ours : read_book c ≡ collecting v (read_pages 0 96 c) = rw ev (book_1 c (of_state id c q a ea j k)) in
          f ∙ ap (encode id) (sym (ap₂ join_book ours theirs ∙ join_two_totals v t (read_pages 0 96 c) us e))
