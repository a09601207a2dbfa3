-- The answers of open, offer and join, for each way through the code. Assumes nothing.
use mathlib.Core.Path.{◌≡◌, refl, sym, ap, ◌∙◌, subst}
use mathlib.Core.Bool.{Bool, true, false}
use mathlib.Core.List.{List}
use Prim.Native.Nat.{ℕ, ◌+◌, ◌-◌}
use borrow.Author.Tests.{eq-eqb, ne_eqb}
use lib.ListN.{length, take, drop, replicate}
use Rattle.wire.specs.Over.{over}
use Rattle.wire.specs.Refusal.{number}
use Rattle.wire.specs.declared.Refusal.{Refusal}
use Rattle.wire.specs.declared.Span.{Span}
use Rattle.wire.specs.Span.{part_at}
use Rattle.lend.specs.Same.{same}
use Rattle.lend.proofs.Sames.{same_eq}
use Rattle.model.specs.Book.{empty}
use Rattle.model.specs.Take.{take_page, join_book}
use Rattle.book.specs.Head.{head_for, with_head}
use Rattle.book.specs.Encode.{encode, with_blank}
use Rattle.book.specs.Read.{id_of, read_book, book_in}
use Rattle.book.proofs.Judging.{judged_done, judge_passed, judge_err}
use Rattle.book.proofs.Decode.{ok_head_lem, head_copy}
use Rattle.book.proofs.Changes.{made_empty}
use Rattle.wire.specs.Answer.{done, refused, number_of, got, Kept}
use Rattle.collection.specs.Collection.{good_page, opening, offering, joining}
use Rattle.collection.specs.Private.{page, Became}
use Rattle.collection.specs.Built.{Of}
use Rattle.collection.proofs.Good.{cut}

-- ---- open

module _ (id c : List ℕ) where
  pub open_id : (length id ≡ 8 → ⊥) → Kept (opening id c) c c (refused 19)
  unfolding opening
  open_id n = rw (ne_eqb (length id) 8 n) (record { answer = refl; bytes = refl })

  pub open_size : length id ≡ 8 → (length c ≡ 49664 → ⊥) → Kept (opening id c) c c (refused 11)
  unfolding opening
  open_size e n = rw (eq-eqb (length id) 8 e, ne_eqb (length c) 49664 n) (record { answer = refl; bytes = refl })

  pub open_done : (x y : List ℕ) → length id ≡ 8 → length c ≡ 49664 → x ≡ with_head (head_for id 0 0) c → y ≡ with_blank id x → Kept (opening id c) c y (done tt)
  unfolding opening
  open_done x y eight size ex ey =
      let z : y ≡ encode id empty = ey ∙ ap (with_blank id) ex ∙ made_empty id eight c size in
      rw (eq-eqb (length id) 8 eight, eq-eqb (length c) 49664 size) (record { answer = refl; bytes = z })

-- ---- a collection that passed its judge, and the copy of its id

module _ (c id : List ℕ) (e : 0 ≡ number_of (book_in c)) (i : id ≡ over 0 (id_of c) (replicate 8 0)) where
  pub passed_of : Of id c
  passed_of = (judge_passed c 0 e refl, head_copy c (ok_head_lem c (judge_passed c 0 e refl)) id i)

  passed_book : book_in c ≡ done (read_book c)
  passed_book = judged_done c (judge_passed c 0 e refl)

  -- ---- offer

  module _ (s : List ℕ) where
    good_of : good_page id s ≡ good_page (id_of c) s
    good_of = ap (λ (j : List ℕ). good_page j s) passed_of.1

    pub offer_refused : (r : Refusal) → refused (number r) ≡ good_page id s → Kept (offering c s) c c (refused (number r))
    unfolding offering
    offer_refused r g = rw (passed_book, ← good_of, ← g) (record { answer = refl; bytes = refl })

    module _ (index total : ℕ) (at : Span) (g : got (page index total (part_at s at)) (at.start + at.len + 4) ≡ good_page id s) where
      pub offer_done : (x : List ℕ) (kind : ℕ) → Became id index (take_page (page index total (take (at.start + at.len - at.start) (drop at.start s))) (read_book c)) x kind
          → Kept (offering c s) c x (done kind)
      unfolding offering
      offer_done x kind b =
          let h : Became (id_of c) index (take_page (page index total (part_at s at)) (read_book c)) x kind =
          subst (λ (j : List ℕ). Became j index (take_page (page index total (part_at s at)) (read_book c)) x kind) passed_of.1 (rw (cut at.start at.len s) at b) in
          rw (passed_book, ← good_of, ← g) (record { answer = ap done h.answer; bytes = h.bytes })

  -- ---- join: o passed too, and was compared

  module _ (o : List ℕ) (f : 0 ≡ number_of (book_in o)) (j : List ℕ) (u : Bool) (h : j ≡ id_of o) (k : u ≡ same id j) where
    other_book : book_in o ≡ done (read_book o)
    other_book = judged_done o (judge_passed o 0 f refl)

    compared : u ≡ same (id_of c) (id_of o)
    compared = k ∙ rw (passed_of.1, h)

    pub join_two : u ≡ false → Kept (joining c o) c c (refused 12)
    unfolding joining
    join_two q = rw (passed_book, other_book, ← compared, q) (record { answer = refl; bytes = refl })

    pub join_done : (x : List ℕ) → u ≡ true → x ≡ encode id (join_book (read_book c) (read_book o)) → Kept (joining c o) c x (done tt)
    unfolding joining
    join_done x q w = rw (passed_book, other_book, ← compared, q) (record { answer = refl; bytes = w ∙ rw passed_of.1 })

-- another, which has this id
pub same_id : (o id j : List ℕ) (u : Bool) → j ≡ id_of o → u ≡ same id j → u ≡ true → id ≡ id_of o
same_id o id j u h k q = same_eq id j (sym k ∙ q) ∙ h

-- ---- one that the judge refused

module _ (c : List ℕ) (r : Refusal) (e : number r ≡ number_of (book_in c)) where
  pub offer_bad : (s : List ℕ) → Kept (offering c s) c c (refused (number r))
  unfolding offering
  offer_bad s = rw (judge_err c (number r) e r refl) (record { answer = refl; bytes = refl })

  pub join_bad : (o : List ℕ) → Kept (joining c o) c c (refused (number r))
  unfolding joining
  join_bad o = rw (judge_err c (number r) e r refl) (record { answer = refl; bytes = refl })

pub join_other_bad : (c o : List ℕ) (r : Refusal) → 0 ≡ number_of (book_in c) → number r ≡ number_of (book_in o) → Kept (joining c o) c c (refused (number r))
unfolding joining
join_other_bad c o r e f = rw (judged_done c (judge_passed c 0 e refl), judge_err o (number r) f r refl) (record { answer = refl; bytes = refl })
