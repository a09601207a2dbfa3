-- The status line of a collection, and the numbers and states beside it, say what is so of its SET
-- of pages. Assumes nothing.
use mathlib.Core.Path.{◌≡◌, refl, sym, ap, ◌∙◌}
use mathlib.Core.Bool.{true}
use mathlib.Core.Logic.{◌⊎◌, inl, inr}
use mathlib.Core.List.{List, map}
use Prim.Native.Nat.{ℕ, ◌≤◌, ◌<◌}
use native.Mathlib.Omega.{arith}
use borrow.Author.Tests.{lt-ltb, le-ltb}
use lib.ListN.{length, take, get_or, length-map, get_or-map}
use lib.Seq.{get_or-take, length-take-le}
use Rattle.wire.proofs.Cases.{lt_or_le}
use Rattle.model.specs.Book.{Slot, absent, held, disputed, Book, empty, collecting, disagree, no_pages, slots_of}
use Rattle.model.specs.Take.{Page}
use Rattle.model.specs.Meaning.{SlotIs, BookIs}
use Rattle.model.specs.Complete.{Missing}
use Rattle.model.specs.Finish.{is_absent, is_held, is_disputed, lowest, count}
use Rattle.model.proofs.Valid.{ValidPages, Valid}
use Rattle.model.proofs.Slots.{length_none, get_or_none}
use Rattle.model.proofs.Counts.{lowest_has, lowest_lacks}
use Rattle.model.proofs.Complete.{is_absent_lem, not_absent}
use Rattle.model.proofs.Counted.{held_counted, missing_counted, disputed_counted}
use Rattle.block.specs.Block.{state_of}
use Rattle.book.specs.Read.{read_book, ok_book}
use Rattle.book.proofs.Judging.{judged_done}
use Rattle.book.proofs.Decode.{decoded_valid}
use Rattle.status.specs.Numbers.{numbers_of, states_of}
use Rattle.status.specs.Line.{first_field, pages_line, book_line, status_line}
use Rattle.status.specs.Sets.{FirstIs, Standing, LineIs, NumbersAre, StateIs, StatesAre}

-- ---- the pages below the total t

module _ (S : Page → Type 0) (t : ℕ) (ss : List Slot) (v : ValidPages t ss) (says : (k : ℕ) → SlotIs S k (get_or ss k absent)) where
  below : length (take t ss) ≡ t
  below = length-take-le t ss (omega (arith, v.most, v.slots))

  at : (k : ℕ) → k < t → get_or (take t ss) k absent ≡ get_or ss k absent
  at k h = get_or-take t ss k absent h

  -- an index below the lowest absent one has a page
  present : (k : ℕ) → k < t → k < lowest is_absent (take t ss) → Missing S k → ⊥
  present k h l m =
      let w = not_absent S k (get_or ss k absent) (sym (ap is_absent (at k h)) ∙ lowest_lacks is_absent (take t ss) k l) (says k) in
      m w.0 w.1 w.2

  -- the lowest absent one has none
  lacking : lowest is_absent (take t ss) < t → Missing S (lowest is_absent (take t ss))
  lacking h =
      let k : ℕ = lowest is_absent (take t ss) in
      is_absent_lem S k (get_or ss k absent) (sym (ap is_absent (at k h)) ∙ lowest_has is_absent (take t ss) (omega (arith, below))) (says k)

  first_says : FirstIs S t (first_field (lowest is_absent (take t ss)) t)
  unfolding first_field
  first_says = go (lt_or_le (lowest is_absent (take t ss)) t)
    where
      go : (lowest is_absent (take t ss) < t) ⊎ (t ≤ lowest is_absent (take t ss)) → FirstIs S t (first_field (lowest is_absent (take t ss)) t)
      go (inl h) = inl (lowest is_absent (take t ss), h, lacking h, (λ j l. present j (omega arith) l), rw (lt-ltb (lowest is_absent (take t ss)) t h))
      go (inr h) = inr ((λ k l. present k l (omega arith)), rw (le-ltb (lowest is_absent (take t ss)) t h))

  line_says : Standing S t (pages_line t (take t ss))
  unfolding pages_line
  line_says = record {
    held = count is_held (take t ss);
    missing = count is_absent (take t ss);
    disputed = count is_disputed (take t ss);
    first = first_field (lowest is_absent (take t ss)) t;
    held_are = held_counted S ss says t (omega (arith, v.most, v.slots));
    missing_are = missing_counted S ss says t (omega (arith, v.most, v.slots));
    disputed_are = disputed_counted S ss says t (omega (arith, v.most, v.slots));
    first_is = first_says;
    whole = refl;
  }

-- ---- the whole line

book_line_is : (S : Page → Type 0) (b : Book) → Valid b → BookIs S b → LineIs S (book_line b)
unfolding book_line
book_line_is S empty v m = inl (m, refl)
book_line_is S (collecting t ss) v m = inr (inr (t, (m.0, m.1), line_says S t ss v m.3))
book_line_is S disagree v m = inr (inl (m, refl))

-- the line of a collection that is what the set S says
pub status_line_is : (S : Page → Type 0) (c : List ℕ) → ok_book c ≡ true → BookIs S (read_book c) → LineIs S (status_line c)
unfolding status_line
status_line_is S c ok m = rw (judged_done c ok) (book_line_is S (read_book c) (decoded_valid c ok) m)

-- ---- the numbers and the states

pub numbers_are : (S : Page → Type 0) (b : Book) → Valid b → BookIs S b → NumbersAre S (numbers_of b)
unfolding numbers_of
numbers_are S empty v m = inl (m, refl)
numbers_are S (collecting t ss) v m =
    let h : t ≤ length ss = omega (arith, v.most, v.slots) in
    inr (inr (refl, (m.0, m.1), held_counted S ss m.3 t h, missing_counted S ss m.3 t h, disputed_counted S ss m.3 t h))
numbers_are S disagree v m = inr (inl (m, refl))

state_is : (S : Page → Type 0) (k : ℕ) (x : Slot) → SlotIs S k x → StateIs S k (state_of x)
unfolding state_of
state_is S k absent m = inl (refl, m)
state_is S k (held d) m = inr (inl (refl, (m.0, λ p q s t i j. m.1 p s i ∙ sym (m.1 q t j))))
state_is S k disputed m = inr (inr (refl, m))

-- the byte of index k is the state of slot k
state_at : (ss : List Slot) (k : ℕ) → get_or (map state_of ss) k 0 ≡ state_of (get_or ss k absent)
unfolding state_of
state_at ss k = get_or-map state_of ss k absent

none_state : (k : ℕ) → get_or (map state_of no_pages) k 0 ≡ 0
unfolding state_of
none_state k = state_at no_pages k ∙ ap state_of (get_or_none k)

pub states_are : (S : Page → Type 0) (b : Book) → Valid b → BookIs S b → StatesAre S (states_of b)
unfolding states_of slots_of
states_are S empty v m = record {
  number = length-map no_pages state_of ∙ length_none;
  each = λ k d h. inl (none_state k, λ p s i. m p s);
  none = λ k d. none_state k;
}
states_are S (collecting t ss) v m = record {
  number = length-map ss state_of ∙ v.slots;
  each = λ k d h. rw (state_at ss k) (state_is S k (get_or ss k absent) (m.3 k));
  none = λ k d. absurd (d.4 (m.1 d.0 d.2 ∙ sym (m.1 d.1 d.3)));
}
states_are S disagree v m = record {
  number = length-map no_pages state_of ∙ length_none;
  each = λ k d h. absurd (d m);
  none = λ k d. none_state k;
}
