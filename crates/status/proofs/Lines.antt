-- The lines, by the writes and the tests that the code makes. Assumes nothing.
use mathlib.Core.Path.{◌≡◌, refl, sym, ap, ◌∙◌}
use mathlib.Core.List.{List, ◌++◌}
use Prim.Native.Nat.{ℕ, ◌+◌, ◌-◌, ◌≤◌, ◌<◌}
use native.Mathlib.Omega.{arith}
use borrow.Author.Tests.{lt-ltb, le-ltb}
use lib.ListN.{length, take, replicate, length-replicate, length-append}
use Rattle.wire.specs.Over.{over}
use Rattle.wire.specs.Answer.{done, Answer, number_of, Kept}
use Rattle.wire.specs.Writing.{writing}
use Rattle.wire.specs.Refusal.{number}
use Rattle.wire.specs.declared.Refusal.{Refusal}
use Rattle.wire.proofs.Overs.{over_append, read_over}
use Rattle.digits.specs.Decimal.{decimal, line_feed, refused_line}
use Rattle.model.specs.Book.{Slot, Book, empty, collecting, disagree}
use Rattle.model.specs.Finish.{is_absent, lowest}
use Rattle.book.specs.Head.{read_head}
use Rattle.book.specs.Read.{read_pages, read_book, book_in}
use Rattle.book.specs.Tally.{in_state}
use Rattle.book.proofs.Judging.{judged_done, judge_passed, judge_err}
use Rattle.book.proofs.Decode.{ok_state, ok_head_lem, head_allowed, total_range, book_0, book_1, book_2}
use Rattle.book.proofs.Below.{in_absent, lowest_as, take_read}
use Rattle.status.specs.declared.standing.Numbers.{Numbers}
use Rattle.status.specs.Numbers.{below}
use Rattle.status.specs.Line.{field, pages_name, held_name, missing_name, disputed_name, first_name, no_first, empty_line, disagree_line, first_field, pages_line, book_line, status_line}

-- a promise for what is the same
pub written_as : (xs ys out out' : List ℕ) (r : Answer ℕ) → xs ≡ ys → Kept (writing 0 out (done ys)) out out' r → Kept (writing 0 out (done xs)) out out' r
written_as xs ys out out' r e w = rw e w

-- ---- a name and a number

-- from index at on, up to index r
abbrev pub Named : ℕ → List ℕ → ℕ → ℕ → List ℕ → List ℕ → Type 0
Named at name n r l x = (r ≡ at + length (field name n)) × (r ≤ at + length name + 3) × (x ≡ over at (field name n) l)

pub name_put : (at n k : ℕ) (name l x y : List ℕ) → at + length name + 3 ≤ length l → x ≡ over at name l
    → (k ≡ length (decimal n)) × (k ≤ 3) × (y ≡ over (at + length name) (decimal n) x) → Named at name n (at + length name + k) l y
unfolding field
name_put at n k name l x y room e (f, g, h) = (
  omega (arith, length-append name (decimal n)),
  omega arith,
  h ∙ ap (over (at + length name) (decimal n)) e ∙ over_append at name (decimal n) l (at + length name) refl (omega arith),
)

-- ---- the lowest missing page

abbrev pub First : ℕ → ℕ → ℕ → ℕ → List ℕ → List ℕ → Type 0
First at k t r l x = (r ≡ at + length (first_field k t)) × (r ≤ at + 10) × (x ≡ over at (first_field k t) l)

module _ (at k t : ℕ) (l : List ℕ) where
  pub first_put : (r : ℕ) (x : List ℕ) → k < t → Named at first_name k r l x → First at k t r l x
  unfolding first_field
  first_put r x h (e, f, g) = rw (lt-ltb k t h) (e, omega arith, g)

  pub none_put : (x : List ℕ) → t ≤ k → x ≡ over at no_first l → First at k t (at + 8) l x
  unfolding first_field
  none_put x h e = rw (le-ltb k t h) (refl, omega arith, e)

-- ---- a line that grows in a room of 64 bytes

-- n bytes, which are `done`, stand in front of x
record Grown (front : List ℕ) (n : ℕ) (x : List ℕ) : Type 0 where
  number : n ≡ length front
  stands : x ≡ over 0 front (replicate 64 0)

room_size : length (replicate {A = ℕ} 64 0) ≡ 64
room_size = length-replicate {A = ℕ} 64 0

grown_start : (bs x : List ℕ) (r m : ℕ) → (r ≡ 0 + length bs) × (r ≤ m) × (x ≡ over 0 bs (replicate 64 0)) → Grown bs r x
grown_start bs x r m (e, f, g) = record { number = omega arith; stands = g }

grown_on : (front bs x y : List ℕ) (n r m : ℕ) → m ≤ 64 → Grown front n x → (r ≡ n + length bs) × (r ≤ m) × (y ≡ over n bs x) → Grown (front ++ bs) r y
grown_on front bs x y n r m fits g (e, f, h) = record {
  number = omega (arith, g.number, length-append front bs);
  stands = h ∙ ap (over n bs) g.stands ∙ over_append 0 front bs (replicate 64 0) n (omega (arith, g.number)) (omega (arith, room_size));
}

-- the line feed ends it
grown_end : (front y x : List ℕ) (n : ℕ) → n + 1 ≤ 64 → Grown front n x → y ≡ over n line_feed x → take (n + 1 - 0) y ≡ front ++ line_feed
grown_end front y x n fits g h =
    let w = grown_on front line_feed x y n (n + 1) (n + 1) fits g (refl, omega arith, h) in
    let e : n + 1 - 0 ≡ length (front ++ line_feed) = omega (arith, w.number) in
    rw (e, w.stands) (read_over 0 (front ++ line_feed) (replicate 64 0) (omega (arith, w.number, room_size)))

-- ---- the pages below a total

pub pages_laid : (t h m d k a b i j f : ℕ) (x1 x2 x3 x4 x5 x6 : List ℕ) → Named 0 pages_name t a (replicate 64 0) x1 → Named a held_name h b x1 x2
    → Named b missing_name m i x2 x3 → Named i disputed_name d j x3 x4 → First j k t f x4 x5 → x6 ≡ over f line_feed x5
    → take (f + 1 - 0) x6 ≡ field pages_name t ++ field held_name h ++ field missing_name m ++ field disputed_name d ++ first_field k t ++ line_feed
pages_laid t h m d k a b i j f x1 x2 x3 x4 x5 x6 p q r s u e =
    let g1 = grown_start (field pages_name t) x1 a 9 (p.0, omega (arith, p.1), p.2) in
    let g2 = grown_on (field pages_name t) (field held_name h) x1 x2 a b 18 (omega arith) g1 (q.0, omega (arith, p.1, q.1), q.2) in
    let l2 : List ℕ = field pages_name t ++ field held_name h in
    let g3 = grown_on l2 (field missing_name m) x2 x3 b i 30 (omega arith) g2 (r.0, omega (arith, p.1, q.1, r.1), r.2) in
    let g4 = grown_on (l2 ++ field missing_name m) (field disputed_name d) x3 x4 i j 43 (omega arith) g3 (s.0, omega (arith, p.1, q.1, r.1, s.1), s.2) in
    let l4 : List ℕ = l2 ++ field missing_name m ++ field disputed_name d in
    let g5 = grown_on l4 (first_field k t) x4 x5 j f 53 (omega arith) g4 (u.0, omega (arith, p.1, q.1, r.1, s.1, u.1), u.2) in
    grown_end (l4 ++ first_field k t) x6 x5 f (omega (arith, p.1, q.1, r.1, s.1, u.1)) g5 e

-- by the numbers that the code took
pub numbered : (n : Numbers) (t f i : ℕ) (ss : List Slot) → n ≡ below t ss → i ≡ 0 → f ≡ lowest (in_state i) ss
    → field pages_name t ++ field held_name n.held ++ field missing_name n.missing ++ field disputed_name n.disputed ++ first_field f t ++ line_feed
    ≡ pages_line t ss
unfolding pages_line
numbered n t f i ss en ei ef =
    let e : f ≡ lowest is_absent ss = ef ∙ rw ei refl ∙ lowest_as (in_state 0) is_absent in_absent ss in
    rw (en, e)

-- ---- the line of a collection, by what the judge answered

module _ (c : List ℕ) where
  pub line_refused : (r : Refusal) (n : ℕ) → n ≡ number r → number r ≡ number_of (book_in c) → status_line c ≡ refused_line n
  unfolding status_line
  line_refused r n k e = rw (k, judge_err c (number r) e r refl)

  -- s is the state of a head that passed
  module _ (e : 0 ≡ number_of (book_in c)) (s : ℕ) (es : s ≡ (read_head c).state) where
    said : (b : Book) → read_book c ≡ b → status_line c ≡ book_line b
    unfolding status_line
    said b h = rw (judged_done c (judge_passed c 0 e refl), h)

    pub line_empty : s ≡ 0 → status_line c ≡ empty_line
    unfolding book_line
    line_empty f = said empty (book_0 c (sym es ∙ f))

    pub line_disagree : (s ≡ 0 → ⊥) → (s ≡ 1 → ⊥) → status_line c ≡ disagree_line
    unfolding book_line
    line_disagree f g =
        let two : (read_head c).state ≡ 2 = omega (arith, ok_state c (judge_passed c 0 e refl)) in
        said disagree (book_2 c two)

    pub line_pages : (t : ℕ) → s ≡ 1 → t ≡ (read_head c).total → status_line c ≡ pages_line t (read_pages 0 t c)
    unfolding book_line
    line_pages t f et =
        let r = total_range (read_head c).total (rw (sym es ∙ f) at (head_allowed c (ok_head_lem c (judge_passed c 0 e refl)))) in
        let b : read_book c ≡ collecting t (read_pages 0 96 c) = rw et (book_1 c (sym es ∙ f)) in
        said (collecting t (read_pages 0 96 c)) b ∙ ap (pages_line t) (take_read 0 96 t c (rw et r.1))
