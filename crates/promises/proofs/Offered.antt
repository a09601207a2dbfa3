-- Offer can be called on any bytes: how a page stands after it is one of three, and what it refuses
-- has a name. Assumes nothing.
use Prim.Native.Nat.{ℕ, ◌<◌, ◌≤◌}
use mathlib.Core.Path.{◌≡◌, refl, sym, ap, ap₂, ◌∙◌, subst}
use mathlib.Core.Logic.{◌⊎◌, inl, inr}
use mathlib.Core.Bool.{Bool, true, false, ◌&&◌}
use mathlib.Core.List.{List}
use native.Mathlib.Omega.{arith}
use lib.Dec.{eqb, leb}
use lib.ListN.{length, get_or}
use Rattle.std.specs.Prelude.{Result, Ok, Err}
use Rattle.wire.specs.Answer.{choose, Answer, done, refused_at, refused, then, demand, Got, got, answer_of, leaves}
use Rattle.wire.specs.declared.Refusal.{Refusal}
use Rattle.wire.proofs.Cases.{eq_or_ne, then_done, then_passed, passed, got_value, done_value, not_done}
use Rattle.wire.proofs.Placeless.{Placeless, placeless, placeless_then}
use Rattle.lend.specs.Same.{same}
use Rattle.frame.specs.Frame as F
use Rattle.frame.proofs.Allowed.{place_only, size_only}
use Rattle.frame.proofs.Placeless.{frame_placeless}
use Rattle.model.specs.Book.{Book, Slot, absent, held, disputed, empty, collecting, disagree}
use Rattle.model.specs.Take.{Page, take_page, join_slot, kind_of, kind_of_slot}
use Rattle.model.proofs.Changes.{kind_offered, kind_first, kind_set, kind_other_total, kind_disagree}
use Rattle.book.specs.Read.{read_book, book_for, read_pages, book_in, ok_pages, id_of}
use Rattle.book.specs.Head.{read_head, head_in}
use Rattle.book.proofs.Decode.{length_read}
use Rattle.book.proofs.Judging.{book_placeless}
use Rattle.collection.specs.Collection.{good_page, taking, offering}
use Rattle.collection.specs.Answer.{told_kind, stands_number}
use Rattle.collection.specs.declared.Stands.{Stands}
use Rattle.collection.specs.declared.Stands.TheVariants as stands

-- how a page stands, by its number
stands_of : (k : ℕ) → 1 ≤ k → k ≤ 3 → (s : Stands) × (stands_number s ≡ k)
stands_of k l h = go (eq_or_ne k 1) (eq_or_ne k 2)
  where
    go : (k ≡ 1) ⊎ (k ≡ 1 → ⊥) → (k ≡ 2) ⊎ (k ≡ 2 → ⊥) → (s : Stands) × (stands_number s ≡ k)
    go (inl e) q = (stands.Held, sym e)
    go (inr n) (inl e) = (stands.Disputed, sym e)
    go (inr n) (inr m) = (stands.Disagree, omega (arith, l, h, n, m))

-- a book that was read has 96 slots
abbrev Long : Book → Type 0
Long empty = Unit
Long (collecting t ss) = length ss ≡ 96
Long disagree = Unit

taken_stands : (p : Page) (b : Book) → p.index < 96 → Long b → (s : Stands) × (stands_number s ≡ kind_of p.index (take_page p b))
taken_stands p empty low l = (stands.Held, sym (kind_first p low))
taken_stands p disagree low l = (stands.Disagree, sym (kind_disagree p))
taken_stands p (collecting t ss) low l = go (eq_or_ne p.total t)
  where
    go : (p.total ≡ t) ⊎ (p.total ≡ t → ⊥) → (s : Stands) × (stands_number s ≡ kind_of p.index (take_page p (collecting t ss)))
    go (inr n) = (stands.Disagree, sym (kind_other_total p t ss n))
    go (inl e) =
        let o = kind_offered (get_or ss p.index absent) p.contents in
        let s = stands_of _ o.0 (omega (arith, o.1)) in
        (s.0, s.1 ∙ sym (kind_set p t ss (omega (arith, low, l)) e))

module _ (raw : List ℕ) where
  frame_low : (f : F.Frame) (next : ℕ) → F.frame_of raw ≡ got f next → f.index < 96
  unfolding F.frame_of F.judged
  frame_low f next e =
      let (k, a, e0, e1) = then_passed (F.start_of raw) _ e in
      let (n, b, e2, e3) = then_passed (F.numbers_at raw a) _ e1 in
      let (u, c, e4, e5) = then_passed (F.data_at raw b n.len) _ e3 in
      let p = passed (F.in_place k n.index n.total) _ 8 e5 in
      let q = passed (F.in_size n.total n.len) _ 9 p.1 in
      let i : n.index ≡ f.index = ap (λ (x : F.Frame). x.index) (got_value q.1) in
      omega (arith, i, (place_only k n.index n.total p.0).0, (size_only n.total n.len q.0).0)

  page_low : (id : List ℕ) (p : Page) (next : ℕ) → good_page id raw ≡ got p next → p.index < 96
  unfolding good_page
  page_low id p next e =
      let (f, n, e0, e1) = then_passed (F.frame_of raw) _ e in
      let q = passed (eqb f.kind 0x44 && same id (F.id_of raw)) _ 12 e1 in
      let i : f.index ≡ p.index = ap (λ (x : Page). x.index) (got_value q.1) in
      omega (arith, i, frame_low f n e0)

book_long : (c : List ℕ) (b : Book) → book_in c ≡ done b → Long b
unfolding book_in read_book book_for
book_long c b e =
    let (h, e0, e1) = then_done (head_in c) _ e in
    let p = passed (ok_pages h 0 96 c) _ 13 e1 in
    subst Long (done_value p.1) (go (eqb (read_head c).state 0) (eqb (read_head c).state 1))
  where
    go : (t u : Bool) → Long (choose t empty (choose u (collecting (read_head c).total (read_pages 0 96 c)) disagree))
    go true u = tt
    go false true = length_read 0 96 c
    go false false = tt

good_named : (id s : List ℕ) → Placeless (good_page id s)
unfolding good_page
good_named id s = placeless_then (F.frame_of s) _ (frame_placeless s) (λ v. search placeless)

pub offer_answer : (c raw : List ℕ) → (r : Result Stands Refusal) × (told_kind r ≡ answer_of (offering c raw))
unfolding offering
offer_answer c raw = go (book_in c) (book_placeless c) (book_long c) (good_page (id_of c) raw) (good_named (id_of c) raw) (page_low raw (id_of c))
  where
    go : (g : Answer Book) → Placeless g → ((b : Book) → g ≡ done b → Long b) → (h : Got Page) → Placeless h → ((p : Page) (next : ℕ) → h ≡ got p next → p.index < 96)
        → (r : Result Stands Refusal) × (told_kind r ≡ answer_of (then g (λ b. taking (id_of c) b h)))
    go (refused_at e k) p l h q m = (Err p.named.0, ap₂ refused_at p.named.1 (sym p.none))
    go (done b) p l (refused_at e k) q m = (Err q.named.0, ap₂ refused_at q.named.1 (sym q.none))
    go (done b) p l (done (pg, next)) q m = let s = taken_stands pg b (m pg next refl) (l b refl) in (Ok s.0, ap done s.1)
