-- A set of pages has one meaning; taking a page adds it to the set; joining unites the sets.
use mathlib.Core.Path.{◌≡◌, refl, sym, ap, ap₂, ◌∙◌, subst}
use mathlib.Core.Bool.{Bool, true, false}
use mathlib.Core.Logic.{◌⊎◌, inl, inr, ⊎_elim}
use mathlib.Core.List.{List}
use Prim.Native.Nat.{ℕ, ◌<◌}
use native.Mathlib.Omega.{arith}
use lib.ListN.{length, get_or, set, length-set}
use lib.Seq.{ext_get_or, get_or-set_same, get_or-set_other}
use lib.Dec.{eqb}
use borrow.Author.Tests.{eqb-true, eqb-false}
use Rattle.wire.specs.Answer.{choose}
use Rattle.lend.specs.Same.{same}
use Rattle.lend.proofs.Sames.{same_eq, same_false}
use Rattle.model.specs.Book.{Slot, absent, held, disputed, Book, empty, collecting, disagree, no_pages}
use Rattle.model.specs.Take.{Page, join_slot, join_slots, take_page, join_book}
use Rattle.model.specs.Meaning.{SlotIs, BookIs}
use Rattle.model.proofs.Slots.{get_or_none, length_none, get_or_joins, length_joins, set_joins}

-- the pages of one set or the other
abbrev pub either : (Page → Type 0) → (Page → Type 0) → Page → Type 0
either S T p = S p ⊎ T p

-- the set of one page
abbrev pub only : Page → Page → Type 0
only p q = q ≡ p

-- the collection of one page
unfoldable pub single : Page → Book
single p = collecting p.total (set no_pages p.index (held p.contents))

-- ---- slots

-- a set of pages says one thing of an index
pub slot_one : (S : Page → Type 0) (k : ℕ) (x y : Slot) → SlotIs S k x → SlotIs S k y → x ≡ y
slot_one S k absent absent a b = refl
slot_one S k absent (held e) a b = absurd (a b.0.0 b.0.1 b.0.2)
slot_one S k absent disputed a b = absurd (a b.0 b.2 b.4)
slot_one S k (held d) absent a b = absurd (b a.0.0 a.0.1 a.0.2)
slot_one S k (held d) (held e) a b = ap held (sym (a.1 a.0.0 a.0.1 a.0.2) ∙ b.1 a.0.0 a.0.1 a.0.2)
slot_one S k (held d) disputed a b = absurd (b.6 (a.1 b.0 b.2 b.4 ∙ sym (a.1 b.1 b.3 b.5)))
slot_one S k disputed absent a b = absurd (b a.0 a.2 a.4)
slot_one S k disputed (held e) a b = absurd (a.6 (b.1 a.0 a.2 a.4 ∙ sym (b.1 a.1 a.3 a.5)))
slot_one S k disputed disputed a b = refl

module _ (S T : Page → Type 0) (k : ℕ) where
  slot_both : (d e : List ℕ) (w : Bool) → same d e ≡ w → SlotIs S k (held d) → SlotIs T k (held e) → SlotIs (either S T) k (choose w (held d) disputed)
  slot_both d e true f a b =
      ((a.0.0, inl a.0.1, a.0.2), λ p m i. ⊎_elim (λ s. a.1 p s i) (λ t. b.1 p t i ∙ sym (same_eq d e f)) m)
  slot_both d e false f a b = (
    a.0.0,
    b.0.0,
    inl a.0.1,
    inr b.0.1,
    a.0.2,
    b.0.2,
    λ q. same_false d e f (sym (a.1 a.0.0 a.0.1 a.0.2) ∙ q ∙ b.1 b.0.0 b.0.1 b.0.2),
  )

  -- joining two slots unites the sets
  pub slot_join : (x y : Slot) → SlotIs S k x → SlotIs T k y → SlotIs (either S T) k (join_slot x y)
  unfolding join_slot
  slot_join absent absent a b = λ p m i. ⊎_elim (λ s. a p s i) (λ t. b p t i) m
  slot_join absent (held e) a b = ((b.0.0, inr b.0.1, b.0.2), λ p m i. ⊎_elim (λ s. absurd (a p s i)) (λ t. b.1 p t i) m)
  slot_join absent disputed a b = (b.0, b.1, inr b.2, inr b.3, b.4, b.5, b.6)
  slot_join (held d) absent a b = ((a.0.0, inl a.0.1, a.0.2), λ p m i. ⊎_elim (λ s. a.1 p s i) (λ t. absurd (b p t i)) m)
  slot_join (held d) (held e) a b = slot_both d e (same d e) refl a b
  slot_join (held d) disputed a b = (b.0, b.1, inr b.2, inr b.3, b.4, b.5, b.6)
  slot_join disputed y a b = (a.0, a.1, inl a.2, inl a.3, a.4, a.5, a.6)

-- ---- collections

-- a set of pages has one meaning
pub book_one : (S : Page → Type 0) (a b : Book) → BookIs S a → BookIs S b → a ≡ b
book_one S empty empty m n = refl
book_one S empty (collecting u us) m n = absurd (m n.0.0 n.0.1)
book_one S empty disagree m n = absurd (m n.0 n.2)
book_one S (collecting t ss) empty m n = absurd (n m.0.0 m.0.1)
book_one S (collecting t ss) (collecting u us) m n =
    ap₂ collecting (sym (m.1 m.0.0 m.0.1) ∙ n.1 m.0.0 m.0.1)
    (ext_get_or absent ss us (m.2 ∙ sym n.2) (λ i h. slot_one S i (get_or ss i absent) (get_or us i absent) (m.3 i) (n.3 i)))
book_one S (collecting t ss) disagree m n = absurd (n.4 (m.1 n.0 n.2 ∙ sym (m.1 n.1 n.3)))
book_one S disagree empty m n = absurd (n m.0 m.2)
book_one S disagree (collecting u us) m n = absurd (m.4 (n.1 m.0 m.2 ∙ sym (n.1 m.1 m.3)))
book_one S disagree disagree m n = refl

-- two sets with the same pages say the same of an index
pub slot_iff : (S T : Page → Type 0) → ((p : Page) → S p → T p) → ((p : Page) → T p → S p) → (k : ℕ) (x : Slot) → SlotIs S k x → SlotIs T k x
slot_iff S T f g k absent m = λ p t i. m p (g p t) i
slot_iff S T f g k (held d) m = ((m.0.0, f m.0.0 m.0.1, m.0.2), λ p t i. m.1 p (g p t) i)
slot_iff S T f g k disputed m = (m.0, m.1, f m.0 m.2, f m.1 m.3, m.4, m.5, m.6)

-- only membership counts: two sets with the same pages have the same meaning
pub book_iff : (S T : Page → Type 0) → ((p : Page) → S p → T p) → ((p : Page) → T p → S p) → (b : Book) → BookIs S b → BookIs T b
book_iff S T f g empty m = λ p t. m p (g p t)
book_iff S T f g (collecting t ss) m =
    ((m.0.0, f m.0.0 m.0.1), (λ p u. m.1 p (g p u)), m.2, λ k. slot_iff S T f g k (get_or ss k absent) (m.3 k))
book_iff S T f g disagree m = (m.0, m.1, f m.0 m.2, f m.1 m.3, m.4)

module _ (S T : Page → Type 0) where
  joined : (t u : ℕ) (ss us : List Slot) (w : Bool) → eqb t u ≡ w → BookIs S (collecting t ss) → BookIs T (collecting u us)
      → BookIs (either S T) (choose w (collecting t (join_slots ss us)) disagree)
  joined t u ss us true e m n = (
    (m.0.0, inl m.0.1),
    (λ p a. ⊎_elim (λ s. m.1 p s) (λ v. n.1 p v ∙ sym (eqb-true t u e)) a),
    length_joins ss us ∙ m.2,
    λ k. subst (SlotIs (either S T) k) (sym (get_or_joins ss us k (m.2 ∙ sym n.2))) (slot_join S T k (get_or ss k absent) (get_or us k absent) (m.3 k) (n.3 k)),
  )
  joined t u ss us false e m n =
      (m.0.0, n.0.0, inl m.0.1, inr n.0.1, λ q. eqb-false t u e (sym (m.1 m.0.0 m.0.1) ∙ q ∙ n.1 n.0.0 n.0.1))

  -- joining unites the sets
  pub book_join : (a b : Book) → BookIs S a → BookIs T b → BookIs (either S T) (join_book a b)
  unfolding join_book
  book_join empty b m n = book_iff T (either S T) (λ p t. inr t) (λ p a. ⊎_elim (λ s. absurd (m p s)) (λ t. t) a) b n
  book_join (collecting t ss) empty m n =
      book_iff S (either S T) (λ p s. inl s) (λ p a. ⊎_elim (λ s. s) (λ t. absurd (n p t)) a) (collecting t ss) m
  book_join (collecting t ss) (collecting u us) m n = joined t u ss us (eqb t u) refl m n
  book_join (collecting t ss) disagree m n = (n.0, n.1, inr n.2, inr n.3, n.4)
  book_join disagree b m n = (m.0, m.1, inl m.2, inl m.3, m.4)

-- ---- one page

at_single : (p : Page) → p.index < 96 → (k : ℕ) (w : Bool) → eqb k p.index ≡ w → SlotIs (only p) k (get_or (set no_pages p.index (held p.contents)) k absent)
at_single p h k true e =
    let i : k ≡ p.index = eqb-true k p.index e in
    let g : get_or (set no_pages p.index (held p.contents)) k absent ≡ held p.contents =
    ap (λ (n : ℕ). get_or (set no_pages p.index (held p.contents)) n absent) i ∙ get_or-set_same no_pages p.index (held p.contents) absent (omega (arith, length_none)) in
    subst (SlotIs (only p) k) (sym g) ((p, refl, sym i), λ q s j. ap (λ (r : Page). r.contents) s)
at_single p h k false e =
    let n : k ≡ p.index → ⊥ = eqb-false k p.index e in
    let g : get_or (set no_pages p.index (held p.contents)) k absent ≡ absent =
    get_or-set_other no_pages p.index k (held p.contents) absent n ∙ get_or_none k in
    subst (SlotIs (only p) k) (sym g) (λ q s j. n (sym (sym (ap (λ (r : Page). r.index) s) ∙ j)))

-- the collection of one page is the meaning of that page alone
pub book_single : (p : Page) → p.index < 96 → BookIs (only p) (single p)
unfolding single
book_single p h = (
  (p, refl),
  (λ q s. ap (λ (r : Page). r.total) s),
  length-set no_pages p.index (held p.contents) ∙ length_none,
  λ k. at_single p h k (eqb k p.index) refl,
)

-- a slot for each index
abbrev pub Sized : Book → Type 0
Sized empty = Unit {0}
Sized (collecting t ss) = length ss ≡ 96
Sized disagree = Unit {0}

-- a collection that is the meaning of a set has a slot for each index
pub book_sized : (S : Page → Type 0) (b : Book) → BookIs S b → Sized b
book_sized S empty m = tt
book_sized S (collecting t ss) m = m.2
book_sized S disagree m = tt

-- an offer is a join with the collection of that page alone
pub take_join : (p : Page) (b : Book) → p.index < 96 → Sized b → take_page p b ≡ join_book b (single p)
unfolding take_page join_book single
take_join p empty h m = refl
take_join p (collecting t ss) h m = go (eqb p.total t) (eqb t p.total) refl refl
  where
    go : (v w : Bool) → eqb p.total t ≡ v → eqb t p.total ≡ w
        → choose v (collecting t (set ss p.index (join_slot (get_or ss p.index absent) (held p.contents)))) disagree
        ≡ choose w (collecting t (join_slots ss (set no_pages p.index (held p.contents)))) disagree
    go true true e f = ap (collecting t) (set_joins ss p.index (held p.contents) m h)
    go true false e f = absurd (eqb-false t p.total f (sym (eqb-true p.total t e)))
    go false true e f = absurd (eqb-false p.total t e (sym (eqb-true t p.total f)))
    go false false e f = refl
take_join p disagree h m = refl

-- taking a page adds it to the set
pub book_take : (S : Page → Type 0) (p : Page) (b : Book) → p.index < 96 → BookIs S b → BookIs (either S (only p)) (take_page p b)
book_take S p b h m = subst (BookIs (either S (only p))) (sym (take_join p b h (book_sized S b m))) (book_join S (only p) b (single p) m (book_single p h))
