-- Finish answers exactly what is so of the set: each of the answers rules out the others, so each
-- "if" of Complete.antt is an "exactly when".
use mathlib.Core.Path.{◌≡◌, refl, sym, ap, ap₂, ◌∙◌, subst}
use mathlib.Core.Logic.{◌⊎◌, inl, inr, ◌↔◌}
use mathlib.Core.List.{List, [], append-nil, flatten}
use Prim.Native.Nat.{ℕ, ◌≤◌, ◌<◌}
use native.Mathlib.Omega.{arith}
use lib.ListN.{length, take}
use lib.Seq.{ext_get_or, length-take-le}
use borrow.Author.Tests.{lt-ltb, le-ltb}
use Rattle.wire.proofs.Cases.{lt_or_le}
use Rattle.model.specs.Book.{Slot, data_of, Book, empty, collecting, disagree, no_pages}
use Rattle.model.specs.Take.{Page, take_page}
use Rattle.model.specs.Meaning.{BookIs}
use Rattle.model.specs.Complete.{OneTotal, TotalsDisagree, Undisputed, DisputedAt, Complete, FirstDisputed, FirstMissing, FinishIs}
use Rattle.wire.specs.Answer.{Answer, done, refused_at}
use Rattle.model.specs.Finish.{is_absent, is_disputed, lowest, joined, finish_pages, finish_book}
use Rattle.model.proofs.Valid.{Valid, Short, short_none, data_take}
use Rattle.model.proofs.Counts.{joined_most}
use Rattle.model.proofs.Complete.{finish_is}

-- ---- no two answers of one set

module _ (S : Page → Type 0) where
  totals_clash : (t : ℕ) → TotalsDisagree S → OneTotal S t → ⊥
  totals_clash t w o = w.4 (o.1 w.0 w.2 ∙ sym (o.1 w.1 w.3))

  versions_clash : (k : ℕ) → DisputedAt S k → Undisputed S → ⊥
  versions_clash k w o = w.6 (o w.0 w.1 w.2 w.3 (w.4 ∙ sym w.5))

  totals_same : (t u : ℕ) → OneTotal S t → OneTotal S u → t ≡ u
  totals_same t u a b = sym (a.1 a.0.0 a.0.1) ∙ b.1 a.0.0 a.0.1

  totals_missing : (k : ℕ) → TotalsDisagree S → FirstMissing S k → ⊥
  totals_missing k w (inl (e, n)) = n w.0 w.2
  totals_missing k w (inr o) = totals_clash o.0 w o.1

  disputed_missing : (j k : ℕ) → FirstDisputed S j → FirstMissing S k → ⊥
  disputed_missing j k d (inl (e, n)) = n d.1.0.0 d.1.0.1
  disputed_missing j k d (inr o) = versions_clash j d.3 o.2

  complete_missing : (d : List ℕ) (k : ℕ) → Complete S d → FirstMissing S k → ⊥
  complete_missing d k c (inl (e, n)) = n c.named.0.0 c.named.0.1
  complete_missing d k c (inr (t, o, v, h, m, r)) =
      let w = c.each k (omega (arith, totals_same t c.pages o c.named)) in
      m w.0 w.1 w.2

  -- the data of a complete set are one
  pub complete_one : (d e : List ℕ) → Complete S d → Complete S e → d ≡ e
  complete_one d e a b =
      let q : a.pages ≡ b.pages = totals_same a.pages b.pages a.named b.named in
      sym a.in_order
      ∙ ap flatten (ext_get_or [] a.parts b.parts (a.number ∙ q ∙ sym b.number) (λ k h.
      let x = a.each k (omega (arith, a.number)) in
      let y = b.each k (omega (arith, a.number)) in
      sym x.3 ∙ a.agreed x.0 y.0 x.1 y.1 (x.2 ∙ sym y.2) ∙ y.3))
      ∙ b.in_order

  -- there is one lowest index that is disputed
  pub disputed_one : (j k : ℕ) → FirstDisputed S j → FirstDisputed S k → j ≡ k
  disputed_one j k a b = go (lt_or_le j k) (lt_or_le k j)
    where
      go : (j < k) ⊎ (k ≤ j) → (k < j) ⊎ (j ≤ k) → j ≡ k
      go (inl h) l = absurd (b.4 j h a.3)
      go (inr h) (inl l) = absurd (a.4 k l b.3)
      go (inr h) (inr l) = omega arith

  -- and one lowest index without a page
  pub missing_one : (j k : ℕ) → FirstMissing S j → FirstMissing S k → j ≡ k
  missing_one j k (inl (e, n)) (inl (f, m)) = e ∙ sym f
  missing_one j k (inl (e, n)) (inr o) = absurd (n o.1.0.0 o.1.0.1)
  missing_one j k (inr o) (inl (e, n)) = absurd (n o.1.0.0 o.1.0.1)
  missing_one j k (inr a) (inr b) = go (lt_or_le j k) (lt_or_le k j)
    where
      go : (j < k) ⊎ (k ≤ j) → (k < j) ⊎ (j ≤ k) → j ≡ k
      go (inl i) l = let w = b.5 j i in absurd (a.4 w.0 w.1 w.2)
      go (inr i) (inl l) = let w = a.5 k l in absurd (b.4 w.0 w.1 w.2)
      go (inr i) (inr l) = omega arith

  whole_lacking : (d : List ℕ) (n k : ℕ) → FinishIs S (done d) → FinishIs S (refused_at n k) → ⊥
  whole_lacking d n k c (inl (e, z, w)) = totals_clash c.pages w c.named
  whole_lacking d n k c (inr (inl (e, w))) = versions_clash k w.3 c.agreed
  whole_lacking d n k c (inr (inr (e, w))) = complete_missing d k c w

  two_lacking : (n m j k : ℕ) → FinishIs S (refused_at n j) → FinishIs S (refused_at m k) → (n ≡ m) × (j ≡ k)
  two_lacking n m j k (inl (e, z, w)) (inl (f, y, v)) = (e ∙ sym f, z ∙ sym y)
  two_lacking n m j k (inl (e, z, w)) (inr (inl (f, v))) = absurd (totals_clash v.0 w v.1)
  two_lacking n m j k (inl (e, z, w)) (inr (inr (f, v))) = absurd (totals_missing k w v)
  two_lacking n m j k (inr (inl (e, w))) (inl (f, y, v)) = absurd (totals_clash w.0 v w.1)
  two_lacking n m j k (inr (inl (e, w))) (inr (inl (f, v))) = (e ∙ sym f, disputed_one j k w v)
  two_lacking n m j k (inr (inl (e, w))) (inr (inr (f, v))) = absurd (disputed_missing j k w v)
  two_lacking n m j k (inr (inr (e, w))) (inl (f, y, v)) = absurd (totals_missing j v w)
  two_lacking n m j k (inr (inr (e, w))) (inr (inl (f, v))) = absurd (disputed_missing k j v w)
  two_lacking n m j k (inr (inr (e, w))) (inr (inr (f, v))) = (e ∙ sym f, missing_one j k w v)

  -- only one answer is true of a set
  pub finish_one : (x y : Answer (List ℕ)) → FinishIs S x → FinishIs S y → x ≡ y
  finish_one (done d) (done e) a b = ap done (complete_one d e a b)
  finish_one (done d) (refused_at m k) a b = absurd (whole_lacking d m k a b)
  finish_one (refused_at n j) (done e) a b = absurd (whole_lacking e n j b a)
  finish_one (refused_at n j) (refused_at m k) a b = let w = two_lacking n m j k a b in ap₂ refused_at w.0 w.1

-- ---- exactly when

module _ (S : Page → Type 0) (b : Book) (v : Valid b) (m : BookIs S b) where
  -- finish gives an answer exactly when it is true of the set
  pub finish_exact : (x : Answer (List ℕ)) → (finish_book b ≡ x) ↔ FinishIs S x
  finish_exact x = ((λ e. subst (FinishIs S) e (finish_is S b v m)), λ w. finish_one S (finish_book b) x (finish_is S b v m) w)

  -- the data, exactly when the set is complete and they are its data
  pub finish_whole : (d : List ℕ) → (finish_book b ≡ done d) ↔ Complete S d
  finish_whole d = finish_exact (done d)

  -- 14 exactly when two pages name two totals
  pub finish_14 : (finish_book b ≡ refused_at 14 0) ↔ TotalsDisagree S
  finish_14 = ((λ e. said ((finish_exact (refused_at 14 0)).0 e)), λ w. (finish_exact (refused_at 14 0)).1 (inl (refl, refl, w)))
    where
      said : FinishIs S (refused_at 14 0) → TotalsDisagree S
      said (inl (e, z, w)) = w
      said (inr (inl (e, w))) = absurd (omega arith)
      said (inr (inr (e, w))) = absurd (omega arith)

  -- 15 with k exactly when there is one total, and k is the lowest index below it that is disputed
  pub finish_15 : (k : ℕ) → (finish_book b ≡ refused_at 15 k) ↔ FirstDisputed S k
  finish_15 k = ((λ e. said ((finish_exact (refused_at 15 k)).0 e)), λ w. (finish_exact (refused_at 15 k)).1 (inr (inl (refl, w))))
    where
      said : FinishIs S (refused_at 15 k) → FirstDisputed S k
      said (inl (e, z, w)) = absurd (omega arith)
      said (inr (inl (e, w))) = w
      said (inr (inr (e, w))) = absurd (omega arith)

  -- 16 with k exactly when there is no page and k is 0, or one total, one version of each page, and
  -- k is the lowest index below the total without a page
  pub finish_16 : (k : ℕ) → (finish_book b ≡ refused_at 16 k) ↔ FirstMissing S k
  finish_16 k = ((λ e. said ((finish_exact (refused_at 16 k)).0 e)), λ w. (finish_exact (refused_at 16 k)).1 (inr (inr (refl, w))))
    where
      said : FinishIs S (refused_at 16 k) → FirstMissing S k
      said (inl (e, z, w)) = absurd (omega arith)
      said (inr (inl (e, w))) = absurd (omega arith)
      said (inr (inr (e, w))) = w

-- complete; two totals; a lowest page disputed; a lowest page missing
abbrev pub OneOfFour : (Page → Type 0) → Type 0
OneOfFour S = ((d : List ℕ) × Complete S d) ⊎ (TotalsDisagree S ⊎ (((k : ℕ) × FirstDisputed S k) ⊎ ((k : ℕ) × FirstMissing S k)))

finish_cases : (S : Page → Type 0) (x : Answer (List ℕ)) → FinishIs S x → OneOfFour S
finish_cases S (done d) c = inl (d, c)
finish_cases S (refused_at n k) (inl (e, z, w)) = inr (inl w)
finish_cases S (refused_at n k) (inr (inl (e, w))) = inr (inr (inl (k, w)))
finish_cases S (refused_at n k) (inr (inr (e, w))) = inr (inr (inr (k, w)))

-- For the reader: these exhaust everything: every set that has a meaning is one of the four
pub set_cases : (S : Page → Type 0) (b : Book) → Valid b → BookIs S b → OneOfFour S
set_cases S b v m = finish_cases S (finish_book b) (finish_is S b v m)

-- For the reader: a page of length 0 is a page: one of one, whatever its contents, is the whole
pub one_page : (d : List ℕ) → finish_book (take_page (record { index = 0; total = 1; contents = d }) empty) ≡ done d
unfolding finish_book take_page finish_pages no_pages lowest is_disputed is_absent joined data_of
one_page d = ap done (append-nil d)

-- ---- for the proofs of code: finish by its tests, and the sizes of its answers. No set stands
-- here: it holds of a mended collection too

module _ (ss : List Slot) where
  -- a page is disputed
  pub pages_disputed : lowest is_disputed ss < length ss → finish_pages ss ≡ refused_at 15 (lowest is_disputed ss)
  unfolding finish_pages
  pages_disputed h = rw (lt-ltb (lowest is_disputed ss) (length ss) h)

  -- none is, and a page is missing
  pub pages_missing : length ss ≤ lowest is_disputed ss → lowest is_absent ss < length ss → finish_pages ss ≡ refused_at 16 (lowest is_absent ss)
  unfolding finish_pages
  pages_missing h k = rw (le-ltb (lowest is_disputed ss) (length ss) h, lt-ltb (lowest is_absent ss) (length ss) k)

  -- neither
  pub pages_held : length ss ≤ lowest is_disputed ss → length ss ≤ lowest is_absent ss → finish_pages ss ≡ done (joined ss)
  unfolding finish_pages
  pages_held h k = rw (le-ltb (lowest is_disputed ss) (length ss) h, le-ltb (lowest is_absent ss) (length ss) k)

module _ (t : ℕ) (ss : List Slot) where
  -- which of the three gave an answer
  abbrev pub Ways : Answer (List ℕ) → Type 0
  Ways x =
      ((lowest is_disputed (take t ss) < length (take t ss)) × (x ≡ refused_at 15 (lowest is_disputed (take t ss))))
      ⊎ (((lowest is_absent (take t ss) < length (take t ss)) × (x ≡ refused_at 16 (lowest is_absent (take t ss)))) ⊎ (x ≡ done (joined (take t ss))))

  -- there is no other way
  pub finish_ways : (x : Answer (List ℕ)) → finish_book (collecting t ss) ≡ x → Ways x
  unfolding finish_book
  finish_ways x e = go (lt_or_le (lowest is_disputed (take t ss)) (length (take t ss))) (lt_or_le (lowest is_absent (take t ss)) (length (take t ss)))
    where
      go : (lowest is_disputed (take t ss) < length (take t ss)) ⊎ (length (take t ss) ≤ lowest is_disputed (take t ss))
          → (lowest is_absent (take t ss) < length (take t ss)) ⊎ (length (take t ss) ≤ lowest is_absent (take t ss))
          → Ways x
      go (inl h) k = inl (h, sym e ∙ pages_disputed (take t ss) h)
      go (inr h) (inl k) = inr (inl (k, sym e ∙ pages_missing (take t ss) h k))
      go (inr h) (inr k) = inr (inr (sym e ∙ pages_held (take t ss) h k))

-- the data are not a refusal
pub whole_not_lacking : {d : List ℕ} {n k : ℕ} → done d ≡ refused_at n k → ⊥
whole_not_lacking e = let z : ◌≡◌ {A = ℕ} 0 1 = cc in omega arith

-- a refusal's place is an index
pub finish_place : (b : Book) (n k : ℕ) → Valid b → finish_book b ≡ refused_at n k → k < 96
unfolding finish_book
finish_place empty n k v e = let i : 0 ≡ k = cc in omega arith
finish_place (collecting t ss) n k v e = go (finish_ways t ss (refused_at n k) e)
  where
    size : length (take t ss) ≡ t
    size = length-take-le t ss (omega (arith, v.most, v.slots))

    go : Ways t ss (refused_at n k) → k < 96
    go (inl (h, q)) = let i : k ≡ lowest is_disputed (take t ss) = cc in omega (arith, size, v.most)
    go (inr (inl (h, q))) = let i : k ≡ lowest is_absent (take t ss) = cc in omega (arith, size, v.most)
    go (inr (inr q)) = absurd (whole_not_lacking (sym q))
finish_place disagree n k v e = let i : 0 ≡ k = cc in omega arith

-- the data that finish gives are those of the slots below the total, in order
pub finish_data : (t : ℕ) (ss : List Slot) (d : List ℕ) → finish_book (collecting t ss) ≡ done d → d ≡ joined (take t ss)
finish_data t ss d e = go (finish_ways t ss (done d) e)
  where
    go : Ways t ss (done d) → d ≡ joined (take t ss)
    go (inl (h, q)) = cc
    go (inr (inl (h, q))) = cc
    go (inr (inr q)) = cc

-- at most 46,080 of them
pub finish_short : (b : Book) (d : List ℕ) → Valid b → finish_book b ≡ done d → length d ≤ 46080
unfolding finish_book
finish_short empty d v e = absurd (whole_not_lacking (sym e))
finish_short (collecting t ss) d v e =
    let size : length (take t ss) ≡ t = length-take-le t ss (omega (arith, v.most, v.slots)) in
    omega (arith, joined_most (take t ss) (data_take Short short_none t ss v.short), ap length (finish_data t ss d e), v.most)
finish_short disagree d v e = absurd (whole_not_lacking (sym e))
