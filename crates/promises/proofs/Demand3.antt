-- The third demand, R1.4 to R1.6, holds (specs/Demand3.antt), for every document id of 8 bytes, of
-- the libraries' functions and of those for C. Assumes nothing.
use mathlib.Core.Path.{◌≡◌, sym, ap, ap₂, ◌∙◌, subst}
use mathlib.Core.Logic.{◌⊎◌, inl, inr}
use mathlib.Core.Bool.{true}
use mathlib.Core.List.{List, ◌++◌}
use Prim.Native.Nat.{ℕ, ◌≤◌}
use native.Mathlib.Omega.{arith}
use lib.ListN.{length}
use Rattle.wire.specs.Answer.{Answer, done, refused, bytes_after}
use Rattle.wire.specs.Over.{over}
use Rattle.model.specs.Meaning.{BookIs}
use Rattle.book.specs.Read.{id_of, read_book, ok_book}
use Rattle.collection.specs.Collection.{good_page, offering, joining}
use Rattle.collection.specs.Built.{Built, opened, offered, joined, bytes_of, In, Lent, offered_all}
use Rattle.collection.proofs.Demand as D
use Rattle.finish.specs.Sets.{Answers}
use Rattle.mend.specs.Mend.{Mends}
use Rattle.finish.proofs.Demand.{finish_demand}
use Rattle.mend.proofs.Repairs.{mend_says}
use Rattle.status.specs.Line.{status_line}
use Rattle.status.specs.Sets.{LineIs}
use Rattle.status.proofs.Sets.{status_line_is}
use Rattle.status.proofs.Told.{status_most}
use Rattle.promises.specs.Collecting.{Interface, library, phone, Tells, Mended}
use Rattle.promises.specs.Demand3.{Left, SamePages, Demand3, Telling}
use Rattle.promises.proofs.Interfaces.{Lawful, library_lawful, phone_lawful}
use Rattle.promises.proofs.Writers.{written_room}
use Rattle.promises.proofs.Links.Finish.{mend_mend_link}
use Rattle.promises.proofs.Links.Status.{status_status_link}

swap : {A B : Type 0} → A ⊎ B → B ⊎ A
swap (inl a) = inr a
swap (inr b) = inl b

regroup : {A B C : Type 0} → (A ⊎ B) ⊎ C → A ⊎ (B ⊎ C)
regroup (inl (inl a)) = inl a
regroup (inl (inr b)) = inr (inl b)
regroup (inr c) = inr (inr c)

ungroup : {A B C : Type 0} → A ⊎ (B ⊎ C) → (A ⊎ B) ⊎ C
ungroup (inl a) = inl (inl a)
ungroup (inr (inl b)) = inl (inr b)
ungroup (inr (inr c)) = inr c

either : {A : Type 0} → A ⊎ A → A
either (inl a) = a
either (inr a) = a

-- ---- what calls left

module _ (f : Interface) (w : Lawful f) (id : List ℕ) where
  -- the bytes that the contracts name
  pub left_bytes : (h : Built) (x : List ℕ) → Left f id h x → x ≡ bytes_of id h
  unfolding bytes_of
  left_bytes (opened c) x k = w.opens id c x k
  left_bytes (offered raw h) x (c, l, k) = w.offers c raw x k ∙ ap (λ (b : List ℕ). bytes_after b (offering b raw)) (left_bytes h c l)
  left_bytes (joined g h) x (c, o, l, m, k) = w.joins c o x k ∙ ap₂ (λ (b d : List ℕ). bytes_after b (joining b d)) (left_bytes g c l) (left_bytes h o m)

  -- and every history can be
  history_happens : (h : Built) → (x : List ℕ) × Left f id h x
  history_happens (opened c) = w.can_open id c
  history_happens (offered raw h) = let l = history_happens h in let k = w.can_offer l.0 raw in (k.0, (l.0, l.1, k.1))
  history_happens (joined g h) =
      let l = history_happens g in
      let m = history_happens h in
      let k = w.can_join l.0 m.0 in
      (k.0, (l.0, m.0, l.1, m.1, k.1))

  module _ (eight : length id ≡ 8) where
    same_set : (g h : Built) (x y : List ℕ) → Lent g → Lent h → Left f id g x → Left f id h y → SamePages id g h → x ≡ y
    same_set g h x y k l a b s = left_bytes g x a ∙ D.saved_set id eight g h k l s.0 s.1 ∙ sym (left_bytes h y b)

    -- what was left is well formed, of this document, and says what its set says
    pub left_says : (h : Built) (c : List ℕ) → Lent h → Left f id h c → (ok_book c ≡ true) × (id_of c ≡ id) × BookIs (In id h) (read_book c)
    left_says h c l m = rw (left_bytes h c m) (D.saved_says id eight h l)

    changes_nothing : (h : Built) (c raw x : List ℕ) (e : ℕ) → Lent h → Left f id h c → good_page id raw ≡ refused e → f.Offers c raw x → x ≡ c
    changes_nothing h c raw x e l m g k =
        w.offers c raw x k ∙ D.strangers c raw e (ap (λ (d : List ℕ). good_page d raw) (left_says h c l m).1 ∙ g)

    finish_says : (h : Built) (c out x : List ℕ) (a : Answer ℕ) → Lent h → Left f id h c → f.Finishes c out x a → Answers (In id h) id out x a
    finish_says h c out x a l m k =
        let s = left_says h c l m in
        let r = w.finishes (In id h) c out x a s.0 s.2 k in
        subst (λ (i : List ℕ). Answers (In id h) i out x a) s.1 (finish_demand (In id h) c out x a s.0 s.2 r.0 r.1)

    pub demanded : Demand3 f id
    demanded = record {
      happens = history_happens;
      finishes = w.can_finish;
      meant = D.meant id eight;
      saved = λ h x l m b s. left_bytes h x m ∙ D.saved id eight h l b s;
      set = same_set;
      strangers = changes_nothing;
      unions = λ e g h x y i k l a b s. same_set e (joined g h) x y i (k, l) a b s;
      order = λ g h x y k l a b. same_set (joined g h) (joined h g) x y (k, l) (l, k) a b ((λ p s. swap s), λ p s. swap s);
      grouping = λ e g h x y i k l a b.
          same_set (joined (joined e g) h) (joined e (joined g h)) x y ((i, k), l) (i, (k, l)) a b ((λ p s. regroup s), λ p s. ungroup s);
      again = λ h x y l a b. same_set h (joined h h) x y l (l, l) a b ((λ p s. inl s), λ p s. either s);
      list = λ c x raws z y m b s. left_bytes (offered_all raws (opened c)) x m ∙ D.list_saved id eight c raws z y b s;
      lists = λ c d e x y xs ys i j k a b m n.
          left_bytes (joined (offered_all xs (opened c)) (offered_all ys (opened d))) x m
          ∙ D.list_joined id eight c d e xs ys i j k a b
          ∙ sym (left_bytes (offered_all (xs ++ ys) (opened e)) y n);
      finish = finish_says;
    }

-- ---- the two interfaces, and what is told

module _ (id : List ℕ) (eight : length id ≡ 8) where
  pub demand3 : Demand3 library id
  demand3 = demanded library library_lawful id eight

  pub demand3_phone : Demand3 phone id
  demand3_phone = demanded phone phone_lawful id eight

  status_tells : (h : Built) (c out x : List ℕ) (a : Answer ℕ) → Lent h → Left library id h c → 64 ≤ length out → Tells c out x a
      → (line : List ℕ) × LineIs (In id h) line × (a ≡ done (length line)) × (x ≡ over 0 line out)
  status_tells h c out x a l m r (k, i, j, p, q) =
      let s = left_says library library_lawful id eight h c l m in
      let t = written_room (status_line c) out x a (omega (arith, status_most c)) (rw (i, j, p, q) at (status_status_link k)) in
      (status_line c, status_line_is (In id h) c s.0 s.2, t.0, t.1)

  mend_tells : (c x : List ℕ) (a : Answer ℕ) → Mended c x a → Mends c x a
  mend_tells c x a (k, i, p, q) =
      let l = mend_mend_link k in
      mend_says c x a (sym q ∙ l.answer ∙ rw i) (sym p ∙ l.bytes ∙ rw i)

  pub telling : Telling id
  telling = record { status = status_tells; mend = mend_tells }
