-- Finish said of the SET of pages: R1.6. S is any set of pages that the collection is the meaning
-- of.
use mathlib.Core.Path.{◌≡◌, refl, sym, ap, ◌∙◌, subst}
use mathlib.Core.Bool.{Bool, true, false}
use mathlib.Core.Logic.{◌⊎◌, inl, inr, ⊎_elim, ◌↔◌}
use mathlib.Core.List.{List}
use Prim.Native.Nat.{ℕ, ◌≤◌, ◌<◌}
use native.Mathlib.Omega.{arith}
use borrow.Author.Tests.{le-leb, lt-leb, leb-true, leb-false}
use lib.Dec.{leb}
use lib.ListN.{length, take}
use Rattle.wire.specs.Answer.{choose, Answer, done, refused_at, refused, bytes_after, answer_of}
use Rattle.wire.specs.Over.{over}
use Rattle.wire.proofs.Overs.{read_over}
use Rattle.lend.specs.Same.{same}
use Rattle.lend.proofs.Sames.{same_eq, same_refl, same_ne, same_false}
use Rattle.document_id.specs.Id.{document_id_of}
use Rattle.model.specs.Take.{Page}
use Rattle.model.specs.Meaning.{BookIs}
use Rattle.model.specs.Finish.{finish_book}
use Rattle.model.specs.Complete.{TotalsDisagree, Complete, FirstDisputed, FirstMissing, FinishIs}
use Rattle.model.proofs.Finished.{finish_exact, finish_whole, finish_14, finish_15, finish_16, finish_short, finish_place}
use Rattle.book.specs.Read.{id_of, read_book, ok_book}
use Rattle.book.proofs.Judging.{judged_done}
use Rattle.book.proofs.Decode.{decoded_valid}
use Rattle.finish.specs.Sets.{Gives, Answers}
use Rattle.finish.specs.Finish.{collected, vouched, finished, delivering, finishing}

-- ---- the output and the id are judged only where the data are there

module _ (id out : List ℕ) where
  -- what becomes of the data d
  abbrev Judged : List ℕ → Answer (List ℕ) → Type 0
  Judged d v =
      ((length out < length d) × (v ≡ refused_at 11 0))
      ⊎ ((length d ≤ length out) × (((document_id_of d ≡ id → ⊥) × (v ≡ refused_at 17 0)) ⊎ ((document_id_of d ≡ id) × (v ≡ done d))))

  -- how x becomes v
  abbrev Ways : Answer (List ℕ) → Answer (List ℕ) → Type 0
  Ways x v = ((n : ℕ) × (k : ℕ) × (x ≡ refused_at n k) × (v ≡ refused_at n k)) ⊎ ((d : List ℕ) × (x ≡ done d) × Judged d v)

  ways : (x : Answer (List ℕ)) → Ways x (vouched id out x)
  ways (refused_at n k) = inl (n, k, refl, refl)
  ways (done d) = inr (d, refl, go (leb (length d) (length out)) (same (document_id_of d) id) refl refl)
    where
      go : (u w : Bool) → leb (length d) (length out) ≡ u → same (document_id_of d) id ≡ w → Judged d (choose u (choose w (done d) (refused_at 17 0)) (refused_at 11 0))
      go true true p q = inr (leb-true (length d) (length out) p, inr (same_eq (document_id_of d) id q, refl))
      go true false p q = inr (leb-true (length d) (length out) p, inl (same_false (document_id_of d) id q, refl))
      go false w p q = inl (leb-false (length d) (length out) p, refl)

  gives : (d : List ℕ) → length d ≤ length out → document_id_of d ≡ id → vouched id out (done d) ≡ done d
  gives d h e = rw (le-leb (length d) (length out) h, e, same_refl id)

  denies : (d : List ℕ) → length d ≤ length out → (document_id_of d ≡ id → ⊥) → vouched id out (done d) ≡ refused_at 17 0
  denies d h e = rw (le-leb (length d) (length out) h, same_ne (document_id_of d) id e)

  lacks : (d : List ℕ) → length out < length d → vouched id out (done d) ≡ refused_at 11 0
  lacks d h = rw (lt-leb (length d) (length out) h)

-- ---- what is decided, of a well-formed collection

module _ (S : Page → Type 0) (c out : List ℕ) (ok : ok_book c ≡ true) (m : BookIs S (read_book c)) where
  reads : (x : Answer (List ℕ)) → finish_book (read_book c) ≡ x → finished c out ≡ vouched (id_of c) out x
  unfolding finished collected
  reads x e = rw (judged_done c ok, e)

  -- a refusal of the collection itself
  numbers : (n k : ℕ) → FinishIs S (refused_at n k) → (n ≡ 14) ⊎ ((n ≡ 15) ⊎ (n ≡ 16))
  numbers n k (inl (e, z, w)) = inl e
  numbers n k (inr (inl (e, w))) = inr (inl e)
  numbers n k (inr (inr (e, w))) = inr (inr e)

  own : (n k : ℕ) → finish_book (read_book c) ≡ refused_at n k → (n ≡ 11 → ⊥) × (n ≡ 17 → ⊥)
  own n k e = go (numbers n k ((finish_exact S (read_book c) (decoded_valid c ok) m (refused_at n k)).0 e))
    where
      go : (n ≡ 14) ⊎ ((n ≡ 15) ⊎ (n ≡ 16)) → (n ≡ 11 → ⊥) × (n ≡ 17 → ⊥)
      go (inl h) = ((λ q. omega (arith, h, q)), λ q. omega (arith, h, q))
      go (inr (inl h)) = ((λ q. omega (arith, h, q)), λ q. omega (arith, h, q))
      go (inr (inr h)) = ((λ q. omega (arith, h, q)), λ q. omega (arith, h, q))

  came : Ways (id_of c) out (finish_book (read_book c)) (finished c out)
  came = subst (Ways (id_of c) out (finish_book (read_book c))) (sym (reads (finish_book (read_book c)) refl)) (ways (id_of c) out (finish_book (read_book c)))

  -- 14, 15 and 16 are those of the collection
  same_refusal : (n k : ℕ) → (n ≡ 11 → ⊥) → (n ≡ 17 → ⊥) → (finished c out ≡ refused_at n k) ↔ (finish_book (read_book c) ≡ refused_at n k)
  same_refusal n k a b = ((λ e. go e came), reads (refused_at n k))
    where
      go : finished c out ≡ refused_at n k → Ways (id_of c) out (finish_book (read_book c)) (finished c out) → finish_book (read_book c) ≡ refused_at n k
      go e (inl (i, j, p, q)) = cc
      go e (inr (d, p, inl (h, q))) = absurd (a cc)
      go e (inr (d, p, inr (h, inl (i, q)))) = absurd (b cc)
      go e (inr (d, p, inr (h, inr (i, q)))) = cc

  pub decided_14 : (finished c out ≡ refused_at 14 0) ↔ TotalsDisagree S
  decided_14 =
      let a = same_refusal 14 0 (λ q. omega (arith, q)) (λ q. omega (arith, q)) in
      let b = finish_14 S (read_book c) (decoded_valid c ok) m in
      ((λ e. b.0 (a.0 e)), λ w. a.1 (b.1 w))

  pub decided_15 : (k : ℕ) → (finished c out ≡ refused_at 15 k) ↔ FirstDisputed S k
  decided_15 k =
      let a = same_refusal 15 k (λ q. omega (arith, q)) (λ q. omega (arith, q)) in
      let b = finish_15 S (read_book c) (decoded_valid c ok) m k in
      ((λ e. b.0 (a.0 e)), λ w. a.1 (b.1 w))

  pub decided_16 : (k : ℕ) → (finished c out ≡ refused_at 16 k) ↔ FirstMissing S k
  decided_16 k =
      let a = same_refusal 16 k (λ q. omega (arith, q)) (λ q. omega (arith, q)) in
      let b = finish_16 S (read_book c) (decoded_valid c ok) m k in
      ((λ e. b.0 (a.0 e)), λ w. a.1 (b.1 w))

  complete : (d : List ℕ) → (finish_book (read_book c) ≡ done d) ↔ Complete S d
  complete d = finish_whole S (read_book c) (decoded_valid c ok) m d

  -- the data, exactly when the set is complete, they fit, and the id is theirs
  pub decided_data : (d : List ℕ) → (finished c out ≡ done d) ↔ (Complete S d × (length d ≤ length out) × (document_id_of d ≡ id_of c))
  decided_data d = ((λ e. go e came), λ w. reads (done d) ((complete d).1 w.0) ∙ gives (id_of c) out d w.1 w.2)
    where
      go : finished c out ≡ done d → Ways (id_of c) out (finish_book (read_book c)) (finished c out) → Complete S d × (length d ≤ length out) × (document_id_of d ≡ id_of c)
      go e (inl (i, j, p, q)) = let z : ◌≡◌ {A = ℕ} 0 1 = cc in absurd (omega arith)
      go e (inr (x, p, inl (h, q))) = let z : ◌≡◌ {A = ℕ} 0 1 = cc in absurd (omega arith)
      go e (inr (x, p, inr (h, inl (i, q)))) = let z : ◌≡◌ {A = ℕ} 0 1 = cc in absurd (omega arith)
      go e (inr (x, p, inr (h, inr (i, q)))) =
          let z : x ≡ d = cc in
          ((complete d).0 (p ∙ ap done z), subst (λ (y : List ℕ). length y ≤ length out) z h, ap document_id_of (sym z) ∙ i)

  -- 11 exactly when the set is complete and its data do not fit
  pub decided_11 : (finished c out ≡ refused_at 11 0) ↔ ((d : List ℕ) × Complete S d × (length out < length d))
  decided_11 = ((λ e. go e came), λ w. reads (done w.0) ((complete w.0).1 w.1) ∙ lacks (id_of c) out w.0 w.2)
    where
      go : finished c out ≡ refused_at 11 0 → Ways (id_of c) out (finish_book (read_book c)) (finished c out) → (d : List ℕ) × Complete S d × (length out < length d)
      go e (inl (i, j, p, q)) = absurd ((own i j p).0 cc)
      go e (inr (d, p, inl (h, q))) = (d, (complete d).0 p, h)
      go e (inr (d, p, inr (h, inl (i, q)))) = let z : ◌≡◌ {A = ℕ} 11 17 = cc in absurd (omega arith)
      go e (inr (d, p, inr (h, inr (i, q)))) = let z : ◌≡◌ {A = ℕ} 0 1 = cc in absurd (omega arith)

  -- 17 exactly when it is complete, the data fit, and the id is not theirs
  pub decided_17 : (finished c out ≡ refused_at 17 0) ↔ ((d : List ℕ) × Complete S d × (length d ≤ length out) × (document_id_of d ≡ id_of c → ⊥))
  decided_17 = ((λ e. go e came), λ w. reads (done w.0) ((complete w.0).1 w.1) ∙ denies (id_of c) out w.0 w.2 w.3)
    where
      go : finished c out ≡ refused_at 17 0 → Ways (id_of c) out (finish_book (read_book c)) (finished c out)
          → (d : List ℕ) × Complete S d × (length d ≤ length out) × (document_id_of d ≡ id_of c → ⊥)
      go e (inl (i, j, p, q)) = absurd ((own i j p).1 cc)
      go e (inr (d, p, inl (h, q))) = let z : ◌≡◌ {A = ℕ} 11 17 = cc in absurd (omega arith)
      go e (inr (d, p, inr (h, inl (i, q)))) = (d, (complete d).0 p, h, i)
      go e (inr (d, p, inr (h, inr (i, q)))) = let z : ◌≡◌ {A = ℕ} 0 1 = cc in absurd (omega arith)

-- ---- what the caller gets: the answer and the output that were decided

module _ (v : Answer (List ℕ)) (out out' : List ℕ) (a : Answer ℕ)
    (p : a ≡ answer_of (delivering out v)) (o : out' ≡ bytes_after out (delivering out v)) where
  abbrev answers : Answer (List ℕ) → Answer ℕ
  answers x = answer_of (delivering out x)

  abbrev leaving : Answer (List ℕ) → List ℕ
  leaving x = bytes_after out (delivering out x)

  -- a refusal, exactly when that was decided
  pub refused_exact : (n k : ℕ) → (a ≡ refused_at n k) ↔ (v ≡ refused_at n k)
  refused_exact n k = ((λ e. from v (sym p ∙ e)), λ e. p ∙ ap answers e)
    where
      from : (x : Answer (List ℕ)) → answers x ≡ refused_at n k → x ≡ refused_at n k
      from (done d) e = let z : ◌≡◌ {A = ℕ} 0 1 = cc in absurd (omega arith)
      from (refused_at i j) e = cc

  -- and it changes nothing
  refused_kept : (n k : ℕ) → a ≡ refused_at n k → out' ≡ out
  refused_kept n k e = o ∙ ap leaving ((refused_exact n k).0 e)

  -- the data, exactly when they were decided on
  done_exact : (d : List ℕ) → ((x : List ℕ) → v ≡ done x → length x ≤ length out) → Gives out out' a d ↔ (v ≡ done d)
  done_exact d f = ((λ (e, q). from v refl (sym p ∙ e) (sym o ∙ q)), λ e. (p ∙ ap answers e, o ∙ ap leaving e))
    where
      from : (x : Answer (List ℕ)) → v ≡ x → answers x ≡ done (length d) → leaving x ≡ over 0 d out → v ≡ done d
      from (done y) q e h =
          let n : length y ≡ length d = cc in
          let l = f y q in
          let z : y ≡ d =
          sym (read_over 0 y out (omega arith)) ∙ ap (λ (w : List ℕ). take (length y) w) h ∙ ap (λ (k : ℕ). take k (over 0 d out)) n ∙ read_over 0 d out (omega arith) in
          q ∙ ap done z
      from (refused_at i j) q e h = let z : ◌≡◌ {A = ℕ} 0 1 = cc in absurd (omega arith)

both : {A B C : Type 0} → A ↔ B → B ↔ C → A ↔ C
both f g = ((λ a. g.0 (f.0 a)), λ c. f.1 (g.1 c))

module _ (S : Page → Type 0) (c out out' : List ℕ) (a : Answer ℕ) (ok : ok_book c ≡ true) (m : BookIs S (read_book c))
    (p : a ≡ answer_of (finishing c out)) (o : out' ≡ bytes_after out (finishing c out)) where
  -- a complete set has at most 46,080 bytes
  complete_most : (d : List ℕ) → Complete S d → length d ≤ 46080
  complete_most d w = let v = decoded_valid c ok in finish_short (read_book c) d v ((finish_whole S (read_book c) v m d).1 w)

  given : (d : List ℕ) → Gives out out' a d ↔ (finished c out ≡ done d)
  given d = done_exact (finished c out) out out' a p o d (λ x e. ((decided_data S c out ok m x).0 e).1)

  -- where the data have room
  given_room : (d : List ℕ) → (Complete S d → length d ≤ length out) → Gives out out' a d ↔ (Complete S d × (document_id_of d ≡ id_of c))
  given_room d h =
      let b = decided_data S c out ok m d in
      ((λ w. let t = b.0 ((given d).0 w) in (t.0, t.2)), λ w. (given d).1 (b.1 (w.0, h w.0, w.1)))

  refused_as : (n k : ℕ) → (a ≡ refused_at n k) ↔ (finished c out ≡ refused_at n k)
  refused_as = refused_exact (finished c out) out out' a p o

  no_room_exact : (a ≡ refused 11) ↔ ((d : List ℕ) × Complete S d × (length out < length d))
  no_room_exact = both (refused_as 11 0) (decided_11 S c out ok m)

  pub finish_demand : Answers S (id_of c) out out' a
  finish_demand = record {
    gives = λ d h. given_room d (λ w. h);
    no_room = no_room_exact;
    other_document = both (refused_as 17 0) (decided_17 S c out ok m);
    totals = both (refused_as 14 0) (decided_14 S c out ok m);
    disputed = λ k. both (refused_as 15 k) (decided_15 S c out ok m k);
    missing = λ k. both (refused_as 16 k) (decided_16 S c out ok m k);
    unchanged = refused_kept (finished c out) out out' a p o;
    enough = λ r. (
      (λ e. let w = no_room_exact.0 e in omega (arith, w.2, complete_most w.0 w.1)),
      λ d.
          given_room d (λ w. omega (arith, complete_most d w)),
    );
  }

-- a refusal's number is not 0, and it and its place are bytes
pub finish_bytes : (S : Page → Type 0) (c out : List ℕ) → ok_book c ≡ true → BookIs S (read_book c) → (n k : ℕ) → finished c out ≡ refused_at n k
    → (1 ≤ n) × (n < 256) × (k < 256)
finish_bytes S c out ok m n k e = go (came S c out ok m)
  where
    go : Ways (id_of c) out (finish_book (read_book c)) (finished c out) → (1 ≤ n) × (n < 256) × (k < 256)
    go (inl (i, j, p, q)) =
        let a : i ≡ n = cc in
        let b : j ≡ k = cc in
        let l = finish_place (read_book c) i j (decoded_valid c ok) p in
        ⊎_elim (λ f. omega arith) (λ g. ⊎_elim (λ f. omega arith) (λ f. omega arith) g)
        (numbers S c out ok m i j ((finish_exact S (read_book c) (decoded_valid c ok) m (refused_at i j)).0 p))
    go (inr (d, p, inl (h, q))) = let a : n ≡ 11 = cc in let b : k ≡ 0 = cc in omega arith
    go (inr (d, p, inr (h, inl (i, q)))) = let a : n ≡ 17 = cc in let b : k ≡ 0 = cc in omega arith
    go (inr (d, p, inr (h, inr (i, q)))) = let z : ◌≡◌ {A = ℕ} 0 1 = cc in absurd (omega arith)
