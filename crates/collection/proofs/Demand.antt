-- R1.4 and R1.5 for open, offer and join: what a collection saves is fixed by the SET of good pages
-- that were offered to it. The words are those of Built.antt and of model's Meaning: no order, no
-- grouping and no count stands in them. Assumes nothing.
use mathlib.Core.Path.{◌≡◌, refl, sym, ap, ◌∙◌, subst}
use mathlib.Core.Bool.{true}
use mathlib.Core.Logic.{◌⊎◌, inl, inr, ⊎_elim}
use mathlib.Core.List.{List, [], ◌∷◌, ◌++◌}
use Prim.Native.Nat.{ℕ}
use lib.ListN.{length}
use Rattle.wire.specs.Answer.{Answer, done, refused_at, refused, then, Got, got, bytes_after, answer_of}
use Rattle.model.specs.Book.{Book}
use Rattle.model.specs.Take.{Page, take_page, kind_of}
use Rattle.model.specs.Meaning.{BookIs}
use Rattle.model.proofs.Sets.{book_one, book_iff}
use Rattle.model.proofs.Histories as H
use Rattle.book.specs.Encode.{encode}
use Rattle.book.specs.Read.{id_of, read_book, book_in, ok_book}
use Rattle.book.proofs.Round.{valid_fits, encode_ok, encode_id, encode_read}
use Rattle.collection.specs.Collection.{good_page, taking, offering}
use Rattle.collection.specs.Built.{Built, opened, offered, joined, bytes_of, Says, In, Lent, offered_all, Among, PageAmong, AllBytes}
use Rattle.collection.proofs.Replay.{taken, history, offer_encode, run_valid, bytes_run, run_means}

-- ---- theorem 1: the bytes are those that the rules give for the set of good pages

module _ (id : List ℕ) (eight : length id ≡ 8) where
  -- some collection is what the offered set says
  pub meant : (h : Built) → Lent h → (b : Book) × BookIs (In id h) b
  meant h l = (H.run (history id h), run_means id eight h l)

  -- and whatever is what the offered set says, the bytes are its bytes
  pub saved : (h : Built) → Lent h → (b : Book) → BookIs (In id h) b → bytes_of id h ≡ encode id b
  saved h l b m = bytes_run id eight h l ∙ ap (encode id) (book_one (In id h) (H.run (history id h)) b (run_means id eight h l) m)

  -- they are well formed, of this document, and say that collection
  pub saved_says : (h : Built) → Lent h → (ok_book (bytes_of id h) ≡ true) × (id_of (bytes_of id h) ≡ id) × BookIs (In id h) (read_book (bytes_of id h))
  saved_says h l =
      let b : Book = H.run (history id h) in
      let v = run_valid id eight h l in
      rw (bytes_run id eight h l) (encode_ok id eight b v, encode_id id eight b (valid_fits b v), rw (encode_read id eight b (valid_fits b v)) (run_means id eight h l))

  -- ---- theorem 2: only the set counts

  -- two histories with the same set of good pages leave the same bytes: any order, any grouping
  -- into joins, any repeats
  pub saved_set : (g h : Built) → Lent g → Lent h → ((p : Page) → In id g p → In id h p) → ((p : Page) → In id h p → In id g p) → bytes_of id g ≡ bytes_of id h
  saved_set g h k l f r =
      saved g k (H.run (history id h)) (book_iff (In id h) (In id g) r f (H.run (history id h)) (run_means id eight h l)) ∙ sym (bytes_run id eight h l)

  -- ---- offer's answer

  -- For the reader: what it answers for a good page is what the set says of that page once it is in
  pub answered : (h : Built) (raw : List ℕ) (p : Page) (next : ℕ) → Lent (offered raw h) → good_page id raw ≡ got p next
      → (b : Book) → BookIs (In id (offered raw h)) b → answer_of (offering (bytes_of id h) raw) ≡ done (kind_of p.index b)
  unfolding history taken H.run
  answered h raw p next l g b m =
      let d : Book = H.run (history id h) in
      let v = run_valid id eight h l.1 in
      let e : take_page p d ≡ b =
      sym (ap (λ (x : Got Page). H.run (taken x (history id h))) g)
      ∙ book_one (In id (offered raw h)) (H.run (history id (offered raw h))) b (run_means id eight (offered raw h) l) m in
      rw (bytes_run id eight h l.1, offer_encode id eight d v raw, g, e)

-- a bad scan or a stranger's page changes nothing, in any bytes
pub strangers : (c raw : List ℕ) (e : ℕ) → good_page (id_of c) raw ≡ refused e → bytes_after c (offering c raw) ≡ c
unfolding offering
strangers c raw e h = go (book_in c)
  where
    go : (a : Answer Book) → bytes_after c (then a (λ b. taking (id_of c) b (good_page (id_of c) raw))) ≡ c
    go (done b) = rw h
    go (refused_at n place) = refl

-- ---- the same, of lists of raw frames

module _ (id : List ℕ) where
  to_list : (raws : List (List ℕ)) (h : Built) (p : Page) → In id (offered_all raws h) p → In id h p ⊎ PageAmong id raws p
  unfolding offered_all
  to_list [] h p m = inl m
  to_list (x ∷ xs) h p m = step (to_list xs (offered x h) p m)
    where
      step : (In id h p ⊎ Says id x p) ⊎ PageAmong id xs p → In id h p ⊎ PageAmong id (x ∷ xs) p
      step (inl (inl a)) = inl a
      step (inl (inr s)) = inr (x, inl refl, s)
      step (inr (raw, a, s)) = inr (raw, inr a, s)

  kept : (raws : List (List ℕ)) (h : Built) (p : Page) → In id h p → In id (offered_all raws h) p
  unfolding offered_all
  kept [] h p m = m
  kept (x ∷ xs) h p m = kept xs (offered x h) p (inl m)

  from_list : (raws : List (List ℕ)) (h : Built) (p : Page) → PageAmong id raws p → In id (offered_all raws h) p
  unfolding offered_all
  from_list [] h p (raw, a, s) = absurd a
  from_list (x ∷ xs) h p (raw, inl e, s) = kept xs (offered x h) p (inr (subst (λ (y : List ℕ). Says id y p) e s))
  from_list (x ∷ xs) h p (raw, inr a, s) = from_list xs (offered x h) p (raw, a, s)

lent_list : (raws : List (List ℕ)) (h : Built) → AllBytes raws → Lent h → Lent (offered_all raws h)
unfolding offered_all
lent_list [] h y l = l
lent_list (x ∷ xs) h y l = lent_list xs (offered x h) (λ raw a. y raw (inr a)) (y x (inl refl), l)

among_either : (xs ys : List (List ℕ)) (raw : List ℕ) → Among (xs ++ ys) raw → Among xs raw ⊎ Among ys raw
among_either [] ys raw a = inr a
among_either (x ∷ xs) ys raw (inl e) = inl (inl e)
among_either (x ∷ xs) ys raw (inr a) = ⊎_elim (λ b. inl (inr b)) (λ c. inr c) (among_either xs ys raw a)

among_first : (xs ys : List (List ℕ)) (raw : List ℕ) → Among xs raw → Among (xs ++ ys) raw
among_first [] ys raw a = elim a [ ]
among_first (x ∷ xs) ys raw (inl e) = inl e
among_first (x ∷ xs) ys raw (inr a) = inr (among_first xs ys raw a)

among_second : (xs ys : List (List ℕ)) (raw : List ℕ) → Among ys raw → Among (xs ++ ys) raw
among_second [] ys raw a = a
among_second (x ∷ xs) ys raw a = inr (among_second xs ys raw a)

module _ (id : List ℕ) (eight : length id ≡ 8) where
  -- whatever raw frames are offered one after another, the first to an empty collection
  pub list_saved : (c : List ℕ) (raws : List (List ℕ)) → length c ≡ 49664 → AllBytes raws → (b : Book) → BookIs (PageAmong id raws) b
      → bytes_of id (offered_all raws (opened c)) ≡ encode id b
  list_saved c raws size y b m =
      saved id eight (offered_all raws (opened c)) (lent_list raws (opened c) y size) b
      (book_iff (PageAmong id raws) (In id (offered_all raws (opened c))) (from_list id raws (opened c))
      (λ p a. ⊎_elim (λ n. absurd n) (λ s. s) (to_list id raws (opened c) p a)) b m)

  -- and some collection is what its good pages say
  pub list_meant : (c : List ℕ) (raws : List (List ℕ)) → length c ≡ 49664 → AllBytes raws → (b : Book) × BookIs (PageAmong id raws) b
  list_meant c raws size y =
      let h : Built = offered_all raws (opened c) in
      let m = meant id eight h (lent_list raws (opened c) y size) in
      (m.0, book_iff (In id h) (PageAmong id raws) (λ p a. ⊎_elim (λ n. absurd n) (λ s. s) (to_list id raws (opened c) p a)) (from_list id raws (opened c)) m.0 m.1)

  -- For the reader: two lists with the same good pages, in any order and number, leave the same
  -- bytes
  pub list_set : (c d : List ℕ) (xs ys : List (List ℕ)) → length c ≡ 49664 → length d ≡ 49664 → AllBytes xs → AllBytes ys
      → ((p : Page) → PageAmong id xs p → PageAmong id ys p) → ((p : Page) → PageAmong id ys p → PageAmong id xs p)
      → bytes_of id (offered_all xs (opened c)) ≡ bytes_of id (offered_all ys (opened d))
  list_set c d xs ys s t x y f r =
      saved_set id eight (offered_all xs (opened c)) (offered_all ys (opened d)) (lent_list xs (opened c) x s) (lent_list ys (opened d) y t)
      (λ p a. ⊎_elim (λ n. absurd n) (λ m. from_list id ys (opened d) p (f p m)) (to_list id xs (opened c) p a))
      (λ p a. ⊎_elim (λ n. absurd n) (λ m. from_list id xs (opened c) p (r p m)) (to_list id ys (opened d) p a))

  -- to join two such collections is to offer both lists to one
  pub list_joined : (c d e : List ℕ) (xs ys : List (List ℕ)) → length c ≡ 49664 → length d ≡ 49664 → length e ≡ 49664 → AllBytes xs → AllBytes ys
      → bytes_of id (joined (offered_all xs (opened c)) (offered_all ys (opened d))) ≡ bytes_of id (offered_all (xs ++ ys) (opened e))
  list_joined c d e xs ys s t u x y =
      saved_set id eight (joined (offered_all xs (opened c)) (offered_all ys (opened d))) (offered_all (xs ++ ys) (opened e))
      (lent_list xs (opened c) x s, lent_list ys (opened d) y t)
      (lent_list (xs ++ ys) (opened e) (λ raw a. ⊎_elim (λ b. x raw b) (λ b. y raw b) (among_either xs ys raw a)) u) there back
    where
      there : (p : Page) → In id (offered_all xs (opened c)) p ⊎ In id (offered_all ys (opened d)) p → In id (offered_all (xs ++ ys) (opened e)) p
      there p (inl a) =
          ⊎_elim (λ n. absurd n) (λ m. from_list id (xs ++ ys) (opened e) p (m.0, among_first xs ys m.0 m.1, m.2)) (to_list id xs (opened c) p a)
      there p (inr a) =
          ⊎_elim (λ n. absurd n) (λ m. from_list id (xs ++ ys) (opened e) p (m.0, among_second xs ys m.0 m.1, m.2)) (to_list id ys (opened d) p a)

      back : (p : Page) → In id (offered_all (xs ++ ys) (opened e)) p → In id (offered_all xs (opened c)) p ⊎ In id (offered_all ys (opened d)) p
      back p a =
          ⊎_elim (λ n. absurd n)
          (λ m.
          ⊎_elim (λ b. inl (from_list id xs (opened c) p (m.0, b, m.2))) (λ b. inr (from_list id ys (opened d) p (m.0, b, m.2)))
          (among_either xs ys m.0 m.1))
          (to_list id (xs ++ ys) (opened e) p a)
