-- Every history of calls on raw frames leaves the bytes of the collection that took its good pages.
-- Assumes nothing.
use mathlib.Core.Path.{◌≡◌, refl, sym, ap, ap₂, ◌∙◌}
use mathlib.Core.Logic.{◌⊎◌, inl, inr, ⊎_elim}
use mathlib.Core.List.{List}
use Prim.Native.Nat.{ℕ}
use borrow.Author.Tests.{eq-eqb}
use lib.ListN.{length}
use Rattle.wire.specs.Answer.{done, refused_at, Got, got, bytes_after}
use Rattle.wire.proofs.Cases.{not_done, got_value}
use Rattle.lend.proofs.Sames.{same_refl}
use Rattle.model.specs.Book.{Book, empty}
use Rattle.model.specs.Take.{Page, join_book}
use Rattle.model.specs.Meaning.{BookIs}
use Rattle.model.proofs.Sets.{book_iff}
use Rattle.model.proofs.Valid.{Good, Valid}
use Rattle.model.proofs.Histories as H
use Rattle.book.specs.Encode.{encode}
use Rattle.book.proofs.Round.{valid_fits, encode_id, encode_judged}
use Rattle.collection.specs.Collection.{good_page, opening, taking, offering, joining}
use Rattle.collection.proofs.Good.{good_page_lem}
use Rattle.collection.specs.Built.{Built, opened, offered, joined, bytes_of, In, Lent}

-- ---- from raw frames to pages

unfoldable pub taken : Got Page → H.History → H.History
taken (done (p, next)) h = H.took p h
taken (refused_at e place) h = h

-- the same history with the page of each good frame, and without the other frames
unfoldable pub history : List ℕ → Built → H.History
history id (opened c) = H.opened
history id (offered raw h) = taken (good_page id raw) (history id h)
history id (joined g h) = H.united (history id g) (history id h)

module _ (p : Page) (h : H.History) where
  to_taken : {A : Type 0} (g : Got Page) → (A → H.In h p) → A ⊎ ((next : ℕ) × (g ≡ got p next)) → H.In (taken g h) p
  unfolding taken
  to_taken (done (q, n)) f (inl a) = inl (f a)
  to_taken (done (q, n)) f (inr s) = inr (sym (got_value s.1))
  to_taken (refused_at e place) f (inl a) = f a
  to_taken (refused_at e place) f (inr s) = not_done s.1

  from_taken : {A : Type 0} (x g : Got Page) → x ≡ g → (H.In h p → A) → H.In (taken g h) p → A ⊎ ((next : ℕ) × (x ≡ got p next))
  unfolding taken
  from_taken x (done (q, n)) e f (inl a) = inl (f a)
  from_taken x (done (q, n)) e f (inr s) = inr (n, e ∙ ap (λ (r : Page). got r n) (sym s))
  from_taken x (refused_at y place) e f a = inl (f a)

module _ (id : List ℕ) where
  to_pages : (h : Built) (p : Page) → In id h p → H.In (history id h) p
  unfolding history
  to_pages (opened c) p m = m
  to_pages (offered raw h) p m = to_taken p (history id h) (good_page id raw) (to_pages h p) m
  to_pages (joined g h) p m = ⊎_elim (λ a. inl (to_pages g p a)) (λ b. inr (to_pages h p b)) m

  from_pages : (h : Built) (p : Page) → H.In (history id h) p → In id h p
  unfolding history
  from_pages (opened c) p m = m
  from_pages (offered raw h) p m = from_taken p (history id h) (good_page id raw) (good_page id raw) refl (from_pages h p) m
  from_pages (joined g h) p m = ⊎_elim (λ a. inl (from_pages g p a)) (λ b. inr (from_pages h p b)) m

  -- every page is one that the frame reader accepts
  pub in_good : (h : Built) → Lent h → (p : Page) → In id h p → Good p
  in_good (opened _) l p x = elim x [ ]
  in_good (offered raw h) l p (inl a) = in_good h l.1 p a
  in_good (offered raw h) l p (inr s) = (good_page_lem id raw p s.0 l.0 s.1).good
  in_good (joined g h) l p (inl a) = in_good g l.0 p a
  in_good (joined g h) l p (inr b) = in_good h l.1 p b

  pub all_good : (h : Built) → Lent h → H.AllGood (history id h)
  all_good h l p m = in_good h l p (from_pages h p m)

-- ---- the calls on the bytes of a valid collection

module _ (id : List ℕ) (eight : length id ≡ 8) where
  module _ (b : Book) (v : Valid b) where
    -- an offer decides as if the page were taken from the raw frame
    pub offer_encode : (raw : List ℕ) → offering (encode id b) raw ≡ taking id b (good_page id raw)
    unfolding offering
    offer_encode raw = rw (encode_judged id eight b v, encode_id id eight b (valid_fits b v))

    join_encode : (d : Book) → Valid d → bytes_after (encode id b) (joining (encode id b) (encode id d)) ≡ encode id (join_book b d)
    unfolding joining
    join_encode d w =
        rw (
          encode_judged id eight b v,
          encode_judged id eight d w,
          encode_id id eight b (valid_fits b v),
          encode_id id eight d (valid_fits d w),
          same_refl id,
        )

  open_encode : (c : List ℕ) → length c ≡ 49664 → bytes_after c (opening id c) ≡ encode id empty
  unfolding opening
  open_encode c size = rw (eq-eqb (length id) 8 eight, eq-eqb (length c) 49664 size)

  pub run_valid : (h : Built) → Lent h → Valid (H.run (history id h))
  run_valid h l = H.run_valid (history id h) (all_good id h l)

  take_run : (h : H.History) (g : Got Page) → bytes_after (encode id (H.run h)) (taking id (H.run h) g) ≡ encode id (H.run (taken g h))
  unfolding taken H.run
  take_run h (done (p, next)) = refl
  take_run h (refused_at e place) = refl

  -- the bytes are those of the collection that took the pages
  pub bytes_run : (h : Built) → Lent h → bytes_of id h ≡ encode id (H.run (history id h))
  unfolding bytes_of history H.run
  bytes_run (opened c) l = open_encode c l
  bytes_run (offered raw h) l =
      ap (λ (c : List ℕ). bytes_after c (offering c raw)) (bytes_run h l.1)
      ∙ ap (bytes_after (encode id (H.run (history id h)))) (offer_encode (H.run (history id h)) (run_valid h l.1) raw)
      ∙ take_run (history id h) (good_page id raw)
  bytes_run (joined g h) l =
      ap₂ (λ (c o : List ℕ). bytes_after c (joining c o)) (bytes_run g l.0) (bytes_run h l.1)
      ∙ join_encode (H.run (history id g)) (run_valid g l.0) (H.run (history id h)) (run_valid h l.1)

  -- and that collection is what the set of offered pages says
  pub run_means : (h : Built) → Lent h → BookIs (In id h) (H.run (history id h))
  run_means h l =
      book_iff (H.In (history id h)) (In id h) (from_pages id h) (to_pages id h) (H.run (history id h))
      (H.run_is (history id h) (H.good_indexed (history id h) (all_good id h l)))
