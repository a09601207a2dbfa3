-- A run of the pantry, said of its whole input and of what was saved. Assumes nothing.
use mathlib.Core.Path.{◌≡◌, refl, sym, ap, ◌∙◌}
use mathlib.Core.Bool.{true, false}
use mathlib.Core.Logic.{inl, inr}
use mathlib.Core.List.{List, [], ◌∷◌, ◌++◌}
use Prim.Native.Nat.{ℕ, ◌≤◌}
use borrow.Author.Tests.{ne_eqb}
use lib.ListN.{length}
use Rattle.wire.specs.Answer.{done, refused, leaves, bytes_after}
use Rattle.book.specs.Read.{id_of, ok_book}
use Rattle.collection.specs.Built.{AllBytes}
use Rattle.scan.specs.Session.{fed}
use Rattle.scan.specs.Input.{document_of, scans_of, collection_of, new, session}
use Rattle.scan.proofs.Inputs.{session_collects, session_refused, all_bytes, document_eight, list_says}
use Rattle.scan.proofs.Sound.{Sound, sound_new, fed_sound, closed_sound}
use Rattle.pantry_work.specs.Steps.{resuming}
use Rattle.pantry_work.specs.Pantry.{taken_up, file_after}
use Rattle.pantry_work.proofs.Sessions.{resume_13, resume_12, resume_0}
use Rattle.pantry_work.proofs.Demand.{resume_lists}

-- ---- an input that names a document

pub all_append : (xs ys : List (List ℕ)) → AllBytes xs → AllBytes ys → AllBytes (xs ++ ys)
all_append [] ys x y raw a = y raw a
all_append (l ∷ xs) ys x y raw (inl e) = x raw (inl e)
all_append (l ∷ xs) ys x y raw (inr a) = all_append xs ys (λ r b. x r (inr b)) y raw a

module _ (line c : List ℕ) (room : 1025 ≤ length line) (size : length c ≡ 49664) (input id : List ℕ) (named : document_of input ≡ done id) where
  collects : ((session line c input).phase ≡ 1) × ((session line c input).collection ≡ collection_of c id (scans_of input))
  collects = session_collects line c room input id named

  eight : length id ≡ 8
  eight = document_eight input id named

  of_document : id_of (session line c input).collection ≡ id
  of_document = ap id_of collects.1 ∙ (list_says id eight c size (scans_of input) (all_bytes input)).1

  sound : Sound (session line c input)
  sound = closed_sound (fed (new line c) input) (fed_sound (new line c) input (sound_new (new line c) refl size))

  -- a file of scans ys from earlier runs is taken up, and the collection that this leaves is that
  -- of one run with all scans
  module _ (d : List ℕ) (t : length d ≡ 49664) (ys : List (List ℕ)) (y : AllBytes ys) where
    pub file_joined : (e : List ℕ) → length e ≡ 49664 → taken_up line c input (collection_of d id ys) ≡ leaves (collection_of e id (scans_of input ++ ys)) tt
    file_joined e u =
        let (ok, i, m) = list_says id eight d t ys y in
        let joined = resume_0 (session line c input) sound collects.0 (collection_of d id ys) ok (of_document ∙ sym i) in
        let kept : bytes_after (session line c input).collection (taken_up line c input (collection_of d id ys)) ≡ collection_of e id (scans_of input ++ ys) =
        rw (collects.0, collects.1) (resume_lists id eight c d e (scans_of input) ys size t u (all_bytes input) y) in
        joined ∙ ap (λ (x : List ℕ). leaves x tt) (sym (ap (bytes_after (session line c input).collection) joined) ∙ kept)

    -- For the reader: the file is then that collection,
    pub file_kept : (e : List ℕ) → length e ≡ 49664 → file_after line c input (collection_of d id ys) ≡ collection_of e id (scans_of input ++ ys)
    file_kept e u = ap (bytes_after (collection_of d id ys)) (file_joined e u)

  -- other bytes are not: 13 where they are no collection, 12 where they are another document's
  pub damaged_13 : (saved : List ℕ) → ok_book saved ≡ false → taken_up line c input saved ≡ refused 13
  damaged_13 saved h = resume_13 (session line c input) sound collects.0 saved h

  pub another_12 : (saved : List ℕ) → ok_book saved ≡ true → (id_of saved ≡ id → ⊥) → taken_up line c input saved ≡ refused 12
  another_12 saved h n = resume_12 (session line c input) sound collects.0 saved h (λ e. n (sym e ∙ of_document))

-- ---- an input that names none

module _ (line c : List ℕ) (room : 1025 ≤ length line) (input : List ℕ) (n : ℕ) (none : document_of input ≡ refused n) where
  waits : (session line c input).phase ≡ 1 → ⊥
  waits = (session_refused line c room input n 0 none).0

  -- whatever was saved, it is not taken up
  pub none_19 : (saved : List ℕ) → taken_up line c input saved ≡ refused 19
  unfolding resuming
  none_19 saved = rw (ne_eqb (session line c input).phase 1 waits)

-- ---- a refusal, in either case

-- For the reader: neither the file nor the session's collection is changed
pub refused_run : (line c input saved : List ℕ) (n : ℕ) → taken_up line c input saved ≡ refused n
    → (file_after line c input saved ≡ saved)
    × (bytes_after (session line c input).collection (taken_up line c input saved) ≡ (session line c input).collection)
refused_run line c input saved n e = (rw e, rw e)
