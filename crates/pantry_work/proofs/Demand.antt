-- What is taken up, said of the SET of pages: R1.4 and R1.5 (collection, Demand) at the pantry.
-- Assumes nothing.
use mathlib.Core.Path.{◌≡◌, refl, ◌∙◌}
use mathlib.Core.Logic.{◌⊎◌}
use mathlib.Core.List.{List, ◌++◌}
use Prim.Native.Nat.{ℕ}
use native.Mathlib.Omega.{arith}
use lib.ListN.{length}
use Rattle.wire.specs.Answer.{done, refused_at, refused, Change, bytes_after, answer_of}
use Rattle.lend.proofs.Sames.{same_refl}
use Rattle.model.specs.Book.{Book}
use Rattle.model.specs.Take.{Page}
use Rattle.model.specs.Meaning.{BookIs}
use Rattle.book.specs.Encode.{encode}
use Rattle.book.proofs.Judging.{judged_done}
use Rattle.collection.specs.Collection.{joining}
use Rattle.collection.specs.Built.{Built, opened, joined, bytes_of, In, Lent, offered_all, AllBytes}
use Rattle.collection.proofs.Demand.{saved, saved_says, list_joined}
use Rattle.pantry_work.specs.Steps.{resuming}

-- For the reader: a refusal changes nothing
pub refused_keeps : (phase : ℕ) (c s : List ℕ) (e : ℕ) → answer_of (resuming phase c s) ≡ refused e → bytes_after c (resuming phase c s) ≡ c
refused_keeps phase c s e = go (resuming phase c s)
  where
    go : (d : Change Unit) → answer_of d ≡ refused e → bytes_after c d ≡ c
    go (done (x, a)) h = let z : ◌≡◌ {A = ℕ} 0 1 = cc in absurd (omega arith)
    go (refused_at f place) h = refl

module _ (id : List ℕ) (eight : length id ≡ 8) where
  -- what was scanned now is g, and what was saved is h: the bytes are those of a join
  pub resume_bytes : (g h : Built) → bytes_after (bytes_of id g) (resuming 1 (bytes_of id g) (bytes_of id h)) ≡ bytes_of id (joined g h)
  unfolding resuming bytes_of
  resume_bytes g h = refl

  -- For the reader: it is never refused,
  pub resume_done : (g h : Built) → Lent g → Lent h → answer_of (resuming 1 (bytes_of id g) (bytes_of id h)) ≡ done tt
  unfolding resuming joining
  resume_done g h k l =
      let a = saved_says id eight g k in
      let b = saved_says id eight h l in
      rw (judged_done (bytes_of id g) a.0, judged_done (bytes_of id h) b.0, a.1, b.1, same_refl id)

  -- For the reader: it leaves the one collection of the union
  pub resume_union : (g h : Built) → Lent g → Lent h → (b : Book) → BookIs (λ (p : Page). In id g p ⊎ In id h p) b
      → bytes_after (bytes_of id g) (resuming 1 (bytes_of id g) (bytes_of id h)) ≡ encode id b
  resume_union g h k l b m = resume_bytes g h ∙ saved id eight (joined g h) (k, l) b m

  -- a dropped session is resumed: xs scanned now and ys in an earlier run are as if all had been
  -- scanned in one
  pub resume_lists : (c d e : List ℕ) (xs ys : List (List ℕ)) → length c ≡ 49664 → length d ≡ 49664 → length e ≡ 49664 → AllBytes xs → AllBytes ys
      → bytes_after (bytes_of id (offered_all xs (opened c))) (resuming 1 (bytes_of id (offered_all xs (opened c))) (bytes_of id (offered_all ys (opened d))))
      ≡ bytes_of id (offered_all (xs ++ ys) (opened e))
  resume_lists c d e xs ys s t u x y =
      resume_bytes (offered_all xs (opened c)) (offered_all ys (opened d)) ∙ list_joined id eight c d e xs ys s t u x y
