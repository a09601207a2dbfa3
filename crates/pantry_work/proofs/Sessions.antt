-- What a session that collects does with what was saved. Its collection is well formed whatever its
-- input was (scan, Sound), so 13 is said of the saved bytes, and 12 of their document.
-- Assumes nothing.
use mathlib.Core.Path.{◌≡◌}
use mathlib.Core.Bool.{true, false}
use mathlib.Core.List.{List}
use Prim.Native.Nat.{ℕ}
use Rattle.lend.proofs.Sames.{same_refl, same_ne}
use Rattle.model.specs.Take.{join_book}
use Rattle.book.specs.Encode.{encode}
use Rattle.book.specs.Read.{id_of, read_book, ok_book}
use Rattle.book.proofs.Judging.{judged_done, judged_bad}
use Rattle.wire.specs.Answer.{refused, leaves}
use Rattle.collection.specs.Collection.{joining}
use Rattle.scan.specs.Session.{At}
use Rattle.scan.proofs.Sound.{Sound}
use Rattle.pantry_work.specs.Steps.{resuming}

module _ (s : At) (f : Sound s) (collects : s.phase ≡ 1) (saved : List ℕ) where
  -- 13 is for saved bytes that are no collection
  pub resume_13 : ok_book saved ≡ false → resuming s.phase s.collection saved ≡ refused 13
  unfolding resuming joining
  resume_13 e = rw (collects, judged_done s.collection (f.good collects), judged_bad saved e)

  -- and 12 for those of another document
  pub resume_12 : ok_book saved ≡ true → (id_of s.collection ≡ id_of saved → ⊥) → resuming s.phase s.collection saved ≡ refused 12
  unfolding resuming joining
  resume_12 e n = rw (collects, judged_done s.collection (f.good collects), judged_done saved e, same_ne (id_of s.collection) (id_of saved) n)

  -- else it is joined
  pub resume_0 : ok_book saved ≡ true → id_of s.collection ≡ id_of saved
      → resuming s.phase s.collection saved ≡ leaves (encode (id_of s.collection) (join_book (read_book s.collection) (read_book saved))) tt
  unfolding resuming joining
  resume_0 e i = rw (collects, judged_done s.collection (f.good collects), judged_done saved e, i, same_refl (id_of saved))
