-- A call's answer as one number, over plain values. Assumes nothing.
use Prim.Native.Nat.{ℕ, ◌+◌, ◌≤◌, ◌<◌}
use mathlib.Core.Path.{◌≡◌, sym, ap, ◌∙◌}
use mathlib.Core.List.{List}
use native.Mathlib.Omega.{arith}
use lib.Dec.{leb}
use lib.ListN.{length}
use Rattle.wire.specs.Answer.{Answer, done, Change, answer_of, Kept}
use Rattle.wire.specs.Writing.{writing}
use Rattle.wire.proofs.Cases.{passed, then_done, done_value}
use Rattle.lend.specs.Same.{same}
use Rattle.typed.specs.Typed as T
use Rattle.std.specs.Prelude.{Result, Ok}
use Rattle.wire.specs.Reading.{told_at}
use Rattle.wire.specs.declared.RefusedAt.{RefusedAt}
use Rattle.typed.proofs.Round.{read_short}
use Rattle.document_id.specs.Id.{document_id_of}
use Rattle.model.proofs.Finished.{finish_short}
use Rattle.book.specs.Read.{id_of, book_in}
use Rattle.book.proofs.Judging.{judged_only}
use Rattle.book.proofs.Decode.{decoded_valid}
use Rattle.finish.specs.Finish as F

-- what a function of the libraries answered, r, which is the case q, packed
module _ {A R : Type 0} (pack : Answer A → ℕ) (told : R → Answer A) where
  pub packs : (d : Change A) (l x : List ℕ) (r q : R) (n : ℕ) → Kept d l x (told r) → r ≡ q → n ≡ pack (told q) → n ≡ pack (answer_of d)
  packs d l x r q n k h p = p ∙ ap pack (sym (ap told h) ∙ k.answer)

  -- packed by a function that has looked at the cases
  pub passed_on : (d : Change A) (l x : List ℕ) (r : R) (n : ℕ) → Kept d l x (told r) → n ≡ pack (told r) → n ≡ pack (answer_of d)
  passed_on d l x r n k h = h ∙ ap pack k.answer

-- ---- what finish writes has at most 46,080 bytes

collected_most : (c d : List ℕ) → F.collected c ≡ done d → length d ≤ 46080
unfolding F.collected
collected_most c d h =
    let (b, e, t) = then_done (book_in c) _ h in
    let j = judged_only c b e in
    finish_short b d (rw j.1 (decoded_valid c j.0)) t

finished_most : (c out d : List ℕ) → F.finished c out ≡ done d → length d ≤ 46080
unfolding F.finished
finished_most c out d h =
    let (x, e, t) = then_done (F.collected c) _ h in
    let u = passed (leb (length x) (length out)) _ 11 t in
    let w = passed (same (document_id_of x) (id_of c)) _ 17 u.1 in
    omega (arith, collected_most c x e, ap length (done_value w.1))

pub finish_most : (c out x : List ℕ) (r : Result ℕ RefusedAt) (n : ℕ) → F.Closed (F.finished c out) out x r → r ≡ Ok n → n < 0x1000000000000
finish_most c out x r n k h =
    let t = then_done (F.delivering out (F.finished c out)) _ (sym (sym (ap told_at h) ∙ k.answer)) in
    let (d, e, q) = then_done (F.finished c out) _ t.1 in
    omega (arith, finished_most c out d e, ap (λ p. p.1) (done_value q), done_value t.2)

-- ---- typed lines have at most 500 bytes

pub typed_most : (cs out x : List ℕ) (r : Result ℕ RefusedAt) (n : ℕ) → T.ReadLines (T.read_typed cs) out x r → r ≡ Ok n → n < 0x1000000000000
unfolding writing
typed_most cs out x r n k h =
    let t = then_done (writing 0 out (T.read_typed cs)) _ (sym (sym (ap told_at h) ∙ k.answer)) in
    let (d, e, q) = then_done (T.read_typed cs) _ t.1 in
    let u = passed (leb (0 + length d) (length out)) _ 11 q in
    omega (arith, read_short cs d e, ap (λ p. p.1) (done_value u.1), done_value t.2)
