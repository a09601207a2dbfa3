-- Both text forms are read and written exactly. Assumes nothing.
use Prim.Native.Nat.{ℕ, ◌≤◌}
use mathlib.Core.Path.{◌≡◌, refl, sym, ap, ◌∙◌}
use mathlib.Core.Logic.{⊎_elim}
use mathlib.Core.List.{List}
use native.Mathlib.Omega.{arith}
use lib.ListN.{length}
use Rattle.wire.specs.Answer.{Answer, done, refused_at, bytes_after, Kept}
use Rattle.wire.specs.Number.{Bytes}
use Rattle.wire.specs.Over.{over}
use Rattle.wire.specs.Writing.{told, writing, Written}
use Rattle.std.specs.Prelude.{Result, Ok}
use Rattle.wire.specs.declared.Refusal.{Refusal}
use Rattle.wire.proofs.Cases.{done_value}
use Rattle.wire.proofs.Writes.{refused_why}
use Rattle.wire.proofs.Placeless.{Placeless, placeless}
use Rattle.text.specs.Text.{Form, base64, zbase32, read_values, read_text, text_of}
use Rattle.text.proofs.Forms.{Lawful, base64_lawful, zbase32_lawful}
use Rattle.text.proofs.Round.{read_written, written_read, text_short}
use Rattle.text.proofs.base64_read as text-base64-read
use Rattle.text.proofs.base64_write as text-base64-write
use Rattle.text.proofs.zbase32_read as text-zbase32-read
use Rattle.text.proofs.zbase32_write as text-zbase32-write
use Rattle.promises.specs.Formats.{Exact, text_said, texts, scans, typing}
use Rattle.promises.proofs.Writers.{second_lent, stands_front, wrote_done, can_write}
use Rattle.promises.proofs.Answered.{can_answer}
use Rattle.promises.proofs.Formats.{Ruled, exact}
use Rattle.promises.proofs.Links.Text.{text_base64_read_link, text_base64_write_link, text_zbase32_read_link, text_zbase32_write_link}

-- what a text's reader refuses has no place
pub text_placeless : (f : Form) (s : List ℕ) → Placeless (read_text f s)
unfolding read_text read_values
text_placeless f s = search placeless

-- the bytes that were read stand in front of the output, as the text's definition gives them; where
-- it refuses, so does the reader
module _ (f : Form) (law : Lawful f) (s out x : List ℕ) (h : length s ≤ length out) where
  text_said_lem : (a : Answer ℕ) → Kept (writing 0 out (read_text f s)) out x a → text_said a x ≡ read_text f s
  text_said_lem (done n) w = let t = wrote_done (read_text f s) out x n w in ap done (stands_front t.2) ∙ sym t.1
  text_said_lem (refused_at n k) w =
      sym (⊎_elim (λ q. q) (λ (bs, q, l). absurd (omega (arith, text_short f law s bs q))) (refused_why 0 (read_text f s) out x n k w))

-- a form, whatever its two functions are, once their contracts are those of the form's definitions
module _ (f : Form) (law : Lawful f) (Reader Writer : List ℕ → List ℕ → List ℕ → Answer ℕ → Type 0)
    (reader : (s out x : List ℕ) (a : Answer ℕ) → Reader s out x a → Kept (writing 0 out (read_text f s)) out x a)
    (writer : (s out x : List ℕ) (a : Answer ℕ) → Writer s out x a → Kept (writing 0 out (done (text_of f s))) out x a)
    (read : (s out x : List ℕ) (r : Result ℕ Refusal) → Written 0 (read_text f s) out x r → Reader s out x (told r))
    (write : (s out x : List ℕ) (r : Result ℕ Refusal) → Written 0 (done (text_of f s)) out x r → Writer s out x (told r)) where
  abbrev TextForm : List ℕ → List ℕ → Type 0
  TextForm v s = Bytes v × (s ≡ text_of f v)

  texts_ruled : Ruled (texts f Reader Writer) TextForm
  texts_ruled = record {
    back = λ v s (y, e). (v, ap (read_text f) e ∙ read_written f law v y, refl);
    only = λ s p y e. let w = written_read f law s p e in (w.1, w.0);
    form = λ v s t a b. a.1 ∙ sym b.1;
    can_read = λ s.
        let r = can_answer (read_text f s) (text_placeless f s) s in
        let x : List ℕ = bytes_after s (writing 0 s (read_text f s)) in
        (text_said (told r.0) x, (s, x, told r.0, read s s x r.0 r.1, omega arith, refl));
    reads = λ s a (out, x, r, k, h, e). sym e ∙ text_said_lem f law s out x h r (reader s out x r k);
    writes = λ v out x n (y, k).
        let u = wrote_done (done (text_of f v)) out x n (writer v out x (done n) k) in
        (u.0, (y, sym (done_value u.1)), u.2);
    write = λ v s (y, e) out h.
        let t : List ℕ = text_of f v in
        rw e (y, write v out (over 0 t out) (Ok (length t)) (can_write (done t) t out refl (rw e at h)));
  }

  texts_exact : Exact (texts f Reader Writer)
  texts_exact = exact (texts f Reader Writer) TextForm texts_ruled

pub scans_exact : Exact scans
scans_exact =
    texts_exact base64 base64_lawful _ _ (λ s out x a (k, i, j, l, e). rw (i, j, l, e) at (text_base64_read_link k))
    (λ s out x a (k, i, j, l, e). rw (i, j, l, e) at (text_base64_write_link k))
    (λ s out x r w. (second_lent text-base64-read.Kinds.r text-base64-read.Reads.Learnt s out x r w, refl, refl, refl, refl))
    (λ s out x r w. (second_lent text-base64-write.Kinds.r text-base64-write.Reads.Learnt s out x r w, refl, refl, refl, refl))

pub typing_exact : Exact typing
typing_exact =
    texts_exact zbase32 zbase32_lawful _ _ (λ s out x a (k, i, j, l, e). rw (i, j, l, e) at (text_zbase32_read_link k))
    (λ s out x a (k, i, j, l, e). rw (i, j, l, e) at (text_zbase32_write_link k))
    (λ s out x r w. (second_lent text-zbase32-read.Kinds.r text-zbase32-read.Reads.Learnt s out x r w, refl, refl, refl, refl))
    (λ s out x r w. (second_lent text-zbase32-write.Kinds.r text-zbase32-write.Reads.Learnt s out x r w, refl, refl, refl, refl))
