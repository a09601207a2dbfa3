-- Typed lines are read and written exactly, and slips in them are told. Assumes nothing.
use Prim.Native.Nat.{ℕ, suc, ◌≤◌}
use mathlib.Core.Path.{◌≡◌, refl, sym, ap, ◌∙◌}
use mathlib.Core.Logic.{⊎_elim}
use mathlib.Core.Bool.{◌&&◌, ◌||◌}
use mathlib.Core.List.{List, [], ◌∷◌}
use native.Mathlib.Omega.{arith}
use borrow.Author.Tests.{le-leb, leb-true}
use lib.Dec.{leb, eqb}
use lib.ListN.{length, replicate, length-replicate}
use Rattle.wire.specs.Answer.{Answer, done, refused_at, answer_of, bytes_after, Kept}
use Rattle.wire.specs.Number.{Bytes}
use Rattle.wire.specs.Over.{over}
use Rattle.wire.specs.Writing.{writing}
use Rattle.wire.proofs.Cases.{done_value, passed}
use Rattle.wire.proofs.Writes.{refused_why}
use Rattle.std.specs.Prelude.{Ok}
use Rattle.wire.specs.Reading.{told_at}
use Rattle.wire.specs.Every.{every}
use Rattle.wire.proofs.Placeless.{HasName, name_placeless, name_choose, name_then, names}
use Rattle.text.specs.Text.{read_text, zbase32}
use Rattle.promises.proofs.Answered.{can_tell_at, kept_named}
use Rattle.promises.proofs.Texts.{text_placeless}
use Rattle.typed.specs.Typed.{most_typed, most_lines, read_typed, joined_from, lines_of, counts_right, plain, right, feed, is_letter, typed_of, write_typed}
use Rattle.typed.proofs.Round.{read_written, written_read, read_short}
use Rattle.typed.proofs.Slips as S
use Rattle.typed.proofs.read as typed-read
use Rattle.typed.proofs.write as typed-write
use Rattle.promises.specs.Formats.{Exact, text_said, LinesCall, typed_lines}
use Rattle.promises.specs.Demand2.{Slips}
use Rattle.promises.proofs.Formats.{Ruled, exact}
use Rattle.promises.proofs.Writers.{second_lent, stands_front, wrote_done, can_write}
use Rattle.promises.proofs.Links.Typed.{typed_read_link, typed_write_link}

-- the written form of bytes
abbrev LinesForm : List ℕ → List ℕ → Type 0
LinesForm v s = Bytes v × (length v ≤ most_typed) × (s ≡ typed_of v)

-- whatever is refused has a name
joined_named : (n : ℕ) (ls : List (List ℕ)) → HasName (joined_from n ls)
unfolding joined_from
joined_named n [] = search names
joined_named n (l ∷ more) = name_choose (right n l) _ _ (name_then (joined_from (suc n) more) _ (joined_named (suc n) more) (λ rest. search names)) (search names)

lines_named : (cs : List ℕ) → HasName (read_typed cs)
unfolding read_typed
lines_named cs =
    name_choose (every (λ c. eqb c feed || is_letter c) (plain cs)) _ _
    (name_choose (leb (length (lines_of cs)) most_lines && counts_right (lines_of cs)) _ _
    (name_then (joined_from 1 (lines_of cs)) (read_text zbase32) (joined_named 1 (lines_of cs)) (λ d. name_placeless _ (text_placeless zbase32 d)))
    (search names)) (search names)

writing_named : (out cs : List ℕ) → HasName (writing 0 out (read_typed cs))
unfolding writing
writing_named out cs = name_then (read_typed cs) _ (lines_named cs) (λ d. search names)

-- what was read stands in front of the output; where it is refused, so is the call
lines_said : (s out x : List ℕ) → most_typed ≤ length out → (a : Answer ℕ) → Kept (writing 0 out (read_typed s)) out x a → text_said a x ≡ read_typed s
lines_said s out x h (done n) w = let t = wrote_done (read_typed s) out x n w in ap done (stands_front t.2) ∙ sym t.1
lines_said s out x h (refused_at n k) w =
    sym (⊎_elim (λ q. q) (λ (bs, q, l). absurd (omega (arith, read_short s bs q))) (refused_why 0 (read_typed s) out x n k w))

-- a call can answer what the rules say
lines_called : (s out : List ℕ) → (x : List ℕ) × (r : Answer ℕ) × LinesCall s out x r
lines_called s out =
    let d = writing 0 out (read_typed s) in
    let c = can_tell_at (answer_of d) (kept_named d (writing_named out s)) in
    let x : List ℕ = bytes_after out d in
    (x, told_at c.0, (second_lent typed-read.Kinds.r typed-read.Reads.Learnt s out x c.0 (record { answer = c.1; bytes = refl }), refl, refl, refl, refl))

few_written : (v : List ℕ) → length v ≤ most_typed → write_typed v ≡ done (typed_of v)
unfolding write_typed
few_written v h = rw (le-leb (length v) most_typed h)

written_few : (v s : List ℕ) → write_typed v ≡ done s → (length v ≤ most_typed) × (s ≡ typed_of v)
unfolding write_typed
written_few v s e = let p = passed (leb (length v) most_typed) _ 9 e in (leb-true (length v) most_typed p.0, sym (done_value p.1))

lines_ruled : Ruled typed_lines LinesForm
lines_ruled = record {
  back = λ v s (y, h, e). (v, ap read_typed e ∙ read_written v y h, refl);
  only = λ s p y e. let w = written_read s p e in (w.1, w.2, w.0);
  form = λ v s t a b. a.2 ∙ sym b.2;
  can_read = λ s.
      let out : List ℕ = replicate 500 0 in
      let c = lines_called s out in
      (text_said c.1 c.0, (out, c.0, c.1, c.2, rw (length-replicate {A = ℕ} 500 0) (omega arith), refl));
  reads = λ s a (out, x, r, (k, i, j, l, e), h, q). sym q ∙ lines_said s out x h r (rw (i, j, l, e) at (typed_read_link k));
  writes = λ v out x n (y, (k, i, j, l, e)).
      let u = wrote_done (write_typed v) out x n (rw (i, j, l, e) at (typed_write_link k)) in
      let f = written_few v u.0 u.1 in
      (u.0, (y, f.0, f.1), u.2);
  write = λ v s (y, h, e) out l.
      let t : List ℕ = typed_of v in
      rw e (y, (second_lent typed-write.Kinds.r typed-write.Reads.Learnt v out (over 0 t out) (Ok (length t)) (can_write (write_typed v) t out (few_written v h) (rw e at l)), refl, refl, refl, refl));
}

pub lines_exact : Exact typed_lines
lines_exact = exact typed_lines LinesForm lines_ruled

-- ---- slips

pub slips : Slips
slips = record {
  replaced = λ xs ys bs c d a k hc hd ne l.
      lines_exact.reason _ a l ∙ S.any_replaced xs ys bs c d (sym (lines_exact.reason _ (done bs) k)) hc hd ne;
  exchanged = λ xs ys zs bs c d a k hc hd ne flat two l.
      lines_exact.reason _ a l ∙ S.exchanged xs ys zs bs c d (sym (lines_exact.reason _ (done bs) k)) hc hd ne flat two;
  moved = λ s s' bs front l between m more a k e e' same q.
      lines_exact.reason _ a q ∙ S.lines_exchanged s s' bs front l between m more (sym (lines_exact.reason _ (done bs) k)) e e' same;
}
