-- What the reader of frames says of the bytes of a page. Assumes nothing.
use Prim.Native.Nat.{ℕ}
use mathlib.Core.Path.{◌≡◌, refl}
use mathlib.Core.List.{List, ◌++◌}
use native.Mathlib.Nat.{sub-zero}
use native.Mathlib.Omega.{arith}
use lib.ListN.{take, replicate, length-replicate}
use Rattle.wire.specs.Answer.{Answer, done, refused, Kept}
use Rattle.wire.specs.Writing.{writing, Written}
use Rattle.std.specs.Prelude.{Result, Ok, Err}
use Rattle.std.specs.Result.{IsErr, IsErrAnd}
use Rattle.std.proofs.lemmas.Result.{err_from_is_err_and}
use Rattle.wire.specs.Refusal.{number, Placeless}
use Rattle.wire.specs.declared.Refusal.{Refusal}
use Rattle.wire.specs.declared.RefusedAt.{RefusedAt}
use Rattle.digits.specs.Decimal.{line_feed}
use Rattle.digits.specs.Private.{Laid}
use Rattle.digits.proofs.Laying.{laid_whole}
use Rattle.text.specs.Text.{base64, text_of}
use Rattle.typed.specs.Typed.{ReadLines}
use Rattle.frame.specs.Frame.{frame_of}
use Rattle.frame.specs.Answer.{told}
use Rattle.frame.specs.declared.Frame.{Frame}
use Rattle.typing.specs.Typing.{frame_fault}
use Rattle.typing.specs.Private.{framed}
use Rattle.typing.specs.declared.Fault.TheVariants.{Good, Whole}

-- what `?` hands on, without a place
refused_read : (v : Answer (List ℕ)) (out : List ℕ) (r : Result ℕ RefusedAt) (e : Refusal) → IsErr r × IsErrAnd r (Placeless e) → v ≡ refused (number e) → ReadLines v out out r
unfolding writing
refused_read v out r e (h, k) q = let p = err_from_is_err_and r k in rw (p.1, p.2.0, p.2.1, q) (record { answer = refl; bytes = refl })

module _ (bs : List ℕ) (r : Result Frame Refusal) (h : told r ≡ frame_of bs) where
  pub frame_refused : (e : Refusal) (n : ℕ) → r ≡ Err e → n ≡ number e → Whole n ≡ frame_fault (frame_of bs)
  frame_refused e n q k = rw (← h, q, k)

  pub framed_refused : (e : Refusal) (out : List ℕ) (s : Result ℕ RefusedAt) → IsErr s × IsErrAnd s (Placeless e) → r ≡ Err e → ReadLines (framed bs) out out s
  unfolding framed
  framed_refused e out s k q = refused_read (framed bs) out s e k (rw (← h, q) refl)

  module _ (f : Frame) (q : r ≡ Ok f) where
    pub frame_good : Good ≡ frame_fault (frame_of bs)
    frame_good = rw (← h, q)

    framed_is : framed bs ≡ done (text_of base64 bs ++ line_feed)
    unfolding framed
    framed_is = rw (← h, q)

    module _ (n : ℕ) (x out out' : List ℕ) (p : Laid 0 1068 (text_of base64 bs ++ line_feed) (replicate 1068 0) x n) where
      pub framed_done : (a : Answer ℕ) → Kept (writing 0 out (done (take n x))) out out' a → Kept (writing 0 out (framed bs)) out out' a
      framed_done a w =
          rw framed_is
          (laid_whole 1068 n (text_of base64 bs ++ line_feed) (replicate 1068 0) x out out' a (omega (arith, length-replicate {A = ℕ} 1068 0)) p (rw (sub-zero n) w))

      pub framed_short : (v : Result ℕ Refusal) (e : Refusal) (s : Result ℕ RefusedAt) → IsErr s × IsErrAnd s (Placeless e) → v ≡ Err e → Written 0 (done (take n x)) out out' v
          → ReadLines (framed bs) out out' s
      framed_short v e s (i, k) q w = let p = err_from_is_err_and s k in rw (p.1, p.2.0, p.2.1) (framed_done _ (rw q at w))
