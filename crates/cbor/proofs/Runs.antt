-- Items written one after the other: one law for each write, and none of them asks for arithmetic.
-- Assumes nothing.
use Prim.Native.Nat.{ℕ, ◌+◌, ◌-◌, ◌≤◌, ◌<◌}
use mathlib.Core.Path.{◌≡◌, refl, sym, ap, ◌∙◌}
use mathlib.Core.Logic.{⊎_elim}
use mathlib.Core.List.{List, ◌++◌}
use native.Mathlib.Omega.{arith}
use borrow.Author.Tests.{le-leb, lt-leb}
use lib.ListN.{length, length-append}
use Rattle.wire.specs.Over.{over}
use Rattle.wire.proofs.Cases.{lt_or_le}
use Rattle.wire.proofs.Overs.{over_out, over_append, length_over}
use Rattle.cbor.specs.Put.{past, Put}

-- a writer's promise fixes its answer and every byte of its output
pub put_once : {at next next' : ℕ} {form out x y : List ℕ} → Put at form out x next → Put at form out y next' → (next ≡ next') × (x ≡ y)
put_once p q = (p.answer ∙ sym q.answer, p.output ∙ sym q.output)

module _ (at : ℕ) (form out : List ℕ) where
  -- the form fits
  pub past_fits : at + length form ≤ length out → past at form out ≡ at + length form
  unfolding past
  past_fits h = rw (le-leb (at + length form) (length out) h)

  pub put_fits : (out' : List ℕ) (next : ℕ) → at + length form ≤ length out → out' ≡ over at form out → next ≡ at + length form → Put at form out out' next
  put_fits out' next h o e = record { answer = e ∙ sym (past_fits h); output = o }

  past_out : length out < at + length form → past at form out ≡ at
  unfolding past
  past_out h = rw (lt-leb (at + length form) (length out) h)

  -- the form is no longer than what is left from at on: past the end that is an empty form, of
  -- which nothing is seen
  pub put_done : (out' : List ℕ) (next : ℕ) → length form ≤ length out - at → out' ≡ over at form out → next ≡ at + length form → Put at form out out' next
  put_done out' next h o e =
      ⊎_elim (λ (l : length out < at + length form). record { answer = omega (arith, past_out l); output = o })
      (λ (l : at + length form ≤ length out). put_fits out' next l o e)
      (lt_or_le (length out) (at + length form))

  -- it is longer
  pub put_none : length out - at < length form → Put at form out out at
  put_none h = let l : length out < at + length form = omega arith in record { answer = sym (past_out l); output = sym (over_out at form out l) }

-- `rest` is still to be written at p: then the output is x with `all` from at on
pub record Left (at : ℕ) (all x y : List ℕ) (p : ℕ) (rest : List ℕ) : Type 0 where
  pub room : p + length rest ≤ length y
  pub same : length y ≡ length x
  pub ends : p + length rest ≡ at + length all
  pub whole : over p rest y ≡ over at all x

-- before the first write
pub left_all : (at : ℕ) (all x : List ℕ) → at + length all ≤ length x → Left at all x x at all
left_all at all x h = record { room = h; same = refl; ends = refl; whole = refl }

-- one write more, by its output and its next position
pub left_over : {at p : ℕ} {all x y rest : List ℕ} (form z : List ℕ) (q : ℕ) → Left at all x y p (form ++ rest) → z ≡ over p form y → q ≡ p + length form → Left at all x z q rest
left_over {p = p} {y = y} {rest = rest} form z q h o e =
    let k : length (form ++ rest) ≡ length form + length rest = length-append form rest in
    let l : length z ≡ length y = ap length o ∙ length_over p form y in
    let r = h.room in
    let d = h.ends in
    record {
      room = omega arith;
      same = l ∙ h.same;
      ends = omega arith;
      whole = ap (over q rest) o ∙ over_append p form rest y q e (omega arith) ∙ h.whole;
    }

-- the same, by a writer's promise
pub left_on : {at p q : ℕ} {all x y z form rest : List ℕ} → Left at all x y p (form ++ rest) → Put p form y z q → Left at all x z q rest
left_on {p = p} {q = q} {y = y} {z = z} {form = form} {rest = rest} h w =
    let r = h.room in
    let k : length (form ++ rest) ≡ length form + length rest = length-append form rest in
    left_over form z q h w.output (w.answer ∙ past_fits p form y (omega arith))

-- the last write: all is written
pub left_over_last : {at p : ℕ} {all x y form : List ℕ} (z : List ℕ) (q : ℕ) → at + length all ≤ length x → Left at all x y p form → z ≡ over p form y → q ≡ p + length form
    → Put at all x z q
left_over_last {at} {all = all} {x = x} z q f h o e = put_fits at all x z q f (o ∙ h.whole) (e ∙ h.ends)

pub left_last : {at p q : ℕ} {all x y z form : List ℕ} → at + length all ≤ length x → Left at all x y p form → Put p form y z q → Put at all x z q
left_last {p = p} {q = q} {y = y} {z = z} {form = form} f h w = left_over_last z q f h w.output (w.answer ∙ past_fits p form y h.room)
