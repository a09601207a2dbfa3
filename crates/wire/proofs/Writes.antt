-- Laws of a writer's promise: two answers that keep it are equal, and the two ways to keep it.
-- Assumes nothing.
use mathlib.Core.Path.{◌≡◌, refl, sym, ◌∙◌}
use mathlib.Core.Logic.{◌⊎◌, inl, inr}
use mathlib.Core.List.{List}
use Rattle.std.specs.Prelude.{Result, Ok, Err}
use Prim.Native.Nat.{ℕ, ◌+◌, ◌≤◌, ◌<◌}
use mathlib.Core.Bool.{Bool, true, false}
use native.Mathlib.Omega.{arith}
use borrow.Author.Tests.{le-leb, lt-leb, leb-true, leb-false}
use lib.Dec.{leb}
use lib.ListN.{length}
use Rattle.wire.specs.Answer.{Answer, done, refused_at, refused, then, demand, leaves, bytes_after, Change, Kept}
use Rattle.wire.specs.Over.{over}
use Rattle.wire.specs.Writing.{told, writing, Written}
use Rattle.wire.specs.declared.Refusal.{Refusal}
use Rattle.wire.specs.declared.Refusal.TheVariants.{NoRoom}
use Rattle.wire.specs.Refusal.{number}
use Rattle.wire.proofs.Answers.{told_injective}
use Rattle.wire.proofs.Cases.{lt_or_le, not_done, done_value}
use Rattle.wire.proofs.Overs.{over_out}

-- a call's promise fixes its answer and every byte of what was lent
pub kept_once : {A : Type 0} {d : Change A} {l x y : List ℕ} {a b : Answer A} → Kept d l x a → Kept d l y b → (a ≡ b) × (x ≡ y)
kept_once p o = (p.answer ∙ sym o.answer, p.bytes ∙ sym o.bytes)

pub written_once : {d : Change ℕ} {out x y : List ℕ} (r q : Result ℕ Refusal) → Kept d out x (told r) → Kept d out y (told q) → (r ≡ q) × (x ≡ y)
written_once r q p o = let (a, b) = kept_once p o in (told_injective r q a, b)

module _ (at : ℕ) (out : List ℕ) where
  -- the bytes fit
  pub written : (bs out' : List ℕ) (n : ℕ) → at + length bs ≤ length out → n ≡ length bs → out' ≡ over at bs out → Written at (done bs) out out' (Ok n)
  unfolding writing
  written bs out' n h e o =
      record { answer = rw (le-leb (at + length bs) (length out) h, e); bytes = rw (le-leb (at + length bs) (length out) h) o }

  -- they do not
  pub no_room : (bs : List ℕ) → length out < at + length bs → Written at (done bs) out out (Err NoRoom)
  unfolding writing
  no_room bs h = record { answer = rw (lt-leb (at + length bs) (length out) h); bytes = rw (lt-leb (at + length bs) (length out) h) }

  -- a refusal that comes before the output is looked at
  pub denied : (e : Refusal) → Written at (refused (number e)) out out (Err e)
  unfolding writing
  denied e = record { answer = refl; bytes = refl }

-- a writer's promise for given bytes is one write, whether they fit or not
pub written_over : (at : ℕ) (bs out out' : List ℕ) {a : Answer ℕ} → Kept (writing at out (done bs)) out out' a → out' ≡ over at bs out
unfolding writing
written_over at bs out out' w = w.bytes ∙ go (lt_or_le (length out) (at + length bs))
  where
    go : (length out < at + length bs) ⊎ (at + length bs ≤ length out) → bytes_after out (writing at out (done bs)) ≡ over at bs out
    go (inl o) = rw (lt-leb (at + length bs) (length out) o) (sym (over_out at bs out o))
    go (inr f) = rw (le-leb (at + length bs) (length out) f)

-- ---- what a caller learns of a writer's answer

-- bytes that fit were written
pub kept_fits : (at : ℕ) (bs out out' : List ℕ) {a : Answer ℕ} → at + length bs ≤ length out → Kept (writing at out (done bs)) out out' a
    → (a ≡ done (length bs)) × (out' ≡ over at bs out)
unfolding writing
kept_fits at bs out out' h w = let k = le-leb (at + length bs) (length out) h in (rw k at w.answer, rw k at w.bytes)

-- the bytes were written
pub record Stood (at : ℕ) (v : Answer (List ℕ)) (out out' : List ℕ) (n : ℕ) : Type 0 where
  pub what : List ℕ
  pub meant : v ≡ done what
  pub count : n ≡ length what
  pub fits : at + n ≤ length out
  pub stands : out' ≡ over at what out

pub done_stood : (at : ℕ) (v : Answer (List ℕ)) (out out' : List ℕ) (n : ℕ) → Kept (writing at out v) out out' (done n) → Stood at v out out' n
unfolding writing
done_stood at (refused_at e k) out out' n w = not_done (sym w.answer)
done_stood at (done bs) out out' n w = go (leb (at + length bs) (length out)) refl w.answer w.bytes
  where
    left : Bool → Change ℕ
    left t = demand t 11 (leaves (over at bs out) (length bs))

    go : (t : Bool) → leb (at + length bs) (length out) ≡ t → done n ≡ then (left t) (λ (x, len). done len) → out' ≡ bytes_after out (left t)
        → Stood at (done bs) out out' n
    go true p q o =
        let l = leb-true (at + length bs) (length out) p in
        record { what = bs; meant = refl; count = done_value q; fits = omega (arith, done_value q); stands = o }
    go false p q o = not_done (sym q)

-- nothing was written: the verdict was a refusal, or the bytes had no room
pub refused_why : (at : ℕ) (v : Answer (List ℕ)) (out out' : List ℕ) (e k : ℕ) → Kept (writing at out v) out out' (refused_at e k)
    → (v ≡ refused_at e k) ⊎ ((bs : List ℕ) × (v ≡ done bs) × (length out < at + length bs))
unfolding writing
refused_why at (refused_at f j) out out' e k w = inl (cc w.answer)
refused_why at (done bs) out out' e k w = go (leb (at + length bs) (length out)) refl w.answer
  where
    go : (t : Bool) → leb (at + length bs) (length out) ≡ t
        → refused_at e k ≡ then (demand t 11 (leaves (over at bs out) (length bs))) (λ (x, len). done len)
        → (done bs ≡ refused_at e k) ⊎ ((xs : List ℕ) × (done bs ≡ done xs) × (length out < at + length xs))
    go true p q = not_done q
    go false p q = inr (bs, refl, leb-false (at + length bs) (length out) p)
