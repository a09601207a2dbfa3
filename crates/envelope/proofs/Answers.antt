-- How the cover's and the judge's answers give those of `read` and `write`. Assumes nothing.
use Prim.Native.Nat.{ℕ}
use mathlib.Core.Path.{◌≡◌, refl}
use mathlib.Core.List.{List}
use Rattle.std.specs.Prelude.{Result, Ok, Err}
use Rattle.std.specs.Result.{IsErr, IsErrAnd}
use Rattle.wire.specs.Answer.{Answer, done, refused_at, refused, got, Change, Kept}
use Rattle.wire.specs.Reading.{told_at}
use Rattle.wire.specs.Refusal.{number, Placeless}
use Rattle.wire.specs.Writing.{writing, Written}
use Rattle.wire.specs.Span.{part_at}
use Rattle.wire.specs.declared.Refusal.{Refusal}
use Rattle.wire.specs.declared.RefusedAt.{RefusedAt}
use Rattle.wire.proofs.Answers.{err_is, handed_at, told_at_injective}
use Rattle.wire.proofs.Writes.{kept_once}
use Rattle.cover.specs.declared.Cover.{Cover}
use Rattle.cover.specs.Cover.{cover_at, cover_of}
use Rattle.envelope.specs.Envelope.{judged, envelope_at, verdict}
use Rattle.envelope.specs.Answer.{EnvelopeWritten}

-- what `?` hands out of its own kind
pub handed_own : {A : Type 0} (r : Result A RefusedAt) (e : RefusedAt) → IsErr r × IsErrAnd r (λ x. x ≡ e) → (y : Answer A) → refused_at (number e.why) e.place ≡ y → told_at r ≡ y
handed_own r e h y q = rw (err_is r e h) q

-- ---- reading

-- the cover was refused
pub read_cover : (s : List ℕ) (e : ℕ) → refused e ≡ cover_at s → refused e ≡ envelope_at s
unfolding envelope_at
read_cover s e h = rw (← h)

-- it was read, and its two parts, a and b, were judged
module _ (s : List ℕ) (c : Cover) (next : ℕ) (e : got c next ≡ cover_at s) (a b : List ℕ) (f : a ≡ part_at s c.manifest) (g : b ≡ part_at s c.payload) where
  pub read_faulty : (n place : ℕ) → refused_at n place ≡ judged a b → refused_at n place ≡ envelope_at s
  unfolding envelope_at
  read_faulty n place h = rw (← e, ← f, ← g, ← h)

  pub read_fine : done tt ≡ judged a b → done c ≡ envelope_at s
  unfolding envelope_at
  read_fine h = rw (← e, ← f, ← g, ← h)

pub ruleset reading = (handed_at, handed_own, read_cover, read_faulty, read_fine)

-- ---- writing

module _ (m p out : List ℕ) where
  pub write_faulty : (r : Result ℕ RefusedAt) (e : RefusedAt) → IsErr r × IsErrAnd r (λ x. x ≡ e) → refused_at (number e.why) e.place ≡ judged m p → EnvelopeWritten (verdict m p) out out r
  unfolding verdict writing
  write_faulty r e h k = rw (err_is r e h, ← k) (record { answer = refl; bytes = refl })

  -- the cover's writer kept its promise, and has no place to tell
  module _ (h : done tt ≡ judged m p) (out' : List ℕ) where
    pub write_short : (r : Result ℕ RefusedAt) (e : Refusal) → IsErr r × IsErrAnd r (Placeless e) → Written 0 (done (cover_of m p)) out out' (Err e) → EnvelopeWritten (verdict m p) out out' r
    unfolding verdict
    write_short r e x k = rw (← h) (record { answer = handed_at r e x _ k.answer; bytes = k.bytes })

    pub write_fine : (n : ℕ) → Written 0 (done (cover_of m p)) out out' (Ok n) → EnvelopeWritten (verdict m p) out out' (Ok n)
    unfolding verdict
    write_fine n k = rw (← h) (record { answer = k.answer; bytes = k.bytes })

-- the writer's promise fixes its answer and every byte of its output
pub written_once : {d : Change ℕ} {out x y : List ℕ} (r q : Result ℕ RefusedAt) → Kept d out x (told_at r) → Kept d out y (told_at q) → (r ≡ q) × (x ≡ y)
written_once r q a b = let (e, f) = kept_once a b in (told_at_injective r q e, f)
