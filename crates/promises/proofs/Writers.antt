-- What a call that writes says, and that it can be made. Assumes nothing.
use mathlib.Core.Path.{◌≡◌, refl}
use mathlib.Core.List.{List, []}
use Prim.Native.Nat.{ℕ, ◌≤◌}
use native.Mathlib.Omega.{arith}
use lib.ListN.{length, take}
use contract.Lifetimes.{Lfts}
use denote.Bor.{Bor}
use denote.MutBor.{MutBor}
use denote.Triple.Clauses.{at_exit}
use borrow.Fn.Kinds.{ResultKind, Out, res_t, ended_of}
use Rattle.wire.specs.Answer.{Answer, done, Kept}
use Rattle.wire.specs.Over.{over}
use Rattle.wire.specs.Writing.{writing}
use Rattle.wire.proofs.Overs.{read_over}
use Rattle.wire.proofs.Writes.{kept_fits, done_stood, written}
use Rattle.text.proofs.base64_write as text-base64-write
use Rattle.collection.proofs.offer as collection-offer
use Rattle.promises.specs.Calls.{Call}

-- a slice that holds given bytes, somewhere
abbrev pub slice : List ℕ → Bor (List ℕ)
slice s = record { ref_ptr = (0, 0); now = s }

-- such a slice that is lent to be written
abbrev pub lent : List ℕ → MutBor (List ℕ)
lent s = record { ref_ptr = (0, 0); ghost_name = 0; now = s }

-- the bytes s stand in front of what was left, all of them, and their number was answered
pub record Stands (s out x : List ℕ) (n : ℕ) : Type 0 where
  pub count : n ≡ length s
  pub fits : length s ≤ length out
  pub left : x ≡ over 0 s out

-- so they are read off there
pub stands_front : {s out x : List ℕ} {n : ℕ} → Stands s out x n → take n x ≡ s
stands_front {s} {out} w = rw (w.count, w.left) (read_over 0 s out (omega (arith, w.fits)))

-- a call that answered 0 wrote the bytes that were meant
pub wrote_done : (v : Answer (List ℕ)) (out x : List ℕ) (n : ℕ) → Kept (writing 0 out v) out x (done n) → (s : List ℕ) × (v ≡ done s) × Stands s out x n
wrote_done v out x n w =
    let t = done_stood 0 v out x n w in
    (t.what, t.meant, record { count = t.count; fits = omega (arith, t.fits, t.count); left = t.stands })

-- given bytes that fit are written, and their number is the answer
pub written_room : (s out x : List ℕ) (a : Answer ℕ) → length s ≤ length out → Kept (writing 0 out (done s)) out x a → (a ≡ done (length s)) × (x ≡ over 0 s out)
written_room s out x a h w = kept_fits 0 s out x (omega arith) w

-- the answer and the output of a writer that has room
pub can_write : (v : Answer (List ℕ)) (s out : List ℕ) → v ≡ done s → length s ≤ length out → Kept (writing 0 out v) out (over 0 s out) (done (length s))
can_write v s out e h = rw e (written 0 out s (over 0 s out) (length s) (omega arith) refl refl)

-- ---- a call of a function of two slices, of which one is lent to be written: what was passed,
-- left and answered, and that its contract holds of that

abbrev both : Lfts 2
both = ([], ([], tt))

abbrev pub second_lent : (r : ResultKind 2) (contract : Out 2 text-base64-write.Kinds.ps r) (s c x : List ℕ) (a : (res_t r both).Denot)
    → contract both (slice s, (lent c, tt)) a (at_exit (ended_of 2 text-base64-write.Kinds.ps r) both (slice s, (lent c, tt)) (tt, (x, tt))) → Call text-base64-write.Kinds.ps r contract
second_lent r contract s c x a k = record { lifetimes = both; args = (slice s, (lent c, tt)); answer = a; left = (tt, (x, tt)); kept = k }

abbrev pub first_lent : (r : ResultKind 2) (contract : Out 2 collection-offer.Kinds.ps r) (c s x : List ℕ) (a : (res_t r both).Denot)
    → contract both (lent c, (slice s, tt)) a (at_exit (ended_of 2 collection-offer.Kinds.ps r) both (lent c, (slice s, tt)) (x, (tt, tt))) → Call collection-offer.Kinds.ps r contract
first_lent r contract c s x a k = record { lifetimes = both; args = (lent c, (slice s, tt)); answer = a; left = (x, (tt, tt)); kept = k }
