-- What such a frame carries reads back, and only what the payload's reader accepts is carried;
-- whatever the payload's writer wrote is. Assumes nothing.
use Prim.Native.Nat.{ℕ, ◌≤◌}
use mathlib.Core.Path.{◌≡◌, refl, sym}
use mathlib.Core.Logic.{inr}
use mathlib.Core.List.{List}
use native.Mathlib.Omega.{arith}
use borrow.Author.Tests.{eqb-true, leb-true, eq-eqb, le-leb}
use lib.Dec.{eqb, leb}
use lib.ListN.{length}
use Rattle.wire.specs.Answer.{done, refused_at, then, Got, got}
use Rattle.wire.proofs.Cases.{passed, not_done, done_value}
use Rattle.varint.proofs.Lengths.{varint_length_two}
use Rattle.frame.specs.Layout.{layout}
use Rattle.frame.specs.Allowed.{Kind, Allowed}
use Rattle.frame.proofs.Lengths.{layout_length_short}
use Rattle.frame.proofs.ReadsBack.{ReadsAs, reads_back}
use Rattle.auth.specs.Auth.{auth_verdict}
use Rattle.auth.proofs.Verdicts.{auth_written_long}
use Rattle.auth.proofs.Rounds.{auth_written_back}
use Rattle.shard.specs.Shard.{shard_verdict}
use Rattle.shard.specs.declared.Quorum.{Quorum}
use Rattle.shard.proofs.Verdicts.{shard_written_most}
use Rattle.shard.proofs.Rounds.{shard_written_back}
use Rattle.payload_frame.specs.Payload.{payload_frame_of, key_frame, auth_frame}

-- why a frame was written, and which
pub record Carried {A : Type 0} (kind : ℕ) (id contents : List ℕ) (g : Got A) (frame : List ℕ) : Type 0 where
  pub eight : length id ≡ 8
  pub short : length contents ≤ 480
  pub value : A
  pub next : ℕ
  pub accepted : g ≡ got value next
  pub is : frame ≡ layout kind id 0 1 contents

pub payload_frame_carried : {A : Type 0} (kind : ℕ) (id contents : List ℕ) (g : Got A) (frame : List ℕ) → payload_frame_of kind id contents g ≡ done frame → Carried kind id contents g frame
unfolding payload_frame_of
payload_frame_carried {A} kind id contents g frame h =
    let p = passed (eqb (length id) 8) _ 19 h in
    let q = passed (leb (length contents) 480) _ 9 p.1 in
    go g (eqb-true (length id) 8 p.0) (leb-true (length contents) 480 q.0) q.1
  where
    go : (k : Got A) → length id ≡ 8 → length contents ≤ 480 → then k (λ _. done (layout kind id 0 1 contents)) ≡ done frame → Carried kind id contents k frame
    go (done (v, n)) i l e = record { eight = i; short = l; value = v; next = n; accepted = refl; is = sym (done_value e) }
    go (refused_at n place) i l e = not_done e

-- a frame that was written reads back as its type, id and payload, the first of one
pub payload_frame_reads : {A : Type 0} (kind : ℕ) (id contents : List ℕ) (g : Got A) (frame : List ℕ) → Kind kind → payload_frame_of kind id contents g ≡ done frame → ReadsAs frame kind id 0 1 contents
payload_frame_reads kind id contents g frame k h =
    let c = payload_frame_carried kind id contents g frame h in
    let e = c.is in
    let a : Allowed kind id 0 1 contents =
    record { type = k; eight = c.eight; below = omega arith; pages = omega arith; single = inr refl; short = c.short } in
    rw e (reads_back kind id 0 1 contents a)

-- such a frame has at most 500 bytes
pub payload_frame_short : {A : Type 0} (kind : ℕ) (id contents : List ℕ) (g : Got A) (frame : List ℕ) → payload_frame_of kind id contents g ≡ done frame → length frame ≤ 500
payload_frame_short kind id contents g frame h =
    let c = payload_frame_carried kind id contents g frame h in
    let l = c.short in
    let e = c.is in
    rw e (omega (arith, layout_length_short kind id 0 1 contents c.eight (omega arith) (omega arith), varint_length_two (length contents) (omega arith)))

-- ---- what the payloads' writers write always fits

-- what fits and is accepted is carried
accepted_carried : {A : Type 0} (kind : ℕ) (id contents : List ℕ) {g : Got A} {v : A} {next : ℕ} → length id ≡ 8 → length contents ≤ 480 → g ≡ got v next
    → payload_frame_of kind id contents g ≡ done (layout kind id 0 1 contents)
unfolding payload_frame_of
accepted_carried kind id contents i l e = rw (eq-eqb (length id) 8 i, le-leb (length contents) 480 l, e)

module _ (id : List ℕ) (i : length id ≡ 8) (public sig hash : List ℕ) where
  pub shard_carried : (kind share : List ℕ) (len : ℕ) (q : Quorum) {bs : List ℕ} → shard_verdict public sig hash kind share len q ≡ done bs
      → key_frame id bs ≡ done (layout 0x4B id 0 1 bs)
  shard_carried kind share len q {bs} h =
      accepted_carried 0x4B id bs i (omega (arith, shard_written_most hash kind share len q public sig h)) (shard_written_back public sig hash kind share len q h).1

  pub auth_carried : {bs : List ℕ} → auth_verdict public sig hash ≡ done bs → auth_frame id bs ≡ done (layout 0x41 id 0 1 bs)
  auth_carried {bs} h = accepted_carried 0x41 id bs i (omega (arith, auth_written_long public sig hash h)) (auth_written_back public sig hash h).1
