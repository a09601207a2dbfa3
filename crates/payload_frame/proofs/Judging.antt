-- The judgements before such a frame is laid out, over plain lists. Assumes nothing.
use Prim.Native.Nat.{ℕ, ◌≤◌, ◌<◌}
use mathlib.Core.Path.{◌≡◌, refl}
use mathlib.Core.List.{List}
use borrow.Author.Tests.{eq-eqb, ne_eqb, le-leb, lt-leb}
use lib.ListN.{length}
use Rattle.std.specs.Prelude.{Result, Ok, Err}
use Rattle.std.specs.Borrow.{Bor}
use Rattle.wire.specs.Answer.{Answer, done, refused_at, refused, then}
use Rattle.wire.specs.Writing.{Written}
use Rattle.wire.specs.Refusal.{number}
use Rattle.wire.specs.declared.Refusal.{Refusal}
use Rattle.wire.specs.declared.Refusal.TheVariants as refusal
use Rattle.wire.proofs.Writes.{denied}
use Rattle.frame.specs.Layout.{layout}
use Rattle.auth.specs.Auth.{auth_at}
use Rattle.auth.specs.Answer.{claim_told}
use Rattle.auth.specs.declared.Claimed.{Claimed}
use Rattle.shard.specs.Shard.{shard_at}
use Rattle.shard.specs.Answer.{shard_told}
use Rattle.shard.specs.declared.Shard.{Shard}
use Rattle.payload_frame.specs.Payload.{payload_frame_of, key_frame, auth_frame}
use Rattle.payload_frame.specs.Private.{accepted, Reads}

-- what a payload's reader said, without its value
abbrev pub bare : {A : Type 0} → Answer A → Answer Unit
bare g = then g (λ _. done tt)

module _ (kind : ℕ) (id contents : List ℕ) where
  -- the frame does not depend on the value
  pub frame_bare : {A : Type 0} (g : Answer A) → payload_frame_of kind id contents (bare g) ≡ payload_frame_of kind id contents g
  unfolding payload_frame_of
  frame_bare (done a) = refl
  frame_bare (refused_at e place) = refl

  module _ (g : Answer Unit) (x : List ℕ) where
    pub no_id : (length id ≡ 8 → ⊥) → Written 0 (payload_frame_of kind id contents g) x x (Err refusal.OutOfRange)
    unfolding payload_frame_of
    no_id h = rw (ne_eqb (length id) 8 h) (denied 0 x refusal.OutOfRange)

    module _ (i : length id ≡ 8) where
      pub too_long : 480 < length contents → Written 0 (payload_frame_of kind id contents g) x x (Err refusal.TooLarge)
      unfolding payload_frame_of
      too_long l = rw (eq-eqb (length id) 8 i, lt-leb (length contents) 480 l) (denied 0 x refusal.TooLarge)

      module _ (l : length contents ≤ 480) where
        -- the payload's reader refused it, or accepted it
        pub not_carried : (e : Refusal) → refused (number e) ≡ g → Written 0 (payload_frame_of kind id contents g) x x (Err e)
        unfolding payload_frame_of
        not_carried e h = rw (eq-eqb (length id) 8 i, le-leb (length contents) 480 l, ← h) (denied 0 x e)

        pub carried : done tt ≡ g → (z : List ℕ) (r : Result ℕ Refusal) → Written 0 (done (layout kind id 0 1 contents)) x z r
            → Written 0 (payload_frame_of kind id contents g) x z r
        unfolding payload_frame_of
        carried h z r w = rw (eq-eqb (length id) 8 i, le-leb (length contents) 480 l, ← h) w

-- both readers
pub shard_accepted : (s : List ℕ) (r : Result Shard Refusal) → shard_told r ≡ shard_at s → accepted r ≡ bare (shard_at s)
shard_accepted s (Ok t) h = rw (← h)
shard_accepted s (Err e) h = rw (← h)

pub auth_accepted : (s : List ℕ) (r : Result Claimed Refusal) → claim_told r ≡ auth_at s → accepted r ≡ bare (auth_at s)
auth_accepted s (Ok t) h = rw (← h)
auth_accepted s (Err e) h = rw (← h)

-- what `carry` promises, of a call whose post P says what the reader promises
module _ (id contents x z : List ℕ) (r : Result ℕ Refusal) where
  pub key_kept : {P : Bor (List ℕ) → Result Shard Refusal → Type 0}
      → ((g : Answer Unit) → Reads P contents g → Written 0 (payload_frame_of 0x4B id contents g) x z r)
      → ((s : Bor (List ℕ)) (q : Result Shard Refusal) → P s q → shard_told q ≡ shard_at s.now)
      → Written 0 (key_frame id contents) x z r
  key_kept f h =
      rw (← frame_bare 0x4B id contents (shard_at contents)) (f (bare (shard_at contents)) (λ s q e w. shard_accepted contents q (rw (← e) (h s q w))))

  pub auth_kept : {P : Bor (List ℕ) → Result Claimed Refusal → Type 0}
      → ((g : Answer Unit) → Reads P contents g → Written 0 (payload_frame_of 0x41 id contents g) x z r)
      → ((s : Bor (List ℕ)) (q : Result Claimed Refusal) → P s q → claim_told q ≡ auth_at s.now)
      → Written 0 (auth_frame id contents) x z r
  auth_kept f h =
      rw (← frame_bare 0x41 id contents (auth_at contents)) (f (bare (auth_at contents)) (λ s q e w. auth_accepted contents q (rw (← e) (h s q w))))
