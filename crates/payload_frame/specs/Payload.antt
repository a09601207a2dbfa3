-- Key and auth frames, written: section 7 of docs/RULES.md.
use Rattle.std.specs.Prelude.{ℕ, List, eqb, leb, length}
use Rattle.wire.specs.Answer.{Answer, done, then, demand}
use Rattle.wire.specs.Sizes.{most_data, id_size}
use Rattle.frame.specs.Layout.{layout}
use Rattle.auth.specs.Auth.{auth_at}
use Rattle.shard.specs.Shard.{shard_at}

-- an id of another length is 19, too much data 9; then what the payload's reader refuses of the
-- data; else the frame, the first of one (R7.5)
unfoldable pub payload_frame_of : {A : Type 0} → (kind : ℕ) (id contents : List ℕ) (read : Answer A) → Answer (List ℕ)
payload_frame_of kind id contents read =
    demand (eqb (length id) id_size) 19
    (demand (leb (length contents) most_data) 9
    (then read (λ _.
    done (layout kind id 0 1 contents))))

-- the frame of a shard payload (R7.5)
abbrev pub key_frame : List ℕ → List ℕ → Answer (List ℕ)
key_frame id contents = payload_frame_of 0x4B id contents (shard_at contents)

-- the frame of an auth payload (R7.5)
abbrev pub auth_frame : List ℕ → List ℕ → Answer (List ℕ)
auth_frame id contents = payload_frame_of 0x41 id contents (auth_at contents)
