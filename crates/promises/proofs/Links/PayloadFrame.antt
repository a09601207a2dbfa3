-- From the contracts of `payload_frame_of` in the source to the definitions that the demands cite.
-- Assumes nothing.
use Rattle.wire.specs.Writing.{Written}
use Rattle.promises.specs.Calls.{Call}
use Rattle.payload_frame.specs.Payload.{key_frame, auth_frame}
use Rattle.payload_frame.proofs.key as payload-frame-key
use Rattle.payload_frame.proofs.auth as payload-frame-auth

pub payload_frame_key_link : (k : Call payload-frame-key.Kinds.ps payload-frame-key.Kinds.r payload-frame-key.Reads.Learnt)
    → Written 0 (key_frame k.args.0.now k.args.1.0.now) k.args.1.1.0.now k.left.1.1.0 k.answer
payload_frame_key_link k = k.kept

pub payload_frame_auth_link : (k : Call payload-frame-auth.Kinds.ps payload-frame-auth.Kinds.r payload-frame-auth.Reads.Learnt)
    → Written 0 (auth_frame k.args.0.now k.args.1.0.now) k.args.1.1.0.now k.left.1.1.0 k.answer
payload_frame_auth_link k = k.kept
