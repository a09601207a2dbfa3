-- `sha256::tail` meets its contract: the rest of the message, the mark, zeros and the length.
use mathlib.Core.Path.{◌≡◌, ◌∙◌}
use Prim.Native.Nat.{◌-◌}
use native.Mathlib.Omega.{arith}
use lib.ListN.{length, take, drop, length-drop}
use lib.Seq.{take_all}
use Rattle.sha256.proofs.Message.{tail_filled}
use Rattle.sha256.proofs.tail.Goals as goal

pub returns : goal.returns
returns c =
    let a = c.args in
    let s = a.s.now in
    let p : take (length s - a.at) (drop a.at s) ≡ drop a.at s = take_all (length s - a.at) (drop a.at s) (simp length-drop (omega arith)) in
    tail_filled s _ _ _ a.at a.len _ c.requires.0 c.requires.1 c.requires.2 (omega arith) p c.copy_from_slice.ensures.after (c.copy_from_slice-2.ensures.after ∙ c.to_be_bytes.ensures)
