-- Safe and ending: what is left of the buffer falls, and the buffer keeps its length.
use Rattle.std.proofs.Common.{◌≡◌, ◌-◌, ◌≤◌, length}
use Rattle.wardens.proofs.deal.fill.Given as goal

abbrev pub invariant-loop-len : goal.invariant-loop-len
invariant-loop-len l = (l.len ≤ length l.input) × (length l.input ≡ length l.initial.input)

abbrev pub decreases-loop-len : goal.decreases-loop-len
decreases-loop-len l = length l.initial.input - l.len
