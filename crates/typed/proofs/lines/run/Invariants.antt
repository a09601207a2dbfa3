-- `typed::lines::run` meets its contract: what is left decides. Assumes nothing.
use mathlib.Core.Path.{◌≡◌}
use Prim.Native.Nat.{◌≤◌}
use lib.ListN.{length, drop}
use Rattle.typed.specs.Private.{Fits, held, ran, start}
use Rattle.typed.proofs.lines.run.Given as goal

abbrev pub invariant-loop-c : goal.invariant-loop-c
invariant-loop-c l =
    (l.c-index ≤ length l.text) × (ran (start 1) l.text ≡ ran (held l.t l.line l.contents) (drop l.c-index l.text)) × Fits l.t × (length l.line ≡ length l.initial.line) × (length l.contents ≡ length l.initial.contents)
