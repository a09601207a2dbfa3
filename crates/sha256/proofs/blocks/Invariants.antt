-- `sha256::blocks` meets its contract: so many blocks are hashed, and a turn hashes the next.
use mathlib.Core.Path.{◌≡◌}
use Rattle.sha256.specs.Sha.{blocks}
use Rattle.sha256.proofs.blocks.Given as goal

abbrev pub invariant-loop-b : goal.invariant-loop-b
invariant-loop-b l = l.x ≡ blocks l.b-index l.s l.initial.x
