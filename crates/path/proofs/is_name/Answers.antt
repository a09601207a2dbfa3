-- `path::is_name` meets its contract. Assumes nothing.
use mathlib.Core.Path.{◌≡◌, ◌∙◌}
use mathlib.Core.Bool.{Bool, true, not, false≢true}
use Rattle.path.proofs.Names.{name_nothing, name_here, name_above}
use Rattle.path.proofs.is_name.Goals as goal
use Rattle.path.proofs.is_name.Goals.{then-not-is_empty, else-not-is_empty}

said_twice : (v r : Bool) → v ≡ true → v ≡ not r → r ≡ true → ⊥
said_twice v r e f g = false≢true (rw (f, g) at e)

pub returns-then-ne : goal.returns-then-ne
returns-then-ne c =
    elim c.if-not-is_empty.branch [
      | then-not-is_empty w ↦ name_above c.args.p.now w.as_slice.result.now c.if-not-is_empty.value w.ne.result w.if-not-is_empty.ensures w.as_slice.ensures w.ne.ensures w.value-is _ _ c.if-ne.true c.as_slice-then-ne.ensures c.ne-then-ne.ensures
      | else-not-is_empty w ↦ absurd (said_twice _ _ c.if-ne.true w.value-is w.if-not-is_empty.false)
    ]

pub returns-else-ne : goal.returns-else-ne
returns-else-ne c =
    elim c.if-not-is_empty.branch [
      | then-not-is_empty w ↦ name_here c.args.p.now w.as_slice.result.now c.if-not-is_empty.value w.ne.result w.if-not-is_empty.ensures w.as_slice.ensures w.ne.ensures w.value-is c.if-ne.false
      | else-not-is_empty w ↦ c.if-ne.false ∙ name_nothing _ w.if-not-is_empty.ensures
    ]
