-- `digits::hex_value` meets its contract. Assumes nothing.
use native.Mathlib.Omega.{arith}
use Rattle.digits.proofs.Hexes.{below_figures, figure, between, a_letter, above_letters}
use Rattle.digits.proofs.hex_value.Goals as goal

pub returns-in-48-to-57 : goal.returns-in-48-to-57
returns-in-48-to-57 c = figure _ (omega arith) (omega arith)

pub returns-in-97-to-102 : goal.returns-in-97-to-102
returns-in-97-to-102 c = a_letter _ (omega arith) (omega arith)

pub returns-in_default : goal.returns-in_default
returns-in_default c = below_figures _ (omega arith)

pub returns-in_default-2 : goal.returns-in_default-2
returns-in_default-2 c = between _ (omega arith) (omega arith)

pub returns-in_default-3 : goal.returns-in_default-3
returns-in_default-3 c = above_letters _ (omega arith)
