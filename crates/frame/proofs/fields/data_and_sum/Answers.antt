-- `frame::fields::data_and_sum` meets its contract: what is left is the length and four bytes more,
-- and then the sum decides. Assumes nothing.
use native.Mathlib.Omega.{arith}
use Rattle.wire.proofs.Cases.{flag}
use Rattle.frame.proofs.Within.{data_cut, data_stands, data_differs}
use Rattle.frame.proofs.fields.data_and_sum.Goals as goal

pub returns-then-left-lt4 : goal.returns-then-left-lt4
returns-then-left-lt4 c = data_cut _ _ _ (λ e. omega arith)

pub returns-then-left-len : goal.returns-then-left-len
returns-then-left-len c = data_cut _ _ _ (λ e. omega arith)

pub returns-then-sum_stands : goal.returns-then-sum_stands
returns-then-sum_stands c = data_stands _ _ _ (omega arith) (flag _ _ _ c.sum_stands.ensures c.if-sum_stands.true)

pub returns : goal.returns
returns c = data_differs _ _ _ (omega arith) (flag _ _ _ c.sum_stands.ensures c.if-sum_stands.false)
