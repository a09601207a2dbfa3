-- `frame::form::numbers` meets its contract: each varint starts where the one before it ended.
-- Assumes nothing.
use native.Mathlib.Omega.{arith}
use Rattle.frame.proofs.Laying.{numbers_laid}
use Rattle.frame.proofs.Lengths.{numbers_length}
use Rattle.frame.proofs.form.numbers.Goals as goal

pub number-a-requires : goal.number-a-requires
number-a-requires c =
    let a = c.args in
    omega (arith, numbers_length a.index a.total a.len)

pub number-b-requires : goal.number-b-requires
number-b-requires c =
    let a = c.args in
    omega (arith, numbers_length a.index a.total a.len)

pub number-requires : goal.number-requires
number-requires c =
    let a = c.args in
    omega (arith, numbers_length a.index a.total a.len)

pub returns : goal.returns
returns c =
    numbers_laid _ _ _ _ _ _ _ _ _ _ _ c.requires c.number-a.ensures c.number-b.ensures c.number.ensures
