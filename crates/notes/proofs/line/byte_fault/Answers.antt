-- `notes::line::byte_fault` meets its contract. Assumes nothing.
use native.Mathlib.Omega.{arith}
use Rattle.notes.proofs.Firsts.{a_return, a_control, a_blank, a_sign, a_capital, a_letter, a_beyond}
use Rattle.notes.proofs.line.byte_fault.Goals as goal

pub returns-in-13 : goal.returns-in-13
returns-in-13 c = a_return _ (omega arith)

pub returns-in-9-to-32 : goal.returns-in-9-to-32
returns-in-9-to-32 c = a_blank _ (λ e. omega arith) (omega arith) (omega arith)

pub returns-in-65-to-70 : goal.returns-in-65-to-70
returns-in-65-to-70 c = a_capital _ (omega arith) (omega arith)

pub returns-in-128-to-255 : goal.returns-in-128-to-255
returns-in-128-to-255 c = a_beyond _ (omega arith)

pub returns-in_default : goal.returns-in_default
returns-in_default c = a_control _ (omega arith)

pub returns-in_default-2 : goal.returns-in_default-2
returns-in_default-2 c = a_sign _ (omega arith) (omega arith)

pub returns-in_default-3 : goal.returns-in_default-3
returns-in_default-3 c = a_letter _ (omega arith) (omega arith)
