-- `notes::line::fault` meets its contract. Assumes nothing.
use Rattle.notes.proofs.Firsts.{fault_byte, fault_none, fault_length}
use Rattle.notes.proofs.line.fault.Goals as goal

pub returns-then-hex_value-gt15 : goal.returns-then-hex_value-gt15
returns-then-hex_value-gt15 c = search fault_byte

pub returns-then-line-eq16 : goal.returns-then-line-eq16
returns-then-line-eq16 c = search fault_none

pub returns : goal.returns
returns c = search fault_length
