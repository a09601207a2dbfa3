-- `lend::plain_byte` meets its contract. Assumes nothing.
use native.Mathlib.Omega.{arith}
use borrow.Author.Tests.{lt-ltb, le-ltb, le-leb, lt-leb}
use Rattle.lend.specs.Plain.{plain_byte}
use Rattle.lend.proofs.plain_byte.Goals as goal

pub returns-in-32-to-126 : goal.returns-in-32-to-126
unfolding plain_byte
returns-in-32-to-126 c = let b = c.args.b in rw (le-ltb b 0x20 (omega arith), le-leb b 0x7e (omega arith))

pub returns-in_default : goal.returns-in_default
unfolding plain_byte
returns-in_default c = rw (lt-ltb c.args.b 0x20 (omega arith))

pub returns-in_default-2 : goal.returns-in_default-2
unfolding plain_byte
returns-in_default-2 c = let b = c.args.b in rw (le-ltb b 0x20 (omega arith), lt-leb b 0x7e (omega arith))
