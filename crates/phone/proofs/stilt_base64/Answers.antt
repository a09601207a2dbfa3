-- `stilt_base64` meets its contract. Assumes nothing.
use native.Mathlib.Omega.{arith}
use borrow.Author.Rules.{rules}
use Rattle.wire.specs.Writing.{told}
use Rattle.phone.specs.Packed.{packed_text}
use Rattle.phone.proofs.Packing.{packs}
use Rattle.phone.proofs.stilt_base64.Goals as goal

pub returns-in-Ok : goal.returns-in-Ok
returns-in-Ok c = record { value = search (packs packed_text told); out_after = search rules }

pub returns-in-Err : goal.returns-in-Err
returns-in-Err c = record { value = packs packed_text told _ _ _ _ _ _ c.base64_read.ensures c.in-Err.is (omega arith); out_after = search rules }
