-- `stilt_typed` meets its contract. Assumes nothing.
use native.Mathlib.Omega.{arith}
use borrow.Author.Rules.{rules}
use Rattle.wire.specs.Reading.{told_at}
use Rattle.phone.specs.Packed.{packed_typed}
use Rattle.phone.proofs.Packing.{packs, typed_most}
use Rattle.phone.proofs.stilt_typed.Goals as goal

pub pack-requires : goal.pack-requires
pack-requires c = search typed_most

pub returns-in-Ok : goal.returns-in-Ok
returns-in-Ok c = record { value = search (packs packed_typed told_at); out_after = search rules }

pub returns-in-Err : goal.returns-in-Err
returns-in-Err c = record { value = packs packed_typed told_at _ _ _ _ _ _ c.read.ensures c.in-Err.is (omega arith); out_after = search rules }
