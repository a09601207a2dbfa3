-- `stilt_status` meets its contract. Assumes nothing.
use mathlib.Core.Path.{ap, ◌∙◌}
use native.Mathlib.Omega.{arith}
use borrow.Author.Rules.{rules}
use Rattle.status.specs.Numbers.{told}
use Rattle.phone.specs.Packed.{packed, packed_numbers}
use Rattle.phone.proofs.Packing.{packs}
use Rattle.phone.proofs.stilt_status.Goals as goal

pub returns-in-Ok : goal.returns-in-Ok
returns-in-Ok c =
    record {
      value = packs packed_numbers told _ _ _ _ _ _ c.of.ensures c.in-Ok.is (c.pack.ensures ∙ ap (packed 0 c.in-Ok.n.stands) (omega (arith, c.from.ensures, c.from_le_bytes.ensures)));
      pages_after = search rules;
    }

pub returns-in-Err : goal.returns-in-Err
returns-in-Err c = record { value = packs packed_numbers told _ _ _ _ _ _ c.of.ensures c.in-Err.is (omega arith); pages_after = search rules }
