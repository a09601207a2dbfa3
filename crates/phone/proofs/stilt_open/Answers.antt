-- `stilt_open` meets its contract. Assumes nothing.
use borrow.Author.Rules.{rules}
use Rattle.collection.specs.Answer.{told}
use Rattle.phone.specs.Packed.{packed_answer}
use Rattle.phone.proofs.Packing.{passed_on}
use Rattle.phone.proofs.stilt_open.Goals as goal

pub returns : goal.returns
returns c = record { value = search (passed_on packed_answer told); c_after = search rules }
