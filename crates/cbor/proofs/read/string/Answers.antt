-- `cbor::read::string` meets its contract: a number, and the contents after it. Assumes nothing.
use Rattle.cbor.specs.Item.{string_at}
use Rattle.wire.proofs.Answers.{reads}
use Rattle.cbor.proofs.Answers.{handed_own, handed_fault}
use Rattle.cbor.proofs.read.string.Goals as goal

pub returns-in_err-n : goal.returns-in_err-n
unfolding string_at
returns-in_err-n g c = search (reads, handed_own g.E.Fault.number_of_fault _ _ c.from_residual.ensures, c.in_err-n.ensures) depth 24

pub returns-in_err-contents : goal.returns-in_err-contents
unfolding string_at
returns-in_err-contents g c = search (reads, handed_fault _ _ g.met.E.Fault.laws.0 _ _ c.from_residual-in_err-contents.ensures, c.in_ok-n.ensures, c.in_err-contents.ensures) depth 24

pub returns : goal.returns
unfolding string_at
returns g c = search (reads, c.in_ok-n.ensures, c.in_ok-contents.ensures) depth 24
