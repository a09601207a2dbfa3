-- For `search`: a test that a call answered picks its case of a verdict. Assumes nothing.
use borrow.Author.Tests.{le-leb, lt-leb}
use Rattle.wire.proofs.Branch.{then_yes, then_no}
use Rattle.wire.proofs.Cases.{said_no, said_yes}

pub ruleset verdicts = (then_yes, then_no, said_no, said_yes, le-leb, lt-leb)
