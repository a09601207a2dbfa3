-- `book::head_ok` meets its contract: the head is written anew from what it says, and compared.
-- Assumes nothing.
use native.Mathlib.Omega.{arith}
use Rattle.book.proofs.Heads.{size_no, total_no, head_again}
use Rattle.book.proofs.head_ok.Goals as goal

pub returns-then-c-ne-COLLECTION_SIZE : goal.returns-then-c-ne-COLLECTION_SIZE
returns-then-c-ne-COLLECTION_SIZE c = size_no _ (λ e. omega (arith, e))

pub returns-then-not-total_ok : goal.returns-then-not-total_ok
returns-then-not-total_ok c = search total_no

pub returns : goal.returns
returns c = search head_again
