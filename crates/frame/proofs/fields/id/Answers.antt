-- `frame::fields::id` meets its contract. Assumes nothing.
use Rattle.wire.proofs.Branch.{branch}
use Rattle.frame.specs.Frame.{id_at}
use Rattle.frame.proofs.fields.id.Goals as goal

pub returns-then-s-at-lt-ID_SIZE : goal.returns-then-s-at-lt-ID_SIZE
unfolding id_at
returns-then-s-at-lt-ID_SIZE c = search branch

pub returns : goal.returns
unfolding id_at
returns c = search branch
