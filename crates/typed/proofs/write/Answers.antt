-- `typed::write` meets its contract. Assumes nothing.
use Rattle.typed.proofs.Laying.{too_many, few_enough}
use Rattle.typed.proofs.write.Goals as goal

pub returns-then-src-gt-MOST_TYPED : goal.returns-then-src-gt-MOST_TYPED
returns-then-src-gt-MOST_TYPED c = search too_many

pub returns : goal.returns
returns c = search few_enough
