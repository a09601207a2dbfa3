-- What a program's status is told by: one digit.
use Rattle.std.specs.Prelude.{ℕ}
use Rattle.edge.specs.declared.Status.{Status}
use Rattle.edge.specs.declared.Status.TheVariants as status

-- For the reader: 0, 1 or 2, in ASCII
abbrev pub digit : Status → ℕ
digit status.Done = 48
digit status.Failed = 49
digit status.Wrong = 50
