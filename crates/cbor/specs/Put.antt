-- What a writer of one item answers, and what it leaves in the lent output. A payload's writer
-- judges first that all of it fits (R10.7).
use Rattle.std.specs.Prelude.{ℕ, ◌+◌, ◌≡◌, List, leb, length}
use Rattle.wire.specs.Answer.{choose}
use Rattle.wire.specs.Over.{over}

-- the position past a form that is written at position at; where it does not fit, nothing is
-- written and the position stays
unfoldable pub past : ℕ → List ℕ → List ℕ → ℕ
past at form out = choose (leb (at + length form) (length out)) (at + length form) at

-- the whole promise of a writer (R1.2): its answer, and every byte of its output
pub record Put (at : ℕ) (form out out' : List ℕ) (next : ℕ) : Type 0 where
  pub answer : next ≡ past at form out
  pub output : out' ≡ over at form out
