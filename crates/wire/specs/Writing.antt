-- What a call that writes answers, and what it leaves in the lent output: section 2 of
-- docs/RULES.md.
use Rattle.std.specs.Prelude.{ℕ, ◌+◌, List, Result, leb, length}
use Rattle.wire.specs.Answer.{Answer, done, then, demand, Change, leaves, Kept}
use Rattle.wire.specs.Over.{over}
pub use Rattle.wire.specs.Reading.{told}
use Rattle.wire.specs.declared.Refusal.{Refusal}

-- how many bytes were decided on, or the refusal
abbrev pub outcome : Answer (List ℕ) → Answer ℕ
outcome v = then v (λ bs. done (length bs))

-- what was decided, bytes or a refusal, goes into the output from index at on; the output is judged
-- last: 11 where the bytes do not fit (R2.4)
unfoldable pub writing : ℕ → List ℕ → Answer (List ℕ) → Change ℕ
writing at out v = then v (λ bs. demand (leb (at + length bs) (length out)) 11 (leaves (over at bs out) (length bs)))

-- the whole promise of a writer at index at (R1.2): its answer, and every byte of its output
abbrev pub Written : (at : ℕ) (v : Answer (List ℕ)) (out out' : List ℕ) (r : Result ℕ Refusal) → Type 0
Written at v out out' r = Kept (writing at out v) out out' (told r)
