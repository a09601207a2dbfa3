-- How the pantry takes up a saved collection again, and what it gives out: section 15 of
-- docs/RULES.md. The phases are those of a session (scan, Session): 1 is collecting.
use Rattle.std.specs.Prelude.{ℕ, List, eqb}
use Rattle.wire.specs.Answer.{Answer, demand, Change}
use Rattle.collection.specs.Collection.{joining}
use Rattle.finish.specs.Finish.{finished}

-- what was scanned joins what was saved: 19 where the first line was no document id, then join's
-- own 13 and 12 (R15.7)
unfoldable pub resuming : ℕ → List ℕ → List ℕ → Change Unit
resuming phase c saved = demand (eqb phase 1) 19 (joining c saved)

-- the ciphertext, or why there is none: 19 likewise, then the refusals of finish (R15.6)
unfoldable pub answered : ℕ → List ℕ → List ℕ → Answer (List ℕ)
answered phase c out = demand (eqb phase 1) 19 (finished c out)
