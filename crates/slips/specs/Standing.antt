-- Where slips stand in an input: how it is cut into lines, and lines are put together (R15.18).
use Rattle.std.specs.Prelude.{ℕ, suc, ◌+◌, Bool, true, false, ◌&&◌, Option, Some, None, List, [], ◌∷◌, ltb, leb, eqb, length, drop}
use Rattle.wire.specs.Answer.{choose}
use Rattle.typed.specs.Typed.{full_line, feed, plain, cut}
use Rattle.slips.specs.declared.Slip.{Slip}

-- the lines from index at on: what stands between line feeds. Behind a line feed at the very end
-- stands one more, which is empty, and parts nothing
abbrev pub lines_from : List ℕ → ℕ → List (List ℕ)
lines_from s at = cut [] (drop at s)

abbrev pub first_line : List (List ℕ) → List ℕ
first_line [] = []
first_line (l ∷ ls) = l

-- how many characters of a line count: all but spaces, tabs and dashes
abbrev pub count : List ℕ → ℕ
count l = length (plain l)

-- a typed line has some that count, and no more than a full one has
unfoldable pub is_typed : List ℕ → Bool
is_typed l = ltb 0 (count l) && leb (count l) full_line

-- how many bytes behind a typed line belong to its slip: the typed lines that follow it directly,
-- each with the line feed in front of it
unfoldable pub run_on : List (List ℕ) → ℕ
run_on [] = 0
run_on (l ∷ ls) = choose (is_typed l) (1 + length l + run_on ls) 0

-- the first slip of lines, of which the first begins at index at: a longer line is a scan, a typed
-- one begins the typed lines of one slip, and one of no characters parts slips
unfoldable pub next_in : ℕ → List (List ℕ) → Option Slip
next_in at [] = None
next_in at (l ∷ ls) =
    choose (ltb full_line (count l)) (Some (record { start = at; len = length l; typed = false }))
    (choose (ltb 0 (count l)) (Some (record { start = at; len = length l + run_on ls; typed = true }))
    (next_in (at + length l + 1) ls))

-- the first slip from index at on. The slips of an input are the first from 0 on, and behind each
-- the first from its end on
unfoldable pub next_from : List ℕ → ℕ → Option Slip
next_from s at = next_in at (lines_from s at)

-- how many line feeds there are: what stands behind so many is one line further
unfoldable pub feeds : List ℕ → ℕ
feeds [] = 0
feeds (c ∷ cs) = choose (eqb c feed) (suc (feeds cs)) (feeds cs)
