-- What `typist` makes of the typed lines of a page, and what is wrong with lines that are none:
-- R15.14 and R15.15 of docs/RULES.md.
use Rattle.std.specs.Prelude.{ℕ, suc, Bool, true, ◌||◌, List, [], ◌∷◌, ◌++◌, ltb, eqb, length}
use Rattle.wire.specs.Answer.{choose, Answer, done, refused_at, then, Got}
use Rattle.digits.specs.Decimal.{line_feed}
use Rattle.text.specs.Text.{base64, text_of}
use Rattle.typed.specs.Typed.{most_lines, feed, skipped, is_letter, plain, lines_of, count_right, none, read_typed, read_line}
use Rattle.frame.specs.Frame.{Frame, frame_of}
use Rattle.typing.specs.declared.Fault.{Fault}
use Rattle.typing.specs.declared.Fault.TheVariants.{Good, Nothing, Letter, Count, Surplus, Mistyped, Whole}

-- the bytes of the lines, where they are a frame, as the line that `pier` and `pantry` read
-- (R15.14)
unfoldable pub scan_of : List ℕ → Answer (List ℕ)
scan_of cs = then (read_typed cs) (λ bs. then (frame_of bs) (λ _. done (text_of base64 bs ++ line_feed)))

-- ---- what is wrong with a page

-- a character that lines may have
unfoldable pub may_stand : ℕ → Bool
may_stand c = eqb c feed || (skipped c || is_letter c)

-- the number of the line of what follows a character of line n
unfoldable pub line_after : ℕ → ℕ → ℕ
line_after n c = choose (eqb c feed) (suc n) n

-- the number of the line with the first character that may not stand there, where the text begins
-- with line n; 0 where each may
unfoldable pub odd_line : ℕ → List ℕ → ℕ
odd_line n [] = 0
odd_line n (c ∷ cs) = choose (may_stand c) (odd_line (line_after n c) cs) n

-- the first line that is one too many, or has not as many characters as it may, with how many it
-- has and whether it is the last; where there is none, the data of all lines does not end as bytes
-- do
unfoldable pub count_fault : ℕ → List (List ℕ) → Fault
count_fault n [] = Whole 2
count_fault n (l ∷ more) =
    choose (ltb most_lines n) Surplus
    (choose (count_right (none more) (length l)) (count_fault (suc n) more)
    (Count n (length l) (none more)))

-- the frame's own refusal
abbrev pub frame_fault : Got Frame → Fault
frame_fault (done f) = Good
frame_fault (refused_at e place) = Whole e

-- by what the reader answers: 1, 2 or 23
abbrev pub fault_in : List ℕ → Answer (List ℕ) → Fault
fault_in cs (done bs) = frame_fault (frame_of bs)
fault_in cs (refused_at e line) = choose (eqb e 1) (Letter (odd_line 1 cs)) (choose (eqb e 2) (count_fault 1 (lines_of cs)) (Mistyped line))

-- what is wrong with the lines of a page; no bytes are no lines
unfoldable pub fault_of : List ℕ → Fault
fault_of cs = choose (eqb (length cs) 0) Nothing (fault_in cs (read_typed cs))

-- ---- what is wrong with one line, which may be the last (R15.15)

abbrev pub line_in : ℕ → List ℕ → Answer Unit → Fault
line_in n cs (done _) = Good
line_in n cs (refused_at e line) = choose (eqb e 1) (Letter n) (choose (eqb e 2) (Count n (length (plain cs)) true) (Mistyped line))

unfoldable pub line_fault : ℕ → List ℕ → Fault
line_fault n cs = line_in n cs (read_line true n cs)
