-- Typed lines: R5.8 to R5.14 of docs/RULES.md.
use Rattle.std.specs.Prelude.{ℕ, Result, zero, suc, ◌+◌, ◌-◌, ◌*◌, ◌/◌, ◌%◌, Bool, true, false, ◌&&◌, ◌||◌, List, [], ◌∷◌, ◌++◌, ltb, leb, eqb, length, get_or, take, drop}
use Rattle.wire.specs.Answer.{choose, Answer, done, then, demand_at, demand, Kept}
use Rattle.wire.specs.Every.{every}
use Rattle.wire.specs.Reading.{told_at}
use Rattle.wire.specs.Writing.{writing}
use Rattle.wire.specs.declared.RefusedAt.{RefusedAt}
use Rattle.text.specs.Text.{zbase32, value, letter, text_of, read_text}

-- ---- sizes (R5.8, R5.9)

-- a page has at most so many lines
abbrev pub most_lines : ℕ
most_lines = 20

-- a full line has so many characters of data, and two of the check behind them
abbrev pub full_data : ℕ
full_data = 40

abbrev pub full_line : ℕ
full_line = full_data + 2

-- what is typed has at most so many bytes: those of a full page's frame
abbrev pub most_typed : ℕ
most_typed = 500

-- ---- characters and lines

-- the space, the tab and the dash are skipped, and nothing else (R5.11)
unfoldable pub skipped : ℕ → Bool
skipped c = eqb c 0x20 || (eqb c 0x09 || eqb c 0x2D)

-- a text without the skipped characters
unfoldable pub plain : List ℕ → List ℕ
plain [] = []
plain (c ∷ cs) = choose (skipped c) (plain cs) (c ∷ plain cs)

-- a character of z-base-32 (R5.3)
unfoldable pub is_letter : ℕ → Bool
is_letter c = ltb (value zbase32 c) 32

abbrev pub feed : ℕ
feed = 0x0A

-- what stands between line feeds; `line` is the beginning of the first (R5.8)
unfoldable pub cut : List ℕ → List ℕ → List (List ℕ)
cut line [] = line ∷ []
cut line (c ∷ cs) = choose (eqb c feed) (line ∷ cut [] cs) (cut (line ++ (c ∷ [])) cs)

-- the lines of a text, of their characters alone: no bytes are no lines, and any others are at
-- least one (R5.8)
unfoldable pub lines_of : List ℕ → List (List ℕ)
lines_of [] = []
lines_of (c ∷ cs) = cut [] (plain (c ∷ cs))

-- how many characters a line may have: exactly 42, and the last line 3 to 42 (R5.9)
unfoldable pub count_right : (last : Bool) → ℕ → Bool
count_right true n = leb 3 n && leb n full_line
count_right false n = eqb n full_line

abbrev pub none : List (List ℕ) → Bool
none [] = true
none (l ∷ ls) = false

unfoldable pub counts_right : List (List ℕ) → Bool
counts_right [] = true
counts_right (l ∷ more) = count_right (none more) (length l) && counts_right more

-- ---- the check of a line (R5.10)

-- each character's place times its value, added up, the first place being `place`
unfoldable pub weighed : (place : ℕ) → List ℕ → ℕ
weighed place [] = 0
weighed place (c ∷ cs) = place * value zbase32 c + weighed (suc place) cs

-- of the data of line n: places count from 1
unfoldable pub check_of : ℕ → List ℕ → ℕ
check_of n cs = (weighed 1 cs + 41 * n) % 1021

-- its quotient and its remainder by 32, each as a character
unfoldable pub check_letters : ℕ → List ℕ → List ℕ
check_letters n cs = letter zbase32 (check_of n cs / 32) ∷ letter zbase32 (check_of n cs % 32) ∷ []

-- the data of a line: all but its last two characters
unfoldable pub data_of : List ℕ → List ℕ
data_of l = take (length l - 2) l

-- the last two are the check of the others, on line n
unfoldable pub right : ℕ → List ℕ → Bool
right n l =
    eqb (get_or l (length l - 2) 0) (letter zbase32 (check_of n (data_of l) / 32))
    && eqb (get_or l (length l - 1) 0) (letter zbase32 (check_of n (data_of l) % 32))

-- ---- read (R5.12)

-- the data of all lines, of which the first is line n; 23 with the number of the first whose check
-- is wrong
unfoldable pub joined_from : ℕ → List (List ℕ) → Answer (List ℕ)
joined_from n [] = done []
joined_from n (l ∷ more) = demand_at (right n l) 23 n (then (joined_from (suc n) more) (λ rest. done (data_of l ++ rest)))

-- a character that no text may have, anywhere; then how many lines there are and how long each is;
-- then their checks; then the data, which is a z-base-32 text (R5.12)
unfoldable pub read_typed : List ℕ → Answer (List ℕ)
read_typed cs =
    demand (every (λ c. eqb c feed || is_letter c) (plain cs)) 1
    (demand (leb (length (lines_of cs)) most_lines && counts_right (lines_of cs)) 2
    (then (joined_from 1 (lines_of cs)) (read_text zbase32)))

-- one line by itself: that it is line n of a page, the last one or not (R5.14)
unfoldable pub read_line : (last : Bool) → ℕ → List ℕ → Answer Unit
read_line last n cs =
    demand (every is_letter (plain cs)) 1
    (demand ((leb 1 n && leb n most_lines) && count_right last (length (plain cs))) 2
    (demand_at (right n (plain cs)) 23 n (done tt)))

-- ---- write (R5.13)

-- characters in at most k rows of 40; the last row has what is left
unfoldable pub rows : ℕ → List ℕ → List (List ℕ)
rows zero cs = []
rows (suc k) [] = []
rows (suc k) (c ∷ cs) = take full_data (c ∷ cs) ∷ rows k (drop full_data (c ∷ cs))

-- a line: its data, and its check
abbrev pub with_check : ℕ → List ℕ → List ℕ
with_check n cs = cs ++ check_letters n cs

-- each row as a line, of which the first is line n
unfoldable pub numbered : ℕ → List (List ℕ) → List (List ℕ)
numbered n [] = []
numbered n (r ∷ rs) = with_check n r ∷ numbered (suc n) rs

-- a line feed in front of each
unfoldable pub fed : List (List ℕ) → List ℕ
fed [] = []
fed (l ∷ ls) = feed ∷ (l ++ fed ls)

-- lines parted by line feeds
unfoldable pub parted : List (List ℕ) → List ℕ
parted [] = []
parted (l ∷ ls) = l ++ fed ls

-- the typed lines of bytes: no bytes are no lines
unfoldable pub typed_of : List ℕ → List ℕ
typed_of bs = parted (numbered 1 (rows most_lines (text_of zbase32 bs)))

unfoldable pub write_typed : List ℕ → Answer (List ℕ)
write_typed bs = demand (leb (length bs) most_typed) 9 (done (typed_of bs))

-- the whole promise of the reader: its answer, and every byte of its output (R1.2)
abbrev pub ReadLines : (v : Answer (List ℕ)) (out out' : List ℕ) (r : Result ℕ RefusedAt) → Type 0
ReadLines v out out' r = Kept (writing 0 out v) out out' (told_at r)
