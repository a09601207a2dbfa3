-- The parts of a path and where they lead: section 12 of docs/RULES.md.
use Rattle.std.specs.Prelude.{ℕ, ◌+◌, ◌-◌, Bool, not, ◌&&◌, ◌||◌, List, [], ◌∷◌, ◌++◌, ltb, eqb}
use Rattle.wire.specs.Answer.{choose}
use Rattle.wire.specs.Ascii.{ascii}
use Rattle.lend.specs.Same.{same}

-- `/`
abbrev pub slash : ℕ
slash = 0x2F

-- the folder itself
abbrev pub here : List ℕ
here = ascii "."

-- the folder above
abbrev pub above : List ℕ
above = ascii ".."

-- the parts of what is left to read, where p is what was read of the first of them
unfoldable pub parts_after : List ℕ → List ℕ → List (List ℕ)
parts_after p [] = p ∷ []
parts_after p (b ∷ s) = choose (eqb b slash) (p ∷ parts_after [] s) (parts_after (p ++ (b ∷ [])) s)

-- what the slashes of a text keep apart (R12.2): one part more than there are slashes
abbrev pub parts : List ℕ → List (List ℕ)
parts s = parts_after [] s

-- parts with a slash between each two. A text is its parts so joined, and joined parts are the
-- parts of the text: `joined_parts` and `parts_joined` of proofs/Names.antt
unfoldable pub slashed : List (List ℕ) → List ℕ
slashed [] = []
slashed (p ∷ []) = p
slashed (p ∷ q ∷ ps) = p ++ (slash ∷ slashed (q ∷ ps))

-- a part that names something: it is not empty, not `.` and not `..` (R12.2)
unfoldable pub is_name : List ℕ → Bool
is_name p = not (same p []) && (not (same p here) && not (same p above))

-- A walk that stands n folders below its start goes on along these parts: `..` leaves a folder, `.`
-- and an empty part lead nowhere, any other enters what it names. It stays below: no step goes
-- above the start, and the last ends below it (R12.4)
unfoldable pub stays_below : ℕ → List (List ℕ) → Bool
stays_below n [] = ltb 0 n
stays_below n (p ∷ ps) =
    choose (same p above) (ltb 0 n && stays_below (n - 1) ps)
    (choose (same p here || same p []) (stays_below n ps) (stays_below (n + 1) ps))
