-- What a session notes beside its collection: how many lines came to what, and what is wrong with
-- the first (R15.9, R15.10). The notes are six numbers: one for each kind of a line, then the fault
-- of the first.
use Rattle.std.specs.Prelude.{ℕ, ◌+◌, ◌-◌, ◌^◌, List, [], ◌∷◌, eqb, ltb, get_or, set}
use Rattle.wire.specs.Answer.{choose}
use Rattle.scan.specs.Session.{At, line_of, next}
use Rattle.notes.specs.Line.{line_kind, id_fault}

-- one more of a kind; a number that is full stays
unfoldable pub raised : List ℕ → ℕ → List ℕ
raised n k = choose (ltb (get_or n k 0) (2 ^ 64 - 1)) (set n k (get_or n k 0 + 1)) n

-- a line has ended: the first names the document, each further one is a scan, and after a refusal
-- nothing is noted
unfoldable pub noted : At → List ℕ → List ℕ
noted s n =
    choose (eqb s.phase 0) (set n 5 (id_fault (line_of s)))
    (choose (eqb s.phase 1) (raised n (line_kind s.collection (line_of s))) n)

-- byte by byte, beside the session's own steps (scan, Session)
unfoldable pub noted_next : At → List ℕ → ℕ → List ℕ
noted_next s n b = choose (eqb b 10) (noted s n) n

unfoldable pub noted_all : At → List ℕ → List ℕ → List ℕ
noted_all s n [] = n
noted_all s n (b ∷ bs) = noted_all (next s b) (noted_next s n b) bs

-- at the end of the input (R15.3)
unfoldable pub noted_last : At → List ℕ → List ℕ
noted_last s n = choose (eqb s.len 0) n (noted s n)
