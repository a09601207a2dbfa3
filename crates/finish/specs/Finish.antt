-- Finish: section 9 of docs/RULES.md.
use Rattle.std.specs.Prelude.{ℕ, List, Result, leb, length}
use Rattle.wire.specs.Answer.{Answer, done, then, demand, Change, leaves, Kept}
use Rattle.wire.specs.Over.{over}
use Rattle.wire.specs.Reading.{told_at}
use Rattle.wire.specs.declared.RefusedAt.{RefusedAt}
use Rattle.lend.specs.Same.{same}
use Rattle.document_id.specs.Id.{document_id_of}
use Rattle.model.specs.Finish.{finish_book}
use Rattle.book.specs.Read.{id_of, book_in}

-- 13 for the collection; then it says itself what it lacks, or the data (R9.10)
unfoldable pub collected : List ℕ → Answer (List ℕ)
collected c = then (book_in c) finish_book

-- of the data: 11 where they do not fit the output, then 17 where the document's id is not theirs
-- (R1.6, R9.10)
abbrev pub vouched : List ℕ → List ℕ → Answer (List ℕ) → Answer (List ℕ)
vouched id out v =
    then v (λ d.
    demand (leb (length d) (length out)) 11
    (demand (same (document_id_of d) id) 17
    (done d)))

-- the data to write (R1.6), or a refusal, in the order 13, 14, 15, 16, 11, 17 (R9.10); its place is
-- 0 except for 15 and 16 (R2.3)
unfoldable pub finished : List ℕ → List ℕ → Answer (List ℕ)
finished c out = vouched (id_of c) out (collected c)

-- the data to write stand in front of the output afterwards, and their number is answered (R2.4)
abbrev pub delivering : List ℕ → Answer (List ℕ) → Change ℕ
delivering out v = then v (λ d. leaves (over 0 d out) (length d))

abbrev pub finishing : List ℕ → List ℕ → Change ℕ
finishing c out = delivering out (finished c out)

-- the whole promise of finish: its answer, and every byte of its output (R1.2)
abbrev pub Closed : (v : Answer (List ℕ)) (out out' : List ℕ) (r : Result ℕ RefusedAt) → Type 0
Closed v out out' r = Kept (delivering out v) out out' (told_at r)
