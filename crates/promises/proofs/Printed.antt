-- The first line that press prints, without its line feed, is read by `pier` as exactly the
-- document's id. Assumes nothing.
use Prim.Native.Nat.{ℕ}
use mathlib.Core.Path.{◌≡◌, ◌∙◌}
use mathlib.Core.List.{List}
use native.Mathlib.Omega.{arith}
use borrow.Author.Tests.{eq-eqb}
use lib.ListN.{length}
use Rattle.wire.specs.Answer.{done}
use Rattle.digits.specs.Hex.{hex_of}
use Rattle.digits.proofs.Hexes.{hex_length, hex_back}
use Rattle.document_id.specs.Id.{document_id_of}
use Rattle.document_id.proofs.Ids.{id_length, id_bytes}
use Rattle.scan.specs.Id.{id_verdict}

pub press_id : (c : List ℕ) → id_verdict (hex_of (document_id_of c)) ≡ done (document_id_of c)
unfolding id_verdict
press_id c =
    let n : length (hex_of (document_id_of c)) ≡ 16 = hex_length (document_id_of c) ∙ omega (arith, id_length c) in
    rw (eq-eqb (length (hex_of (document_id_of c))) 16 n) (hex_back (document_id_of c) (id_bytes c))
