-- The line of the id. Assumes nothing.
use mathlib.Core.Path.{◌≡◌, ◌∙◌}
use mathlib.Core.List.{List}
use Prim.Native.Nat.{ℕ, ◌≤◌}
use native.Mathlib.Omega.{arith}
use lib.ListN.{length, length-append}
use Rattle.wire.specs.Over.{over}
use Rattle.wire.proofs.Overs.{over_then}
use Rattle.digits.specs.Decimal.{line_feed}
use Rattle.digits.specs.Hex.{hex_of}
use Rattle.digits.proofs.Hexes.{hex_length}
use Rattle.document_id.specs.Id.{document_id_of}
use Rattle.document_id.proofs.Ids.{id_length}
use Rattle.sheet.specs.Sheet.{id_line}

pub id_line_length : (c : List ℕ) → length (id_line c) ≡ 17
unfolding id_line
id_line_length c = length-append (hex_of (document_id_of c)) line_feed ∙ omega (arith, hex_length (document_id_of c), id_length c)

pub id_laid : (c id l x y : List ℕ) → 17 ≤ length l → id ≡ document_id_of c → x ≡ over 0 (hex_of id) l → y ≡ over 16 line_feed x → y ≡ over 0 (id_line c) l
unfolding id_line
id_laid c id l x y room e f g =
    over_then 0 16 (hex_of (document_id_of c)) line_feed l x y g (f ∙ rw e) (omega (arith, hex_length (document_id_of c), id_length c)) (omega arith)
