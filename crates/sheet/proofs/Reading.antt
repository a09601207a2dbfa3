-- What is printed of a page reads back as its frame: the text of its code square, and the lines to
-- type. Assumes nothing.
use Prim.Native.Nat.{ℕ, ◌≤◌}
use mathlib.Core.Path.{◌≡◌, sym, ap, ◌∙◌}
use mathlib.Core.List.{List, [], ◌∷◌, ◌++◌}
use native.Mathlib.Omega.{arith}
use lib.ListN.{length}
use Rattle.wire.specs.Answer.{done}
use Rattle.wire.specs.Number.{Bytes}
use Rattle.digits.specs.Decimal.{line_feed}
use Rattle.text.specs.Text.{base64, text_of, read_text}
use Rattle.text.proofs.Forms.{base64_lawful}
use Rattle.typed.specs.Typed.{plain, read_typed, typed_of}
use Rattle.typed.proofs.Cutting.{skipped_free}
use Rattle.typed.proofs.Round.{read_written, written_read}
use Rattle.page.specs.Page.{page_count, page_frame, Printed}
use Rattle.page.proofs.Cutting.{counted_facts}
use Rattle.page.proofs.Round.{page_bytes, page_typed}
use Rattle.sheet.specs.Sheet.{to_type, printed_lines}
use Rattle.sheet.specs.Private.{There}
use Rattle.sheet.proofs.Texts.{page_short}
use Rattle.sheet.proofs.Groups.{printed_plain}
use Rattle.sheet.proofs.Typing.{first, others, lines_are, typed_are, spelt, typed_some}

plain_some : (cs ds : List ℕ) → plain cs ≡ ds → 1 ≤ length ds → 1 ≤ length cs
unfolding plain
plain_some [] ds e h = absurd (omega (arith, ap length e))
plain_some (c ∷ cs) ds e h = omega arith

module _ (c : List ℕ) (size k : ℕ) (t : There c size k) (all : Bytes c) where
  can_print : Printed c size
  can_print =
      let f = counted_facts (length c) size (page_count (length c) size) t.counted in
      record { some = f.0; least = f.1; most = f.2; fits = f.4 }

  -- For the reader: what a code square says reads back as the frame,
  pub scan_reads : read_text base64 (text_of base64 (page_frame c size k)) ≡ done (page_frame c size k)
  scan_reads = page_typed c size can_print k t.below all base64 base64_lawful

  -- For the reader: and so does what is typed line by line as it is printed, with its spaces and
  -- without the last line feed
  pub typed_reads : (text : List ℕ) × (printed_lines (to_type c size k) ≡ text ++ line_feed) × (read_typed text ≡ done (page_frame c size k))
  typed_reads =
      let frame : List ℕ = page_frame c size k in
      let reads : read_typed (typed_of frame) ≡ done frame = read_written frame (page_bytes c size can_print k t.below all) (page_short c size k t) in
      let (text, e, p) = printed_plain (first c size k) (others c size k) (spelt c size k) in
      let some = typed_some c size k in
      let same : plain text ≡ typed_of frame = p ∙ sym (typed_are c size k) in
      (text, ap printed_lines (lines_are c size k) ∙ e, skipped_free text (typed_of frame) (same ∙ sym (written_read (typed_of frame) frame reads).0) (plain_some text (typed_of frame) same some) some ∙ reads)
