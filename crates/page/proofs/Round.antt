-- What the reader of frames finds in a printed page: its place, how many there are, the id, and the
-- bytes that the page was given. Either text in between changes nothing. Assumes nothing.
use Prim.Native.Nat.{ℕ, ◌*◌, ◌<◌}
use mathlib.Core.Path.{◌≡◌, refl}
use mathlib.Core.Logic.{inl}
use mathlib.Core.List.{List}
use native.Mathlib.Omega.{arith}
use borrow.Author.Tests.{lt-ltb, le-leb}
use lib.Dec.{lit<}
use lib.ListN.{length, take, drop}
use Rattle.wire.specs.Number.{Bytes}
use Rattle.wire.specs.Answer.{done}
use Rattle.wire.proofs.Digits.{small_take, small_drop}
use Rattle.text.specs.Text.{Form, text_of, read_text}
use Rattle.text.proofs.Forms.{Lawful}
use Rattle.text.proofs.Round.{read_written}
use Rattle.document_id.specs.Id.{document_id_of}
use Rattle.document_id.proofs.Ids.{id_length, id_bytes}
use Rattle.frame.specs.Allowed.{Allowed}
use Rattle.frame.proofs.Range.{layout_bytes}
use Rattle.frame.proofs.ReadsBack.{ReadsAs, reads_back}
use Rattle.page.specs.Page.{Printed, page_count, page_data, page_frame, printable, count_of, page_verdict}
use Rattle.page.proofs.Pages.{page_length}

module _ (c : List ℕ) (size : ℕ) (p : Printed c size) (i : ℕ) (here : i < page_count (length c) size) where
  -- the page is printed
  pub page_written : page_verdict c size i ≡ done (page_frame c size i)
  unfolding page_verdict count_of printable page_frame
  page_written =
      rw (lt-ltb 0 (length c) p.some, lt-ltb 0 size p.least, le-leb size 480 p.most, le-leb (page_count (length c) size) 96 p.fits, lt-ltb i (page_count (length c) size) here)

  allowed : Allowed 0x44 (document_id_of c) i (page_count (length c) size) (page_data c size i)
  allowed =
      record {
        type = inl refl;
        eight = id_length c;
        below = here;
        pages = p.fits;
        single = inl refl;
        short = omega (arith, page_length c size p.least i, p.most);
      }

  -- it reads back
  pub page_reads : ReadsAs (page_frame c size i) 0x44 (document_id_of c) i (page_count (length c) size) (page_data c size i)
  unfolding page_frame
  page_reads = reads_back 0x44 (document_id_of c) i (page_count (length c) size) (page_data c size i) allowed

  module _ (all : Bytes c) where
    pub page_bytes : Bytes (page_frame c size i)
    unfolding page_frame page_data
    page_bytes =
        layout_bytes 0x44 (document_id_of c) i (page_count (length c) size) (take size (drop (i * size) c)) (lit< tt) (id_bytes c) (omega (arith, here, p.fits)) (omega (arith, p.fits))
        (omega (arith, allowed.short)) (small_take 256 size (drop (i * size) c) (small_drop 256 (i * size) c all))

    -- and so does its text, in every form
    pub page_typed : (f : Form) → Lawful f → read_text f (text_of f (page_frame c size i)) ≡ done (page_frame c size i)
    page_typed f law = read_written f law (page_frame c size i) page_bytes
