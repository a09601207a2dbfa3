-- A page through a text form: the frame is made in a room of its own, which always suffices.
-- Assumes nothing.
use Prim.Native.Nat.{ℕ, ◌+◌, ◌≤◌, ◌<◌}
use mathlib.Core.Path.{◌≡◌, sym, ap, ◌∙◌}
use mathlib.Core.Logic.{⊎_elim}
use mathlib.Core.List.{List}
use native.Mathlib.Omega.{arith}
use borrow.Author.Tests.{ltb-true}
use lib.Dec.{ltb}
use lib.ListN.{length, take}
use Rattle.std.specs.Prelude.{Result, Ok, Err}
use Rattle.wire.specs.Answer.{Answer, done}
use Rattle.wire.specs.Writing.{Written}
use Rattle.wire.specs.Refusal.{number as told_number}
use Rattle.wire.specs.declared.Refusal.{Refusal}
use Rattle.wire.proofs.Cases.{passed, then_done, done_value}
use Rattle.wire.proofs.Overs.{read_over}
use Rattle.wire.proofs.Writes.{Stood, done_stood, refused_why, denied}
use Rattle.text.specs.Text.{Form, text_of}
use Rattle.varint.proofs.Lengths.{varint_length_two}
use Rattle.document_id.specs.Id.{document_id_of}
use Rattle.document_id.proofs.Ids.{id_length}
use Rattle.frame.specs.Layout.{layout}
use Rattle.frame.proofs.Lengths.{layout_length, layout_length_short}
use Rattle.page.specs.Page.{page_count, page_data, page_frame, count_of, page_verdict, typed}
use Rattle.page.proofs.Pages.{page_length}
use Rattle.page.proofs.Cutting.{counted_facts}

-- a frame of a page has at most 500 bytes
pub frame_short : (c : List ℕ) (size number : ℕ) (bs : List ℕ) → page_verdict c size number ≡ done bs → length bs ≤ 500
unfolding page_verdict
frame_short c size number bs e =
    let (n, h, t) = then_done (count_of (length c) size) _ e in
    let (l, q) = passed (ltb number n) _ 8 t in
    omega (arith, laid n (sym h) (ltb-true number n l), ap length (done_value q))
  where
    laid : (n : ℕ) → done n ≡ count_of (length c) size → number < n → length (layout 0x44 (document_id_of c) number n (page_data c size number)) ≤ 500
    laid n h l =
        let f = counted_facts (length c) size n h in
        let d = page_length c size f.1 number in
        omega (arith, f.2, f.4, layout_length_short 0x44 (document_id_of c) number n (page_data c size number) (id_length c) (omega (arith, f.4)) (omega (arith, f.4)), varint_length_two (length (page_data c size number)) (omega (arith, f.2)))

-- and it is not empty
pub frame_some : (c : List ℕ) (size number : ℕ) → 1 ≤ length (page_frame c size number)
unfolding page_frame
frame_some c size number = omega (arith, layout_length 0x44 (document_id_of c) number (page_count (length c) size) (page_data c size number) (id_length c))

-- of every form: room' is what the frame's writer left in the room, where it made a frame
module _ (v : Answer (List ℕ)) (room room' : List ℕ) (n : ℕ) (w : Written 0 v room room' (Ok n)) where
  stood : Stood 0 v room room' n
  stood = done_stood 0 v room room' n w

  pub made_fits : length room' ≡ length room → n ≤ length room'
  made_fits l = omega (arith, stood.fits)

  -- its text is what is written
  pub typed_done : (f : Form) (out out' : List ℕ) (r : Result ℕ Refusal) → Written 0 (done (text_of f (take n room'))) out out' r
      → Written 0 (typed f v) out out' r
  typed_done f out out' r t =
      let bs = stood.what in
      let l : 0 + length bs ≤ length room = omega (arith, stood.fits, stood.count) in
      let e : take n room' ≡ bs =
      ap (λ (k : ℕ). take k room') stood.count ∙ ap (λ (x : List ℕ). take (length bs) x) stood.stands ∙ read_over 0 bs room l in
      rw stood.meant (rw e at t)

-- it was refused, and so is the text
pub typed_refused : (c : List ℕ) (size number : ℕ) (room room' : List ℕ) (e : Refusal) → Written 0 (page_verdict c size number) room room' (Err e)
    → 500 ≤ length room → (f : Form) (out : List ℕ) → Written 0 (typed f (page_verdict c size number)) out out (Err e)
typed_refused c size number room room' e w h f out =
    ⊎_elim (λ q. rw q (denied 0 out e)) (λ q. absurd (omega (arith, q.2, frame_short c size number q.0 q.1, h)))
    (refused_why 0 (page_verdict c size number) room room' (told_number e) 0 w)
