-- One answer, by each contract itself: blocks, the collection and its status. Assumes nothing.
use mathlib.Core.Path.{◌≡◌, refl, sym, ap, ◌∙◌}
use native.Mathlib.Omega.{arith}
use Rattle.std.specs.Prelude.{Result, Ok, Err}
use Rattle.wire.specs.Answer.{number_of}
use Rattle.wire.specs.Reading.{told}
use Rattle.wire.specs.declared.Refusal.{Refusal}
use Rattle.wire.proofs.Answers.{number_injective}
use Rattle.block.specs.Block.{state_number}
use Rattle.block.specs.declared.PageState.{PageState}
use Rattle.block.specs.declared.PageState.TheVariants as page
use Rattle.book.proofs.Judging.{some_number}
use Rattle.promises.specs.Once.{Once, OnceSeen}
use Rattle.promises.proofs.Lasts.{here, past}
use Rattle.wire.proofs.Writes.{written_once, kept_once}
use Rattle.collection.proofs.Answers.{told_injective, kind_injective}
use Rattle.finish.proofs.Once.{finished_once}
use Rattle.mend.proofs.Once.{mended_injective}
use Rattle.block.proofs.seal as block-seal
use Rattle.block.proofs.hold as block-hold
use Rattle.block.proofs.dispute as block-dispute
use Rattle.block.proofs.vacate as block-vacate
use Rattle.block.proofs.state as block-state
use Rattle.block.proofs.contents as block-contents
use Rattle.block.proofs.holds as block-holds
use Rattle.block.proofs.well_formed as block-well-formed
use Rattle.book.proofs.place as book-place
use Rattle.book.proofs.write_head as book-write-head
use Rattle.book.proofs.state as book-state
use Rattle.book.proofs.total as book-total
use Rattle.book.proofs.id as book-id
use Rattle.book.proofs.id_copy as book-id-copy
use Rattle.book.proofs.judge_head as book-judge-head
use Rattle.book.proofs.page_ok as book-page-ok
use Rattle.book.proofs.judge as book-judge
use Rattle.book.proofs.blank as book-blank
use Rattle.book.proofs.tally.lowest as book-tally-lowest
use Rattle.book.proofs.tally.count as book-tally-count
use Rattle.collection.proofs.open as collection-open
use Rattle.collection.proofs.offer as collection-offer
use Rattle.collection.proofs.join as collection-join
use Rattle.finish.proofs.finish as finish-finish
use Rattle.mend.proofs.mend as mend-mend
use Rattle.status.proofs.status as status-status
use Rattle.status.proofs.standing.of as status-standing-of
use Rattle.status.proofs.Standings as standings

-- a state is its number, and what a judge answers is that of its refusal, or 0
state_same : (a b : PageState) → state_number a ≡ state_number b → a ≡ b
state_same page.Absent page.Absent e = refl
state_same page.Held page.Held e = refl
state_same page.Disputed page.Disputed e = refl
state_same page.Absent page.Held e = absurd (omega arith)
state_same page.Absent page.Disputed e = absurd (omega arith)
state_same page.Held page.Absent e = absurd (omega arith)
state_same page.Held page.Disputed e = absurd (omega arith)
state_same page.Disputed page.Absent e = absurd (omega arith)
state_same page.Disputed page.Held e = absurd (omega arith)

judged_same : (r q : Result Unit Refusal) → number_of (told r) ≡ number_of (told q) → r ≡ q
judged_same (Ok a) (Ok b) e = refl
judged_same (Ok a) (Err n) e = absurd (some_number n (sym e))
judged_same (Err m) (Ok b) e = absurd (some_number m e)
judged_same (Err m) (Err n) e = ap Err (number_injective m n e)

pub block_seal_once : Once block-seal.Kinds.ps block-seal.Kinds.r block-seal.Reads.Learnt
block_seal_once κs args x y u v p q = (refl, here (p ∙ sym q))

pub block_hold_once : Once block-hold.Kinds.ps block-hold.Kinds.r block-hold.Reads.Learnt
block_hold_once κs args x y u v p q = (refl, here (p ∙ sym q))

pub block_dispute_once : Once block-dispute.Kinds.ps block-dispute.Kinds.r block-dispute.Reads.Learnt
block_dispute_once κs args x y u v p q = (refl, here (p ∙ sym q))

pub block_vacate_once : Once block-vacate.Kinds.ps block-vacate.Kinds.r block-vacate.Reads.Learnt
block_vacate_once κs args x y u v p q = (refl, here (p ∙ sym q))

pub block_state_once : Once block-state.Kinds.ps block-state.Kinds.r block-state.Reads.Learnt
block_state_once κs args x y u v p q = (state_same x y (p ∙ sym q), refl)

-- a part of the collection is lent back, the data of a block: its bytes are fixed, not its place
pub block_contents_once : OnceSeen block-contents.Kinds.ps block-contents.Kinds.r (λ κs x. x.now) block-contents.Reads.Learnt
block_contents_once κs args x y u v p q = (p ∙ sym q, refl)

pub block_holds_once : Once block-holds.Kinds.ps block-holds.Kinds.r block-holds.Reads.Learnt
block_holds_once κs args x y u v p q = (p ∙ sym q, refl)

pub block_well_formed_once : Once block-well-formed.Kinds.ps block-well-formed.Kinds.r block-well-formed.Reads.Learnt
block_well_formed_once κs args x y u v p q = (p ∙ sym q, refl)

pub book_place_once : Once book-place.Kinds.ps book-place.Kinds.r book-place.Reads.Learnt
book_place_once κs args x y u v p q = (p ∙ sym q, refl)

pub book_write_head_once : Once book-write-head.Kinds.ps book-write-head.Kinds.r book-write-head.Reads.Learnt
book_write_head_once κs args x y u v p q = (refl, here (p ∙ sym q))

pub book_state_once : Once book-state.Kinds.ps book-state.Kinds.r book-state.Reads.Learnt
book_state_once κs args x y u v p q = (p ∙ sym q, refl)

pub book_total_once : Once book-total.Kinds.ps book-total.Kinds.r book-total.Reads.Learnt
book_total_once κs args x y u v p q = (p ∙ sym q, refl)

-- a part of the collection is lent back, the id in its head: its bytes are fixed, not its place
pub book_id_once : OnceSeen book-id.Kinds.ps book-id.Kinds.r (λ κs x. x.now) book-id.Reads.Learnt
book_id_once κs args x y u v p q = (p ∙ sym q, refl)

pub book_id_copy_once : Once book-id-copy.Kinds.ps book-id-copy.Kinds.r book-id-copy.Reads.Learnt
book_id_copy_once κs args x y u v p q = (p ∙ sym q, refl)

pub book_judge_head_once : Once book-judge-head.Kinds.ps book-judge-head.Kinds.r book-judge-head.Reads.Learnt
book_judge_head_once κs args x y u v p q = (judged_same x y (p ∙ sym q), refl)

pub book_page_ok_once : Once book-page-ok.Kinds.ps book-page-ok.Kinds.r book-page-ok.Reads.Learnt
book_page_ok_once κs args x y u v p q = (p ∙ sym q, refl)

pub book_judge_once : Once book-judge.Kinds.ps book-judge.Kinds.r book-judge.Reads.Learnt
book_judge_once κs args x y u v p q = (judged_same x y (p ∙ sym q), refl)

pub book_blank_once : Once book-blank.Kinds.ps book-blank.Kinds.r book-blank.Reads.Learnt
book_blank_once κs args x y u v p q = (refl, here (p ∙ sym q))

pub collection_open_once : Once collection-open.Kinds.ps collection-open.Kinds.r collection-open.Reads.Learnt
collection_open_once κs args x y u v p q = let e = kept_once p q in (told_injective x y e.0, past (here e.1))

pub collection_offer_once : Once collection-offer.Kinds.ps collection-offer.Kinds.r collection-offer.Reads.Learnt
collection_offer_once κs args x y u v p q = let e = kept_once p q in (kind_injective x y e.0, here e.1)

pub collection_join_once : Once collection-join.Kinds.ps collection-join.Kinds.r collection-join.Reads.Learnt
collection_join_once κs args x y u v p q = let e = kept_once p q in (told_injective x y e.0, here e.1)

pub book_tally_lowest_once : Once book-tally-lowest.Kinds.ps book-tally-lowest.Kinds.r book-tally-lowest.Reads.Learnt
book_tally_lowest_once κs args x y u v p q = (p ∙ sym q, refl)

pub book_tally_count_once : Once book-tally-count.Kinds.ps book-tally-count.Kinds.r book-tally-count.Reads.Learnt
book_tally_count_once κs args x y u v p q = (p ∙ sym q, refl)

pub finish_finish_once : Once finish-finish.Kinds.ps finish-finish.Kinds.r finish-finish.Reads.Learnt
finish_finish_once κs args x y u v p q = let e = finished_once x y p q in (e.0, past (here e.1))

pub mend_mend_once : Once mend-mend.Kinds.ps mend-mend.Kinds.r mend-mend.Reads.Learnt
mend_mend_once κs args x y u v p q = let e = kept_once p q in (mended_injective x y e.0, here e.1)

pub status_status_once : Once status-status.Kinds.ps status-status.Kinds.r status-status.Reads.Learnt
status_status_once κs args x y u v p q = let e = written_once x y p q in (e.0, past (here e.1))

pub status_standing_of_once : Once status-standing-of.Kinds.ps status-standing-of.Kinds.r status-standing-of.Reads.Learnt
status_standing_of_once κs args x y u v p q =
    let e = kept_once p q in
    (standings.told_injective x y e.0, past (here e.1))
