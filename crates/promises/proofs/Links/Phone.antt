-- From the contracts of `phone` in the source to the definitions that the demands cite.
-- Assumes nothing.
use mathlib.Core.Path.{◌≡◌}
use Rattle.wire.specs.Answer.{bytes_after, answer_of}
use Rattle.collection.specs.Collection.{opening, offering, joining}
use Rattle.finish.specs.Finish as finishing
use Rattle.status.specs.Numbers.{standing}
use Rattle.phone.specs.Packed.{packed_answer, packed_kind, packed_finish, packed_numbers, seeing, packed_frame}
use Rattle.phone.proofs.stilt_open as phone-stilt-open
use Rattle.phone.proofs.stilt_offer as phone-stilt-offer
use Rattle.phone.proofs.stilt_join as phone-stilt-join
use Rattle.phone.proofs.stilt_finish as phone-stilt-finish
use Rattle.phone.proofs.stilt_status as phone-stilt-status
use Rattle.phone.proofs.stilt_frame as phone-stilt-frame
use Rattle.promises.specs.Calls.{Call}

pub phone_stilt_open_link : (k : Call phone-stilt-open.Kinds.ps phone-stilt-open.Kinds.r phone-stilt-open.Reads.Learnt)
    → (k.answer ≡ packed_answer (answer_of (opening k.args.0.now k.args.1.0.now)))
    × (k.left.1.0 ≡ bytes_after k.args.1.0.now (opening k.args.0.now k.args.1.0.now))
phone_stilt_open_link k = (k.kept.0, k.kept.1)

pub phone_stilt_offer_link : (k : Call phone-stilt-offer.Kinds.ps phone-stilt-offer.Kinds.r phone-stilt-offer.Reads.Learnt)
    → (k.answer ≡ packed_kind (answer_of (offering k.args.0.now k.args.1.0.now)))
    × (k.left.0 ≡ bytes_after k.args.0.now (offering k.args.0.now k.args.1.0.now))
phone_stilt_offer_link k = (k.kept.0, k.kept.1)

pub phone_stilt_join_link : (k : Call phone-stilt-join.Kinds.ps phone-stilt-join.Kinds.r phone-stilt-join.Reads.Learnt)
    → (k.answer ≡ packed_answer (answer_of (joining k.args.0.now k.args.1.0.now)))
    × (k.left.0 ≡ bytes_after k.args.0.now (joining k.args.0.now k.args.1.0.now))
phone_stilt_join_link k = (k.kept.0, k.kept.1)

pub phone_stilt_finish_link : (k : Call phone-stilt-finish.Kinds.ps phone-stilt-finish.Kinds.r phone-stilt-finish.Reads.Learnt)
    → (k.answer ≡ packed_finish (answer_of (finishing.finishing k.args.0.now k.args.1.0.now)))
    × (k.left.1.0 ≡ bytes_after k.args.1.0.now (finishing.finishing k.args.0.now k.args.1.0.now))
phone_stilt_finish_link k = (k.kept.0, k.kept.1)

pub phone_stilt_status_link : (k : Call phone-stilt-status.Kinds.ps phone-stilt-status.Kinds.r phone-stilt-status.Reads.Learnt)
    → (k.answer ≡ packed_numbers (answer_of (standing k.args.0.now k.args.1.0.now)))
    × (k.left.1.0 ≡ bytes_after k.args.1.0.now (standing k.args.0.now k.args.1.0.now))
phone_stilt_status_link k = (k.kept.0, k.kept.1)

pub phone_stilt_frame_link : (k : Call phone-stilt-frame.Kinds.ps phone-stilt-frame.Kinds.r phone-stilt-frame.Reads.Learnt)
    → (k.answer ≡ packed_frame (answer_of (seeing k.args.0.now k.args.1.0.now)))
    × (k.left.1.0 ≡ bytes_after k.args.1.0.now (seeing k.args.0.now k.args.1.0.now))
phone_stilt_frame_link k = (k.kept.0, k.kept.1)
