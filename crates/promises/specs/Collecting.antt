-- The functions that collect, twice: those of the libraries, and those that the phone app calls
-- from C (R16.1). What a function did is said by a call of it whose contract held (Calls.antt), so
-- a statement over an `Interface` is one about the contracts in the sources, and serves both.
use Rattle.std.specs.Prelude.{ℕ, ◌≡◌, List}
use Rattle.wire.specs.Answer.{Answer}
use Rattle.wire.specs.Writing as writing
use Rattle.wire.specs.Reading.{told_at}
use Rattle.mend.specs.Mend as mending
use Rattle.phone.specs.Packed.{finish_in}
use Rattle.collection.proofs.open as collection-open
use Rattle.collection.proofs.offer as collection-offer
use Rattle.collection.proofs.join as collection-join
use Rattle.finish.proofs.finish as finish-finish
use Rattle.mend.proofs.mend as mend-mend
use Rattle.status.proofs.status as status-status
use Rattle.phone.proofs.stilt_open as phone-stilt-open
use Rattle.phone.proofs.stilt_offer as phone-stilt-offer
use Rattle.phone.proofs.stilt_join as phone-stilt-join
use Rattle.phone.proofs.stilt_finish as phone-stilt-finish
use Rattle.phone.proofs.stilt_status as phone-stilt-status
use Rattle.phone.proofs.stilt_frame as phone-stilt-frame
use Rattle.promises.specs.Calls.{Call}

pub record Interface : Type 1 where
  -- Opens id c x: open was called with this id, was lent c and left x, whatever it answered
  pub Opens : List ℕ → List ℕ → List ℕ → Type 0
  -- Offers c raw x and Joins c o x: likewise, where c was lent to be written
  pub Offers : List ℕ → List ℕ → List ℕ → Type 0
  pub Joins : List ℕ → List ℕ → List ℕ → Type 0
  -- Finishes c out x a: finish was called on c, was lent out, left x there and answered a
  pub Finishes : List ℕ → List ℕ → List ℕ → Answer ℕ → Type 0

abbrev pub library : Interface
library = record {
  Opens = λ id c x.
      (k : Call collection-open.Kinds.ps collection-open.Kinds.r collection-open.Reads.Learnt)
      × (k.args.0.now ≡ id) × (k.args.1.0.now ≡ c) × (k.left.1.0 ≡ x);
  Offers = λ c raw x.
      (k : Call collection-offer.Kinds.ps collection-offer.Kinds.r collection-offer.Reads.Learnt)
      × (k.args.0.now ≡ c) × (k.args.1.0.now ≡ raw) × (k.left.0 ≡ x);
  Joins = λ c o x.
      (k : Call collection-join.Kinds.ps collection-join.Kinds.r collection-join.Reads.Learnt)
      × (k.args.0.now ≡ c) × (k.args.1.0.now ≡ o) × (k.left.0 ≡ x);
  Finishes = λ c out x a.
      (k : Call finish-finish.Kinds.ps finish-finish.Kinds.r finish-finish.Reads.Learnt)
      × (k.args.0.now ≡ c) × (k.args.1.0.now ≡ out) × (k.left.1.0 ≡ x) × (told_at k.answer ≡ a);
}

-- from C the answer is one number, which the header reads apart (R16.2)
abbrev pub phone : Interface
phone = record {
  Opens = λ id c x.
      (k : Call phone-stilt-open.Kinds.ps phone-stilt-open.Kinds.r phone-stilt-open.Reads.Learnt)
      × (k.args.0.now ≡ id) × (k.args.1.0.now ≡ c) × (k.left.1.0 ≡ x);
  Offers = λ c raw x.
      (k : Call phone-stilt-offer.Kinds.ps phone-stilt-offer.Kinds.r phone-stilt-offer.Reads.Learnt)
      × (k.args.0.now ≡ c) × (k.args.1.0.now ≡ raw) × (k.left.0 ≡ x);
  Joins = λ c o x.
      (k : Call phone-stilt-join.Kinds.ps phone-stilt-join.Kinds.r phone-stilt-join.Reads.Learnt)
      × (k.args.0.now ≡ c) × (k.args.1.0.now ≡ o) × (k.left.0 ≡ x);
  Finishes = λ c out x a.
      (k : Call phone-stilt-finish.Kinds.ps phone-stilt-finish.Kinds.r phone-stilt-finish.Reads.Learnt)
      × (k.args.0.now ≡ c) × (k.args.1.0.now ≡ out) × (k.left.1.0 ≡ x) × (finish_in k.answer ≡ a);
}

-- status was called on c, was lent out, left x there and answered a
abbrev pub Tells : (c out x : List ℕ) (a : Answer ℕ) → Type 0
Tells c out x a =
    (k : Call status-status.Kinds.ps status-status.Kinds.r status-status.Reads.Learnt)
    × (k.args.0.now ≡ c) × (k.args.1.0.now ≡ out) × (k.left.1.0 ≡ x) × (writing.told k.answer ≡ a)

-- `stilt_status` was called on c, was lent out, left x there and answered the number n
abbrev pub Shows : (c out x : List ℕ) (n : ℕ) → Type 0
Shows c out x n =
    (k : Call phone-stilt-status.Kinds.ps phone-stilt-status.Kinds.r phone-stilt-status.Reads.Learnt)
    × (k.args.0.now ≡ c) × (k.args.1.0.now ≡ out) × (k.left.1.0 ≡ x) × (k.answer ≡ n)

-- `stilt_frame` was called on the raw frame, likewise
abbrev pub Sees : (raw out x : List ℕ) (n : ℕ) → Type 0
Sees raw out x n =
    (k : Call phone-stilt-frame.Kinds.ps phone-stilt-frame.Kinds.r phone-stilt-frame.Reads.Learnt)
    × (k.args.0.now ≡ raw) × (k.args.1.0.now ≡ out) × (k.left.1.0 ≡ x) × (k.answer ≡ n)

-- mend was lent c, left x and answered a
abbrev pub Mended : List ℕ → List ℕ → Answer ℕ → Type 0
Mended c x a =
    (k : Call mend-mend.Kinds.ps mend-mend.Kinds.r mend-mend.Reads.Learnt)
    × (k.args.0.now ≡ c) × (k.left.0 ≡ x) × (mending.told k.answer ≡ a)
