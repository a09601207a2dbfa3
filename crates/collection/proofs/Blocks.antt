-- One block of a collection: what it becomes by an offer or a join, and when it stays.
-- Assumes nothing.
use mathlib.Core.Path.{◌≡◌, refl, sym, ap, ◌∙◌}
use mathlib.Core.Bool.{Bool, true, false}
use mathlib.Core.Logic.{⊎_elim}
use mathlib.Core.List.{List}
use Prim.Native.Nat.{ℕ, ◌+◌, ◌≤◌}
use native.Mathlib.Omega.{arith}
use lib.ListN.{length}
use Rattle.wire.proofs.Cases.{lt_or_le}
use Rattle.lend.proofs.Sames.{same_false}
use Rattle.model.specs.Book.{Slot, absent, held, disputed, data_of}
use Rattle.model.specs.Take.{join_slot, kind_of_slot}
use Rattle.model.proofs.Slots.{join_absent, join_disputed, join_stays, join_first, join_again, join_other}
use Rattle.block.specs.Block.{state_of, with_page}
use Rattle.block.specs.Read.{block_at, holding}
use Rattle.block.proofs.Reading.{block_none, read_fits}
use Rattle.block.proofs.Round.{page_length}
use Rattle.block.proofs.Slots.{is_absent_lem, is_held_lem, is_disputed_lem, holding_yes, holding_no}
use Rattle.book.proofs.Changes.{block_again}
use Rattle.collection.specs.Private.{BlockOf, slot_at, Slotted}

-- the data of a block are short
pub data_short : (at : ℕ) (o d : List ℕ) → d ≡ data_of (slot_at at o) → length d ≤ 480
data_short at o d e = rw e (read_fits (block_at at o))

module _ (id : List ℕ) (at i : ℕ) (c : List ℕ) (ok : BlockOf id at i c) where
  fits : at + 512 ≤ length c
  fits =
      ⊎_elim (λ out. absurd (omega (arith, page_length id i (block_at at c) ok, ap length (block_none at c out)))) (λ room. room)
      (lt_or_le (length c) (at + 512))

  -- a well-formed block is the block of its slot: where that stays, nothing is to be written
  pub stays : (p : Slot) → slot_at at c ≡ p → c ≡ with_page at id i p c
  stays p e = sym (ap (λ (q : Slot). with_page at id i q c) (sym e) ∙ block_again id i at c fits ok)

  -- ---- data d offered to it

  module _ (d : List ℕ) where
    pub offered_first : (x : List ℕ) → 0 ≡ state_of (slot_at at c) → x ≡ with_page at id i (held d) c → Slotted id at i (join_slot (slot_at at c) (held d)) c x 1
    unfolding kind_of_slot
    offered_first x f g =
        let q : join_slot (slot_at at c) (held d) ≡ held d = rw (is_absent_lem (slot_at at c) (sym f)) (join_first (held d)) in
        record { answer = rw q; bytes = rw q g }

    pub offered_more : 2 ≡ state_of (slot_at at c) → Slotted id at i (join_slot (slot_at at c) (held d)) c c 2
    unfolding kind_of_slot
    offered_more f =
        let z : slot_at at c ≡ disputed = is_disputed_lem (slot_at at c) (sym f) in
        let q : join_slot (slot_at at c) (held d) ≡ disputed = rw z (join_stays (held d)) in
        record { answer = rw q; bytes = rw q (stays disputed z) }

    pub offered_same : (w : Bool) → w ≡ holding (slot_at at c) d → w ≡ true → Slotted id at i (join_slot (slot_at at c) (held d)) c c 1
    unfolding kind_of_slot
    offered_same w h f =
        let z : slot_at at c ≡ held d = holding_yes (slot_at at c) d (sym h ∙ f) in
        let q : join_slot (slot_at at c) (held d) ≡ held d = rw z (join_again d d refl) in
        record { answer = rw q; bytes = rw q (stays (held d) z) }

    pub offered_other : (w : Bool) (x : List ℕ) → 1 ≡ state_of (slot_at at c) → w ≡ holding (slot_at at c) d → w ≡ false → x ≡ with_page at id i disputed c
        → Slotted id at i (join_slot (slot_at at c) (held d)) c x 2
    unfolding kind_of_slot
    offered_other w x m h f g =
        let z : slot_at at c ≡ held (data_of (slot_at at c)) = is_held_lem (slot_at at c) (sym m) in
        let differ : data_of (slot_at at c) ≡ d → ⊥ = same_false (data_of (slot_at at c)) d (holding_no (slot_at at c) d (sym m) (sym h ∙ f)) in
        let q : join_slot (slot_at at c) (held d) ≡ disputed = ap (λ (p : Slot). join_slot p (held d)) z ∙ join_other (data_of (slot_at at c)) d differ in
        record { answer = rw q; bytes = rw q g }

  -- ---- the slot p joined to it

  module _ (p : Slot) where
    pub joined_absent : 0 ≡ state_of p → c ≡ with_page at id i (join_slot (slot_at at c) p) c
    joined_absent f = stays (join_slot (slot_at at c) p) (rw (is_absent_lem p (sym f)) (sym (join_absent (slot_at at c))))

    pub joined_held : (d x : List ℕ) (r : ℕ) → 1 ≡ state_of p → d ≡ data_of p → Slotted id at i (join_slot (slot_at at c) (held d)) c x r → x ≡ with_page at id i (join_slot (slot_at at c) p) c
    joined_held d x r f g h =
        h.bytes ∙ ap (λ (q : Slot). with_page at id i (join_slot (slot_at at c) q) c) (ap held g ∙ sym (is_held_lem p (sym f)))

    module _ (two : 2 ≡ state_of p) where
      disputes : join_slot (slot_at at c) p ≡ disputed
      disputes = rw (is_disputed_lem p (sym two)) (join_disputed (slot_at at c))

      pub joined_disputed : (x : List ℕ) → x ≡ with_page at id i disputed c → x ≡ with_page at id i (join_slot (slot_at at c) p) c
      joined_disputed x g = rw disputes g

      pub joined_stays : state_of (slot_at at c) ≡ 2 → c ≡ with_page at id i (join_slot (slot_at at c) p) c
      joined_stays h = rw disputes (stays disputed (is_disputed_lem (slot_at at c) h))

  -- ---- made absent

  pub absent_stays : state_of (slot_at at c) ≡ 0 → c ≡ with_page at id i absent c
  absent_stays e = stays absent (is_absent_lem (slot_at at c) e)
