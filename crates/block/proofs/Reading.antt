-- What is read of a block, by the tests that the code makes. Assumes nothing.
use mathlib.Core.Path.{◌≡◌, refl, sym, ap, ◌∙◌}
use mathlib.Core.Bool.{Bool, true, false, ◌&&◌}
use mathlib.Core.Logic.{⊎_elim}
use mathlib.Core.List.{List, [], ◌∷◌}
use Prim.Native.Nat.{ℕ, zero, suc, ◌+◌, ◌-◌, ◌≤◌, ◌<◌}
use mir.Syntax.{w16}
use native.Mathlib.Omega.{arith}
use Rattle.std.specs.Int.{from_be_bytes}
use borrow.Author.Tests.{eq-eqb, ne_eqb, le-leb, lt-leb}
use lib.Dec.{eqb}
use lib.ListN.{length, take, drop, get_or, replicate, length-take, length-drop, length-replicate}
use lib.Seq.{take-take, take_all}
use Rattle.wire.specs.Answer.{choose}
use Rattle.wire.proofs.Cases.{lt_or_le}
use Rattle.wire.proofs.Overs.{over_all}
use Rattle.lend.specs.Same.{same}
use Rattle.model.specs.Book.{Slot, absent, held, disputed, data_of}
use Rattle.model.specs.Finish.{is_held}
use Rattle.block.specs.Block.{state_of, sealed, page_body, page_block}
use Rattle.block.specs.Read.{block_at, length_in, slot_for, read_slot, ok_page, holding}
use Rattle.block.proofs.Lengths.{length_whole}
use Rattle.block.proofs.Writing.{written}

-- ---- the block from an index on

module _ (at : ℕ) (c : List ℕ) where
  pub block_none : length c < at + 512 → [] ≡ block_at at c
  unfolding block_at
  block_none h = rw (lt-leb (at + 512) (length c) h)

  pub block_here : at + 512 ≤ length c → block_at at c ≡ take 512 (drop at c)
  unfolding block_at
  block_here h = rw (le-leb (at + 512) (length c) h)

  pub block_part : at + 512 ≤ length c → take (at + 512 - at) (drop at c) ≡ block_at at c
  block_part h =
      let e : at + 512 - at ≡ 512 = omega arith in
      rw e (sym (block_here h))

  -- 512 bytes, or none
  pub block_length : at + 512 ≤ length c → length (block_at at c) ≡ 512
  block_length h = ap length (block_here h) ∙ simp (length-take, length-drop) (omega arith)

  pub block_short : (b : List ℕ) → b ≡ block_at at c → length b < 512 → [] ≡ block_at at c
  block_short b e h =
      ⊎_elim (λ o. block_none o) (λ r. absurd (omega (arith, block_length r, ap length e))) (lt_or_le (length c) (at + 512))

-- ---- by the state byte

pub slot_absent : (b : List ℕ) → get_or b 2 0 ≡ 0 → read_slot b ≡ absent
unfolding read_slot slot_for
slot_absent b e = rw e

pub slot_held : (b : List ℕ) → get_or b 2 0 ≡ 1 → read_slot b ≡ held (take (length_in b) (take 480 (drop 14 b)))
unfolding read_slot slot_for
slot_held b e = rw e

pub slot_disputed : (b : List ℕ) → 2 ≤ get_or b 2 0 → read_slot b ≡ disputed
unfolding read_slot slot_for
slot_disputed b h = rw (ne_eqb (get_or b 2 0) 0 (λ e. omega (arith, h, e)), ne_eqb (get_or b 2 0) 1 (λ e. omega (arith, h, e)))

-- x is the block, and b is what the code has of it
module _ (b x : List ℕ) (e : b ≡ x) where
  pub state_zero : get_or b 2 0 ≡ 0 → 0 ≡ state_of (read_slot x)
  unfolding state_of
  state_zero h = rw (← e, slot_absent b h)

  pub state_one : get_or b 2 0 ≡ 1 → 1 ≡ state_of (read_slot x)
  unfolding state_of
  state_one h = rw (← e, slot_held b h)

  pub state_other : (get_or b 2 0 ≡ 0 → ⊥) → (get_or b 2 0 ≡ 1 → ⊥) → 2 ≡ state_of (read_slot x)
  unfolding state_of
  state_other h k = rw (← e, slot_disputed b (omega arith))

-- the block is not whole
pub state_none : (at : ℕ) (c b : List ℕ) → b ≡ block_at at c → length b < 512 → 0 ≡ state_of (read_slot (block_at at c))
unfolding read_slot slot_for state_of
state_none at c b e h = rw (← block_short at c b e h)

-- a block that says it is held is whole
pub held_whole : (at : ℕ) (c b : List ℕ) → b ≡ block_at at c → state_of (read_slot (block_at at c)) ≡ 1 → 512 ≤ length b
held_whole at c b e h = ⊎_elim (λ o. absurd (omega (arith, h, state_none at c b e o))) (λ r. r) (lt_or_le (length b) 512)

held_byte : (b : List ℕ) → state_of (read_slot b) ≡ 1 → get_or b 2 0 ≡ 1
unfolding state_of
held_byte b h = go (get_or b 2 0) refl
  where
    go : (s : ℕ) → get_or b 2 0 ≡ s → get_or b 2 0 ≡ 1
    go zero q = let z : ◌≡◌ {A = ℕ} 0 1 = rw (slot_absent b q) at h in absurd (omega arith)
    go (suc zero) q = q
    go (suc (suc s)) q = let z : ◌≡◌ {A = ℕ} 2 1 = rw (slot_disputed b (omega arith)) at h in absurd (omega arith)

-- ---- the data

-- none unless the state is held
pub data_other : (p : Slot) → (state_of p ≡ 1 → ⊥) → [] ≡ data_of p
unfolding state_of data_of
data_other absent n = refl
data_other (held d) n = absurd (n refl)
data_other disputed n = refl

module _ (b x : List ℕ) (e : b ≡ x) (isheld : state_of (read_slot x) ≡ 1) where
  module _ (n : ℕ) (two : n ≡ from_be_bytes w16 (get_or b 12 0 ∷ get_or b 13 0 ∷ [])) where
    byte : get_or b 2 0 ≡ 1
    byte = held_byte b (rw e isheld)

    said : length_in b ≡ n
    unfolding length_in
    said = omega (arith, two)

    pub data_cut : 480 < n → take 480 (drop 14 b) ≡ data_of (read_slot x)
    unfolding data_of
    data_cut h =
        let w : length (take 480 (drop 14 b)) ≤ n = simp length-take (omega arith) in
        rw (← e, slot_held b byte, said) (sym (take_all n (take 480 (drop 14 b)) w))

    pub data_whole : n ≤ 480 → take (14 + n - 14) (drop 14 b) ≡ data_of (read_slot x)
    unfolding data_of
    data_whole h =
        let q : 14 + n - 14 ≡ n = omega arith in
        rw (q, ← e, slot_held b byte, said) (sym (take-take n 480 (drop 14 b) h))

-- what is read is short enough for a block
pub read_fits : (b : List ℕ) → length (data_of (read_slot b)) ≤ 480
unfolding read_slot slot_for data_of
read_fits b = go (eqb (get_or b 2 0) 0) (eqb (get_or b 2 0) 1)
  where
    go : (v w : Bool) → length (data_of (choose v absent (choose w (held (take (length_in b) (take 480 (drop 14 b)))) disputed))) ≤ 480
    go true w = omega arith
    go false true = simp (length-take) (omega arith)
    go false false = omega arith

-- ---- whether given bytes are held

pub holding_is : (p : Slot) (d : List ℕ) → holding p d ≡ (eqb (state_of p) 1 && same (data_of p) d)
unfolding holding is_held state_of data_of
holding_is absent d = refl
holding_is (held x) d = refl
holding_is disputed d = refl

module _ (p : Slot) (d : List ℕ) where
  -- For the reader: a page that is not held holds no data
  pub holds_not : (state_of p ≡ 1 → ⊥) → false ≡ holding p d
  holds_not n = go p n
    where
      go : (q : Slot) → (state_of q ≡ 1 → ⊥) → false ≡ holding q d
      go absent h = unfold holding is_held in refl
      go (held x) h = absurd (h (unfold state_of in refl))
      go disputed h = unfold holding is_held in refl

  -- For the reader: one that is held, its own alone
  pub holds_data : (x : List ℕ) (r : Bool) → state_of p ≡ 1 → x ≡ data_of p → r ≡ same x d → r ≡ holding p d
  holds_data x r one ex er = er ∙ rw ex (go p one)
    where
      go : (q : Slot) → state_of q ≡ 1 → same (data_of q) d ≡ holding q d
      go absent h = let z : ◌≡◌ {A = ℕ} 0 1 = unfold state_of in h in absurd (omega arith)
      go (held y) h = unfold holding is_held data_of in refl
      go disputed h = let z : ◌≡◌ {A = ℕ} 2 1 = unfold state_of in h in absurd (omega arith)

-- ---- whether the block is well formed

pub ok_id : (id : List ℕ) (i : ℕ) (b : List ℕ) → (length id ≡ 8 → ⊥) → false ≡ ok_page id i b
unfolding ok_page
ok_id id i b h = rw (ne_eqb (length id) 8 h)

-- the block is written anew from the state and the data that it says, over 512 zeros, and compared
pub ok_again : (id : List ℕ) (i s : ℕ) (d b x y : List ℕ) (r : Bool) → length id ≡ 8 → s ≡ state_of (read_slot b) → d ≡ data_of (read_slot b)
    → y ≡ written 0 id i s d (replicate 512 0) → x ≡ b → r ≡ same x y → r ≡ ok_page id i b
unfolding ok_page page_block
ok_again id i s d b x y r eight es ed ey ex er =
    let small : length d ≤ 480 = omega (arith, read_fits b, ap length ed) in
    let whole : List ℕ = sealed (page_body id i s d) in
    let z : y ≡ whole =
    ey ∙ rw (eq-eqb (length id) 8 eight, le-leb (length d) 480 small) (over_all whole (replicate 512 0) (length_whole id i s d eight small ∙ sym (length-replicate {A = ℕ} 512 0))) in
    er ∙ rw (ex, z, es, ed, eq-eqb (length id) 8 eight)
