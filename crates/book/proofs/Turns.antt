-- The loops over the pages: what each turn comes to know. Assumes nothing.
use mathlib.Core.Path.{◌≡◌, refl, sym, ap, ◌∙◌}
use mathlib.Core.Bool.{true, false}
use mathlib.Core.List.{List, []}
use Prim.Native.Nat.{ℕ, suc, ◌+◌, ◌*◌, ◌≤◌, ◌<◌}
use native.Mathlib.Omega.{arith}
use borrow.Author.Tests.{eq-eqb, ne_eqb}
use lib.ListN.{take, drop, get_or, drop_of_length-le}
use lib.Seq.{take_all}
use Rattle.wire.specs.Answer.{choose}
use Rattle.model.specs.Book.{absent}
use Rattle.model.specs.Finish.{lowest, count}
use Rattle.model.proofs.Counts.{one, lowest_rest, count_turn}
use Rattle.block.specs.Block.{state_of}
use Rattle.block.specs.Read.{block_at, read_slot}
use Rattle.book.specs.Read.{read_pages}
use Rattle.book.proofs.Decode.{length_read, read_at}
use Rattle.book.specs.Tally.{in_state}

-- no page before index k is in the state, and what is left decides
pub record Passed (c : List ℕ) (t s k : ℕ) : Type 0 where
  pub most : k ≤ t
  pub left : lowest (in_state s) (read_pages 0 t c) ≡ k + lowest (in_state s) (drop k (read_pages 0 t c))

-- n pages before index k are in the state
pub record Counted (c : List ℕ) (t s k n : ℕ) : Type 0 where
  pub most : k ≤ t
  pub few : n ≤ k
  pub among : n ≡ count (in_state s) (take k (read_pages 0 t c))

module _ (c : List ℕ) (t s : ℕ) where
  pub passed_end : (k : ℕ) → t ≤ k → Passed c t s k → t ≡ lowest (in_state s) (read_pages 0 t c)
  passed_end k h p =
      let e : drop k (read_pages 0 t c) ≡ [] = drop_of_length-le (read_pages 0 t c) {i = k} (omega (arith, length_read 0 t c)) in
      let z : lowest (in_state s) (drop k (read_pages 0 t c)) ≡ 0 = ap (lowest (in_state s)) e ∙ unfold lowest in refl in
      omega (arith, p.left, p.most)

  pub counted_none : Counted c t s 0 0
  counted_none = record { most = omega arith; few = omega arith; among = unfold count in refl }

  pub counted_end : (k n : ℕ) → t ≤ k → Counted c t s k n → n ≡ count (in_state s) (read_pages 0 t c)
  counted_end k n h p = p.among ∙ ap (count (in_state s)) (take_all k (read_pages 0 t c) (omega (arith, length_read 0 t c)))

  -- a turn: x is the state that the block of index k says
  module _ (k at x y : ℕ) (h : k < t) (place : at ≡ 512 + 512 * k) (from : x ≡ y) (said : y ≡ state_of (read_slot (block_at at c))) where
    here : x ≡ state_of (get_or (read_pages 0 t c) k absent)
    here = from ∙ said ∙ rw (place, read_at 0 t k k c h (omega arith))

    yes : x ≡ s → in_state s (get_or (read_pages 0 t c) k absent) ≡ true
    unfolding in_state
    yes e = eq-eqb (state_of (get_or (read_pages 0 t c) k absent)) s (sym here ∙ e)

    not_so : (x ≡ s → ⊥) → in_state s (get_or (read_pages 0 t c) k absent) ≡ false
    unfolding in_state
    not_so n = ne_eqb (state_of (get_or (read_pages 0 t c) k absent)) s (λ e. n (here ∙ e))

    next : lowest (in_state s) (drop k (read_pages 0 t c))
        ≡ choose (in_state s (get_or (read_pages 0 t c) k absent)) 0 (suc (lowest (in_state s) (drop (k + 1) (read_pages 0 t c))))
    next = lowest_rest (in_state s) (read_pages 0 t c) k (omega (arith, length_read 0 t c))

    pub passed_found : x ≡ s → Passed c t s k → k ≡ lowest (in_state s) (read_pages 0 t c)
    passed_found e p =
        let z : lowest (in_state s) (drop k (read_pages 0 t c)) ≡ 0 = next ∙ rw (yes e) in
        omega (arith, p.left)

    pub passed_on : (x ≡ s → ⊥) → Passed c t s k → Passed c t s (k + 1)
    passed_on n p =
        let z : lowest (in_state s) (drop k (read_pages 0 t c)) ≡ suc (lowest (in_state s) (drop (k + 1) (read_pages 0 t c))) = next ∙ rw (not_so n) in
        record { most = omega arith; left = omega (arith, p.left) }

    grows : count (in_state s) (take (k + 1) (read_pages 0 t c)) ≡ count (in_state s) (take k (read_pages 0 t c)) + one (in_state s) (get_or (read_pages 0 t c) k absent)
    grows = count_turn (in_state s) (read_pages 0 t c) k (omega (arith, length_read 0 t c))

    pub counted_more : (n : ℕ) → x ≡ s → Counted c t s k n → Counted c t s (k + 1) (n + 1)
    counted_more n e p =
        let z : one (in_state s) (get_or (read_pages 0 t c) k absent) ≡ 1 = rw (yes e) in
        record { most = omega arith; few = omega (arith, p.few); among = omega (arith, p.among, grows) }

    pub counted_on : (n : ℕ) → (x ≡ s → ⊥) → Counted c t s k n → Counted c t s (k + 1) n
    counted_on n e p =
        let z : one (in_state s) (get_or (read_pages 0 t c) k absent) ≡ 0 = rw (not_so e) in
        record { most = omega arith; few = omega (arith, p.few); among = omega (arith, p.among, grows) }
