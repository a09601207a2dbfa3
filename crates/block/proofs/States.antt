-- Two states compared in code are their numbers compared: for those who read a block and then go by
-- its state. Assumes nothing.
use mathlib.Core.Path.{◌≡◌, refl, sym, ◌∙◌}
use mathlib.Core.Bool.{Bool, true, false, not}
use mathlib.Core.List.{List}
use Prim.Native.Nat.{ℕ, ◌≤◌}
use lib.Dec.{eqb}
use lib.ListN.{length}
use native.Mathlib.Omega.{arith}
use borrow.Author.Tests.{not-true, not-false}
use denote.Enum.Bare.{sameb}
use Rattle.block.specs.Block.{state_of, state_number}
use Rattle.block.specs.Read.{block_at, read_slot}
use Rattle.block.specs.declared.PageState.{PageState}
use Rattle.block.specs.declared.PageState.TheVariants as page
use Rattle.block.specs.contracts.PageState.{the_type}
use Rattle.block.proofs.Reading.{held_whole}

same_yes : (s t : PageState) → sameb the_type s t ≡ true → state_number s ≡ state_number t
same_yes page.Absent page.Absent e = refl
same_yes page.Absent page.Held e = cc
same_yes page.Absent page.Disputed e = cc
same_yes page.Held page.Absent e = cc
same_yes page.Held page.Held e = refl
same_yes page.Held page.Disputed e = cc
same_yes page.Disputed page.Absent e = cc
same_yes page.Disputed page.Held e = cc
same_yes page.Disputed page.Disputed e = refl

same_no : (s t : PageState) → sameb the_type s t ≡ false → state_number s ≡ state_number t → ⊥
same_no page.Absent page.Absent e n = cc
same_no page.Absent page.Held e n = omega arith
same_no page.Absent page.Disputed e n = omega arith
same_no page.Held page.Absent e n = omega arith
same_no page.Held page.Held e n = cc
same_no page.Held page.Disputed e n = omega arith
same_no page.Disputed page.Absent e n = omega arith
same_no page.Disputed page.Held e n = omega arith
same_no page.Disputed page.Disputed e n = cc

-- held, by the number
pub same_held : (s : PageState) → sameb the_type s page.Held ≡ eqb (state_number s) 1
same_held page.Absent = refl
same_held page.Held = refl
same_held page.Disputed = refl

-- r is what the code finds of s and t, and n the number of s
module _ (s t : PageState) (r : Bool) (n : ℕ) (said : state_number s ≡ n) where
  -- For the reader: an equal state has the same number
  pub eq_yes : r ≡ sameb the_type s t → r ≡ true → n ≡ state_number t
  eq_yes e h = sym said ∙ same_yes s t (sym e ∙ h)

  -- For the reader: and no other has
  pub eq_no : r ≡ sameb the_type s t → r ≡ false → n ≡ state_number t → ⊥
  eq_no e h k = same_no s t (sym e ∙ h) (said ∙ k)

  pub ne_yes : r ≡ not (sameb the_type s t) → r ≡ true → n ≡ state_number t → ⊥
  ne_yes e h k = same_no s t (not-true (sameb the_type s t) (sym e ∙ h)) (said ∙ k)

  pub ne_no : r ≡ not (sameb the_type s t) → r ≡ false → n ≡ state_number t
  ne_no e h = sym said ∙ same_yes s t (not-false (sameb the_type s t) (sym e ∙ h))

-- b is the block, where the code finds it held
pub held_long : (at : ℕ) (c b : List ℕ) (s : PageState) (r : Bool) → b ≡ block_at at c → state_number s ≡ state_of (read_slot (block_at at c))
    → r ≡ not (sameb the_type s page.Held) → r ≡ false → 512 ≤ length b
held_long at c b s r e said f h = held_whole at c b e (ne_no s page.Held r _ said f h)
