-- The line with the first character that may not stand there. Assumes nothing.
use Prim.Native.Nat.{ℕ, suc, ◌+◌, ◌≤◌, ◌<◌}
use mathlib.Core.Path.{◌≡◌, refl, sym, ◌∙◌}
use mathlib.Core.Bool.{Bool, true, false, not}
use mathlib.Core.List.{List}
use native.Mathlib.Numerals.{add-one}
use native.Mathlib.Omega.{arith}
use borrow.Author.Tests.{eq-eqb, ne_eqb}
use lib.Dec.{ltb, eqb}
use lib.ListN.{length, drop, get_or, drop_of_length-le}
use lib.Seq.{drop-cons}
use Rattle.wire.specs.Answer.{choose}
use Rattle.wire.proofs.Cases.{said_yes, said_no}
use Rattle.text.specs.Text.{zbase32, value}
use Rattle.typed.specs.Typed.{feed, skipped, is_letter}
use Rattle.typing.specs.Typing.{may_stand, line_after, odd_line}

pub after_feed : (n c : ℕ) → c ≡ feed → n + 1 ≡ line_after n c
unfolding line_after
after_feed n c e = rw (eq-eqb c feed e) (add-one n)

pub after_other : (n c : ℕ) → (c ≡ feed → ⊥) → n ≡ line_after n c
unfolding line_after
after_other n c e = rw (ne_eqb c feed e)

after_most : (n c : ℕ) → line_after n c ≤ n + 1
unfolding line_after
after_most n c = go (eqb c feed)
  where
    go : (t : Bool) → choose t (suc n) n ≤ n + 1
    go true = omega arith
    go false = omega arith

-- what is left decides
pub record Looking (text : List ℕ) (n i : ℕ) : Type 0 where
  pub few : n ≤ i + 1
  pub rest : odd_line 1 text ≡ odd_line n (drop i text)

module _ (text : List ℕ) where
  pub looking_none : Looking text 1 0
  looking_none = record { few = omega arith; rest = refl }

  module _ (n i : ℕ) (s : Looking text n i) where
    module _ (h : i < length text) (r : Bool) (e : r ≡ may_stand (get_or text i 0)) where
      pub odd_here : not r ≡ true → n ≡ odd_line 1 text
      unfolding odd_line
      odd_here f = sym (s.rest ∙ rw (drop-cons text i 0 h, said_no r (may_stand (get_or text i 0)) e f))

      pub looking_on : (m : ℕ) → not r ≡ false → m ≡ line_after n (get_or text i 0) → Looking text m (i + 1)
      unfolding odd_line
      looking_on m t q =
          record {
            few = omega (arith, after_most n (get_or text i 0), s.few);
            rest = s.rest ∙ rw (drop-cons text i 0 h, said_yes r (may_stand (get_or text i 0)) e t, q, add-one i);
          }

    pub none_odd : length text ≤ i → 0 ≡ odd_line 1 text
    unfolding odd_line
    none_odd h = sym (s.rest ∙ rw (drop_of_length-le text {i = i} h))
