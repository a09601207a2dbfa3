-- A word is read digit by digit. Assumes nothing.
use Prim.Native.Nat.{ℕ, ◌+◌, ◌-◌, ◌*◌, ◌≤◌, ◌<◌, min}
use mathlib.Core.Path.{◌≡◌, sym, ◌∙◌}
use mathlib.Core.List.{List}
use native.Mathlib.Numerals.{add-one}
use native.Mathlib.Omega.{arith}
use borrow.Author.Tests.{eq-eqb, ne_eqb}
use lib.Dec.{leb}
use mathlib.Core.Bool.{true, false, ◌&&◌}
use lib.ListN.{length, drop, get_or, drop_of_length-le}
use lib.Seq.{drop-cons}
use Rattle.sheet.specs.Word.{said_from, asked_of}
use Rattle.std.specs.Prelude.{Some, None}

-- the whole answer is what the rest says from here
pub record Saying (most : ℕ) (word : List ℕ) (n i : ℕ) : Type 0 where
  pub within : i ≤ length word
  pub small : n ≤ most
  pub rest : asked_of most word ≡ said_from most n (drop i word)

module _ (most : ℕ) (word : List ℕ) where
  pub nothing_said : length word ≡ 0 → None ≡ asked_of most word
  unfolding asked_of
  nothing_said e = rw (eq-eqb (length word) 0 e)

  pub saying_none : (length word ≡ 0 → ⊥) → Saying most word 0 0
  unfolding asked_of
  saying_none e = record { within = omega arith; small = omega arith; rest = rw (ne_eqb (length word) 0 e) }

  module _ (n i : ℕ) (s : Saying most word n i) where
    pub no_digit : i < length word → (leb 0x30 (get_or word i 0) && leb (get_or word i 0) 0x39) ≡ false → None ≡ asked_of most word
    unfolding said_from
    no_digit h l = sym (s.rest ∙ rw (drop-cons word i 0 h, l))

    pub saying_on : (m : ℕ) → i < length word → (leb 0x30 (get_or word i 0) && leb (get_or word i 0) 0x39) ≡ true → m ≡ min (n * 10 + (get_or word i 0 - 0x30)) most → Saying most word m (i + 1)
    unfolding said_from
    saying_on m h d e =
        record {
          within = omega arith;
          small = omega arith;
          rest = s.rest ∙ rw (add-one i, drop-cons word i 0 h, d, e);
        }

    pub saying_end : length word ≤ i → Some n ≡ asked_of most word
    unfolding said_from
    saying_end h = sym (s.rest ∙ rw (drop_of_length-le word {i = i} h))
