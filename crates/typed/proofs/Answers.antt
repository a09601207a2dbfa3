-- What the reader answers, from what the parts of its work answered. Assumes nothing.
use Prim.Native.Nat.{ℕ, ◌≤◌}
use mathlib.Core.Path.{◌≡◌, refl, sym, ap, subst}
use mathlib.Core.Bool.{Bool, true, false, not, ◌&&◌, ◌||◌}
use mathlib.Core.List.{List, [], ◌∷◌}
use native.Mathlib.Omega.{arith}
use lib.Dec.{leb}
use lib.ListN.{length, take}
use Rattle.std.specs.Prelude.{Result, Ok, Err}
use Rattle.std.specs.Result.{IsErr, IsErrAnd}
use Rattle.std.proofs.lemmas.Result.{err_from_is_err_and}
use Rattle.wire.specs.declared.Refusal.{Refusal}
use Rattle.wire.proofs.Answers.{err_is}
use Rattle.wire.specs.Answer.{Kept, Answer, done, refused_at, then, demand}
use Rattle.wire.specs.Every.{every}
use Rattle.wire.specs.Writing as W
use Rattle.wire.specs.Refusal.{number, Placeless}
use Rattle.wire.specs.declared.Refusal.TheVariants.{BadCharacter}
use Rattle.wire.specs.declared.RefusedAt.{RefusedAt}
use Rattle.wire.proofs.Cases.{said_yes, said_no}
use Rattle.wire.proofs.Writes.{written}
use Rattle.wire.proofs.Overs.{over_none}
use Rattle.wire.specs.Number.{number_from, digits}
use Rattle.text.specs.Text.{zbase32, values, kept, leftover, read_values, read_text}
use Rattle.typed.specs.Typed.{skipped, plain, cut, lines_of, counts_right, joined_from, read_typed, ReadLines}
use Rattle.typed.specs.Private.{typable, ran, start, ending, gathered_told, Ample}
use Rattle.typed.proofs.Judging.{every_text}
use Rattle.typed.proofs.Runs.{run_lines}

denied : (out : List ℕ) (e : RefusedAt) (n k : ℕ) → number e.why ≡ n → e.place ≡ k → ReadLines (refused_at n k) out out (Err e)
unfolding W.writing
denied out e n k p q = record { answer = rw (p, q); bytes = refl }

-- ---- no bytes

nothing : read_typed [] ≡ done []
unfolding read_typed lines_of plain every counts_right joined_from read_text read_values values kept zbase32 leftover number_from digits
nothing = refl

some_lines : (text : List ℕ) → (length text ≡ 0 → ⊥) → lines_of text ≡ cut [] (plain text)
unfolding lines_of
some_lines [] n = absurd (n refl)
some_lines (c ∷ cs) n = refl

pub read_none : (text out : List ℕ) → length text ≡ 0 → ReadLines (read_typed text) out out (Ok 0)
read_none text out e = rw (empty text e, nothing) (written 0 out [] out 0 (omega arith) refl (sym (over_none 0 out)))
  where
    empty : (text : List ℕ) → length text ≡ 0 → text ≡ []
    empty [] e = refl
    empty (c ∷ cs) e = absurd (omega arith)

-- ---- the others

module _ (text out : List ℕ) (s : Bool) (spelt : s ≡ every (λ c. skipped c || typable true c) text) where
  pub read_unspelt : not s ≡ true → (e : RefusedAt) → Placeless BadCharacter e → ReadLines (read_typed text) out out (Err e)
  unfolding read_typed
  read_unspelt h e (p, q) = rw (sym (every_text text), said_no s _ spelt h) (denied out e 1 0 (ap number p) q)

  module _ (good : not s ≡ false) (some : length text ≡ 0 → ⊥) where
    gathered : read_typed text ≡ then (then (ran (start 1) text) ending) (read_text zbase32)
    unfolding read_typed
    gathered = rw (sym (every_text text), said_yes s _ spelt good, run_lines text, some_lines text some) (go (leb (length (cut [] (plain text))) 20 && counts_right (cut [] (plain text))))
      where
        go : (t : Bool) → demand t 2 (then (joined_from 1 (cut [] (plain text))) (read_text zbase32)) ≡ then (demand t 2 (joined_from 1 (cut [] (plain text)))) (read_text zbase32)
        go true = refl
        go false = refl

    module _ (g : Result ℕ RefusedAt) (x : List ℕ) (e : gathered_told g x ≡ then (ran (start 1) text) ending) where
      pub read_bad : (r : Result ℕ RefusedAt) (b : RefusedAt) → IsErr r × IsErrAnd r (λ x. x ≡ b) → g ≡ Err b → ReadLines (read_typed text) out out r
      read_bad r b h q = rw (err_is r b h, gathered, ← e, q) (denied out b _ _ refl refl)

      module _ (n : ℕ) (out' : List ℕ) (q : g ≡ Ok n) where
        pub read_all : (a : Answer ℕ) → Kept (W.writing 0 out (read_text zbase32 (take n x))) out out' a → Kept (W.writing 0 out (read_typed text)) out out' a
        read_all a k = rw (gathered, ← e, q) k

        pub read_cut : (r : Result ℕ RefusedAt) (w : Result ℕ Refusal) (b : Refusal) → IsErr r × IsErrAnd r (Placeless b) → w ≡ Err b → W.Written 0 (read_text zbase32 (take n x)) out out' w
            → ReadLines (read_typed text) out out' r
        read_cut r w b (h, i) f k = let p = err_from_is_err_and r i in rw (p.1, p.2.0, p.2.1) (read_all _ (rw f at k))

pub ample : (g : Result ℕ RefusedAt) (n : ℕ) → Ample g → g ≡ Ok n → n ≤ 800
ample g n a e = subst Ample e a
