-- A refusal of the reader is 3 or 7, and no other number. Assumes nothing.
use Prim.Native.Nat.{ℕ, zero, suc, ◌+◌, ◌%◌}
use mathlib.Core.Path.{◌≡◌, sym}
use mathlib.Core.Logic.{◌⊎◌, inl, inr}
use mathlib.Core.List.{List, [], ◌∷◌}
use mathlib.Core.Bool.{Bool, true, false}
use lib.Dec.{ltb, eqb}
use lib.ListN.{drop}
use Rattle.wire.specs.Answer.{choose, done, refused_at, refused, Got, got}
use Rattle.wire.proofs.Cases.{not_done}
use Rattle.varint.specs.Varint.{onto, ending, tenth, later_from, varint_from, varint_at}

refused_no : {P : Type 0} {v k e : ℕ} → ◌≡◌ {A = Got ℕ} (got v k) (refused e) → P
refused_no h = not_done (sym h)

-- a refusal, if it is one, is 3 or 7
abbrev Refuses : Got ℕ → Type 0
Refuses g = (e : ℕ) → g ≡ refused e → (e ≡ 3) ⊎ (e ≡ 7)

refuses_3 : Refuses (refused 3)
refuses_3 e h = let p : e ≡ 3 = cc in inl p

refuses_7 : Refuses (refused 7)
refuses_7 e h = let p : e ≡ 7 = cc in inr p

refuses_choose : (t : Bool) (a b : Got ℕ) → Refuses a → Refuses b → Refuses (choose t a b)
refuses_choose true a b x y = x
refuses_choose false a b x y = y

refuses_onto : (n w : ℕ) (g : Got ℕ) → Refuses g → Refuses (onto n w g)
refuses_onto n w (done (v, k)) x e h = refused_no h
refuses_onto n w (refused_at a place) x e h = x e h

refuses_ending : (b i : ℕ) → Refuses (ending b i)
unfolding ending
refuses_ending b i = refuses_choose (eqb b 0) (refused 7) (got b i) refuses_7 (λ e h. refused_no h)

refuses_later : (p i : ℕ) (bs : List ℕ) → Refuses (later_from p i bs)
unfolding later_from tenth
refuses_later p i [] = refuses_3
refuses_later zero i (b ∷ bs) = refuses_choose (ltb 1 b) (refused 7) (ending b (i + 1)) refuses_7 (refuses_ending b (i + 1))
refuses_later (suc p) i (b ∷ bs) =
    refuses_choose (ltb b 128) (ending b (i + 1)) (onto (b % 128) 128 (later_from p (i + 1) bs)) (refuses_ending b (i + 1))
    (refuses_onto (b % 128) 128 (later_from p (i + 1) bs) (refuses_later p (i + 1) bs))

refuses_from : (i : ℕ) (bs : List ℕ) → Refuses (varint_from i bs)
unfolding varint_from
refuses_from i [] = refuses_3
refuses_from i (b ∷ bs) =
    refuses_choose (ltb b 128) (got b (i + 1)) (onto (b % 128) 128 (later_from 8 (i + 1) bs)) (λ e h. refused_no h)
    (refuses_onto (b % 128) 128 (later_from 8 (i + 1) bs) (refuses_later 8 (i + 1) bs))

-- For the reader: a refusal of `varint::read` is 3 or 7, as docs/PROMISES.md says
pub refused_3_or_7 : (s : List ℕ) (at e : ℕ) → varint_at s at ≡ refused e → (e ≡ 3) ⊎ (e ≡ 7)
unfolding varint_at
refused_3_or_7 s at e h = refuses_from at (drop at s) e h
