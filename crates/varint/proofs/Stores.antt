-- One byte more of a number that is being written: what the loop of `write_fitting` goes by.
-- Assumes nothing.
use Prim.Native.Nat.{ℕ, zero, suc, ◌+◌, ◌*◌, ◌/◌, ◌%◌, ◌^◌, ◌<◌, ◌≤◌}
use mathlib.Core.Path.{◌≡◌, refl, sym, ap, ◌∙◌}
use mathlib.Core.List.{List, [], ◌∷◌}
use native.Mathlib.Nat.{pow-suc}
use native.Mathlib.Omega.{arith}
use lib.ListN.{length, set, length-set}
use Rattle.wire.specs.Over.{over}
use Rattle.wire.proofs.Overs.{set_over, over_append}
use Rattle.varint.specs.Varint.{sevens, varint}
use Rattle.varint.proofs.Sevens.{sevens_last, sevens_more}

-- a store, and a write from the next index on, are one write
over_cons : (i b : ℕ) (bs l : List ℕ) → i + 1 + length bs ≤ length l → over (i + 1) bs (set l i b) ≡ over i (b ∷ bs) l
over_cons i b bs l h = ap (over (i + 1) bs) (set_over l i b (omega arith)) ∙ over_append i (b ∷ []) bs l (i + 1) refl h

-- m is what is left of the number, to be written from index i on in at most `most` + 1 bytes; then
-- the output is as it has to be
pub record Storing (whole out₀ out : List ℕ) (m i : ℕ) : Type 0 where
  pub most : ℕ
  pub bound : m < 2 * 128 ^ most
  pub room : i + length (sevens most m) ≤ length out
  pub same : length out ≡ length out₀
  pub rest : over i (sevens most m) out ≡ whole

pub store_none : (n : ℕ) (out : List ℕ) (at : ℕ) → n < 2 ^ 64 → at + length (varint n) ≤ length out → Storing (over at (varint n) out) out out n at
unfolding varint
store_none n out at b r = record { most = 9; bound = omega arith; room = r; same = refl; rest = refl }

module _ (whole out₀ out : List ℕ) (m i : ℕ) (h : Storing whole out₀ out m i) where
  module _ (l : m < 128) where
    pub last_room : i < length out
    last_room = omega (arith, h.room, ap length (sevens_last h.most m l))

    pub last_stored : set out i m ≡ whole
    last_stored = set_over out i m last_room ∙ ap (λ (bs : List ℕ). over i bs out) (sym (sevens_last h.most m l)) ∙ h.rest

  module _ (l : 128 ≤ m) where
    -- a byte that others follow
    more : (q : ℕ) × (m / 128 < 2 * 128 ^ q) × (sevens h.most m ≡ (m % 128 + 128) ∷ sevens q (m / 128))
    more = go h.most h.bound
      where
        go : (p : ℕ) → m < 2 * 128 ^ p → (q : ℕ) × (m / 128 < 2 * 128 ^ q) × (sevens p m ≡ (m % 128 + 128) ∷ sevens q (m / 128))
        go zero b = absurd (omega arith)
        go (suc q) b = (q, omega (arith, pow-suc 128 q), sevens_more q m l)

    pub more_room : i < length out
    more_room = omega (arith, h.room, ap length more.2)

    pub store_more : Storing whole out₀ (set out i (m % 128 + 128)) (m / 128) (i + 1)
    store_more =
        let e = more.2 in
        let r : i + 1 + length (sevens more.0 (m / 128)) ≤ length out = omega (arith, h.room, ap length e) in
        record {
          most = more.0;
          bound = more.1;
          room = rw (length-set out i (m % 128 + 128)) r;
          same = length-set out i (m % 128 + 128) ∙ h.same;
          rest = over_cons i (m % 128 + 128) (sevens more.0 (m / 128)) out r ∙ ap (λ (bs : List ℕ). over i bs out) (sym e) ∙ h.rest;
        }
