-- Writing character by character: what has been written of bytes, and one character more.
-- Assumes nothing.
use Prim.Native.Nat.{ℕ, zero, suc, ◌+◌, ◌-◌, ◌*◌, ◌/◌, ◌%◌, ◌^◌, ◌≤◌, ◌<◌}
use mathlib.Core.Path.{◌≡◌, refl, sym, ap, ◌∙◌}
use mathlib.Core.Logic.{⊎_elim}
use mathlib.Core.Bool.{Bool, true, false}
use mathlib.Core.List.{List, [], ◌∷◌, ◌++◌, map}
use native.Mathlib.Nat.{mul-le-mul_left, mul_assoc, add-zero, div-one, mul-one, mul-suc}
use native.Mathlib.Numerals.{add-one}
use native.Mathlib.Omega.{arith}
use borrow.Author.Tests.{leb-true, leb-false}
use lib.Dec.{leb}
use lib.ListN.{length, take, get_or, length-append, get_or-append, get_or-eq_default}
use lib.Pow.{pow-add, shl-shr}
use lib.Seq.{take_all, take-suc, take-append_seam, length-take-le, get_or-append-add}
use Rattle.wire.specs.Answer.{choose}
use Rattle.wire.specs.Number.{digits, number, Bytes}
use Rattle.wire.proofs.Cases.{lt_or_le}
use Rattle.wire.proofs.Digits.{number_snoc}
use Rattle.text.specs.Text.{characters, filling, letter, text_of}
use Rattle.text.specs.Private.{Narrow, form_of, refilled}
use Rattle.text.specs.declared.write.Source.{Source}
use Rattle.text.proofs.Counts.{narrow_bounds, filled, filling_lt}
use Rattle.text.proofs.Flow.{Flow, flow_none, flow_in, flow_out, flow_digits}
use Rattle.text.proofs.Packing.{top_lt}
use Rattle.text.proofs.Sorts.{form_width, form_lawful}

-- the bytes, and the zeros that fill the last character
abbrev pub padded : List ℕ → List ℕ
padded bs = bs ++ (0 ∷ [])

padded_at : (bs : List ℕ) (i : ℕ) → get_or bs i 0 ≡ get_or (padded bs) i 0
padded_at bs i = ⊎_elim (λ h. sym (get_or-append bs (0 ∷ []) 0 i h)) (λ h. get_or-eq_default bs 0 {n = i} h ∙ past h) (lt_or_le i (length bs))
  where
    past : length bs ≤ i → 0 ≡ get_or (padded bs) i 0
    past h =
        let e : i ≡ length bs + (i - length bs) = omega arith in
        sym (ap (λ (k : ℕ). get_or (padded bs) k 0) e ∙ get_or-append-add bs (0 ∷ []) (i - length bs) 0 ∙ zeros (i - length bs))
      where
        zeros : (k : ℕ) → ◌≡◌ {A = ℕ} (get_or (0 ∷ []) k 0) 0
        zeros zero = refl
        zeros (suc k) = refl

-- j characters are written, with the values vs
pub record Writing (w : ℕ) (bs : List ℕ) (j : ℕ) (s : Source) (vs : List ℕ) : Type 0 where
  pub flow : Flow 8 w (take s.next (padded bs)) vs s.bits s.count
  pub count : length vs ≡ j
  pub taken : s.next ≤ length bs + 1
  pub short : s.count < 8

pub writing_none : (w : ℕ) (bs : List ℕ) → Writing w bs 0 (record { bits = 0; count = 0; next = 0 }) []
writing_none w bs = record { flow = flow_none 8 w; count = refl; taken = omega arith; short = omega arith }

module _ (w : ℕ) (narrow : Narrow w) (bs : List ℕ) (all : Bytes bs) where
  abbrev total : ℕ
  total = characters (form_of w) (length bs)

  length_padded : length (padded bs) ≡ length bs + 1
  length_padded = length-append bs (0 ∷ [])

  -- the characters hold the bytes and the filling, which is shorter than a character
  total_bits : (w * total ≡ 8 * length bs + filling (form_of w) (length bs)) × (filling (form_of w) (length bs) < w)
  total_bits =
      let e : (form_of w).width ≡ w = form_width w narrow in
      let f = filled (form_of w) (form_lawful w narrow) (length bs) in
      let l = filling_lt (form_of w) (form_lawful w narrow) (length bs) in
      (sym (ap (λ (n : ℕ). n * total) e) ∙ f, omega arith)

  module _ (j : ℕ) (s : Source) (vs : List ℕ) (r : Writing w bs j s vs) where
    bits_taken : 8 * s.next ≡ w * j + s.count
    bits_taken =
        let l : length (take s.next (padded bs)) ≡ s.next = length-take-le s.next (padded bs) (omega (arith, r.taken, length_padded)) in
        ap (λ (n : ℕ). 8 * n) (sym l) ∙ r.flow.count ∙ ap (λ (n : ℕ). w * n + s.count) r.count

    -- where the bits are too few, a byte or the filling is left
    next_left : j < total → s.count < w → s.next ≤ length bs
    next_left h l = omega (arith, bits_taken, mul-le-mul_left w h, mul-suc w j, total_bits, narrow_bounds w narrow)

    pub record Refilled (t : Source) : Type 0 where
      pub flow : Flow 8 w (take t.next (padded bs)) vs t.bits t.count
      pub taken : t.next ≤ length bs + 1
      pub enough : w ≤ t.count
      pub few : t.count < w + 8

    refilled_flow : j < total → Refilled (refilled w bs s)
    unfolding refilled
    refilled_flow h = go (leb w s.count) refl
      where
        go : (b : Bool) → leb w s.count ≡ b → Refilled (choose b s (record { bits = s.bits * 2 ^ 8 + get_or bs s.next 0; count = s.count + 8; next = s.next + 1 }))
        go true q = record { flow = r.flow; taken = r.taken; enough = leb-true w s.count q; few = omega (arith, r.short) }
        go false q =
            let l : s.count < w = leb-false w s.count q in
            let n : s.next ≤ length bs = next_left h l in
            let e : take (s.next + 1) (padded bs) ≡ take s.next (padded bs) ++ (get_or bs s.next 0 ∷ []) = ap (λ (k : ℕ). take k (padded bs)) (add-one s.next) ∙ take-suc (padded bs) s.next 0 (omega (arith, length_padded)) ∙ ap (λ (x : ℕ). take s.next (padded bs) ++ (x ∷ [])) (sym (padded_at bs s.next)) in
            record {
              flow = rw e (flow_in r.flow (get_or bs s.next 0) (all s.next));
              taken = omega arith;
              enough = omega (arith, narrow_bounds w narrow);
              few = omega arith;
            }

    -- one character more
    module _ (t : Source) (e : t ≡ refilled w bs s) (h : j < total) where
      refill_is : Refilled t
      refill_is = rw e (refilled_flow h)

      pub writing_bounds : (w ≤ t.count) × (t.count - w < 8) × (t.bits / 2 ^ (t.count - w) < 2 ^ w) × (t.next ≤ length bs + 1)
      writing_bounds =
          let q = refill_is in
          (q.enough, omega (arith, q.few), top_lt t.bits t.count w (t.count - w) q.flow.fits (omega (arith, q.enough)), q.taken)

      pub writing_next : (x : ℕ) → x ≡ t.bits % 2 ^ (t.count - w)
          → Writing w bs (j + 1) (record { bits = x; count = t.count - w; next = t.next }) (vs ++ (t.bits / 2 ^ (t.count - w) ∷ []))
      writing_next x p =
          let q = refill_is in
          record {
            flow = rw p (flow_out q.flow q.enough);
            count = length-append vs _ ∙ ap (λ (n : ℕ). n + 1) r.count;
            taken = q.taken;
            short = writing_bounds.1;
          }

    -- all characters are written
    module _ (done : j ≡ total) where
      sum_filled : number 256 (take s.next (padded bs)) / 2 ^ s.count ≡ number 256 bs * 2 ^ filling (form_of w) (length bs)
      sum_filled = ⊎_elim exact over (lt_or_le (length bs) s.next)
        where
          p : ℕ
          p = filling (form_of w) (length bs)

          bits : 8 * s.next ≡ 8 * length bs + filling (form_of w) (length bs) + s.count
          bits = bits_taken ∙ ap (λ (n : ℕ). w * n + s.count) done ∙ ap (λ (n : ℕ). n + s.count) total_bits.0

          exact : length bs < s.next → number 256 (take s.next (padded bs)) / 2 ^ s.count ≡ number 256 bs * 2 ^ filling (form_of w) (length bs)
          exact l =
              let n : s.next ≡ length bs + 1 = omega (arith, r.taken) in
              let k : 8 ≡ filling (form_of w) (length bs) + s.count = omega (arith, bits) in
              let a : take s.next (padded bs) ≡ padded bs = take_all s.next (padded bs) (omega (arith, length_padded)) in
              let m : number 256 (padded bs) ≡ number 256 bs * 2 ^ filling (form_of w) (length bs) * 2 ^ s.count = number_snoc 256 0 bs 0 ∙ add-zero (number 256 bs * 256) ∙ ap (λ (x : ℕ). number 256 bs * 2 ^ x) k ∙ ap (λ (x : ℕ). number 256 bs * x) (pow-add 2 (filling (form_of w) (length bs)) s.count) ∙ sym (mul_assoc (number 256 bs) (2 ^ filling (form_of w) (length bs)) (2 ^ s.count)) in
              rw (a, m) (shl-shr (number 256 bs * 2 ^ filling (form_of w) (length bs)) s.count)

          over : s.next ≤ length bs → number 256 (take s.next (padded bs)) / 2 ^ s.count ≡ number 256 bs * 2 ^ filling (form_of w) (length bs)
          over l =
              let n : s.next ≡ length bs = omega (arith, bits) in
              let k : s.count ≡ 0 = omega (arith, bits) in
              let z : filling (form_of w) (length bs) ≡ 0 = omega (arith, bits) in
              rw (n, k, z, take-append_seam bs (0 ∷ []), div-one (number 256 bs), mul-one (number 256 bs))

      pub writing_text : map (letter (form_of w)) vs ≡ text_of (form_of w) bs
      unfolding text_of
      writing_text =
          let x : ℕ = number 256 bs * 2 ^ filling (form_of w) (length bs) in
          let n : length vs ≡ total = r.count ∙ done in
          let e : vs ≡ digits (2 ^ w) total x = flow_digits r.flow ∙ ap (λ (k : ℕ). digits (2 ^ w) k (number 256 (take s.next (padded bs)) / 2 ^ s.count)) n ∙ ap (digits (2 ^ w) total) sum_filled in
          ap (map (letter (form_of w))) (e ∙ ap (λ (k : ℕ). digits (2 ^ k) total x) (sym (form_width w narrow)))
