-- Reading character by character: what has been read of a text, and one character more.
-- Assumes nothing.
use Prim.Native.Nat.{ℕ, suc, ◌+◌, ◌*◌, ◌/◌, ◌^◌, ◌≤◌, ◌<◌}
use mathlib.Core.Path.{◌≡◌, refl, sym, ap, ◌∙◌}
use mathlib.Core.Bool.{Bool, true, false}
use mathlib.Core.List.{List, [], ◌∷◌, ◌++◌, append-nil}
use native.Mathlib.Nat.{mul-le-mul_left, mul-le-mul_right}
use native.Mathlib.Numerals.{add-one}
use native.Mathlib.Omega.{arith}
use borrow.Author.Tests.{ltb-true, ltb-false}
use lib.Dec.{ltb}
use lib.ListN.{length, take, drop, get_or, length-append, length-take, take-append-drop}
use lib.Pow.{pow_pos}
use lib.Seq.{take_all, take-suc, split_at}
use Rattle.wire.specs.Answer.{choose}
use Rattle.wire.specs.Number.{Digits}
use Rattle.wire.proofs.Digits.{length_digits, small_snoc}
use Rattle.wire.specs.Every.{within}
use Rattle.text.specs.Text.{skipped, kept, value, values, leftover}
use Rattle.text.specs.Private.{Narrow, form_of, fed, stepped, emitted, decoded, judged}
use Rattle.text.specs.declared.read.Seen.{Seen}
use Rattle.std.specs.Prelude.{Some, None}
use Rattle.text.proofs.Counts.{narrow_bounds, leftover_is}
use Rattle.text.proofs.Characters.{within_true, within_stop, values_append, values_skipped, values_one, length_values}
use Rattle.text.proofs.Flow.{Flow, flow_none, flow_in, flow_out, flow_digits, flow_held}
use Rattle.text.proofs.Sorts.{form_width, form_lawful}

-- the first i characters are read; they gave the bytes ys
pub record Reading (w : ℕ) (cs : List ℕ) (i : ℕ) (s : Seen) (ys : List ℕ) : Type 0 where
  pub small : Digits (2 ^ w) (values (form_of w) (take i cs))
  pub flow : Flow w 8 (values (form_of w) (take i cs)) ys s.bits s.count
  pub made : s.made ≡ length ys
  pub short : s.count < 8

pub reading_none : (w : ℕ) (cs : List ℕ) → Reading w cs 0 (record { bits = 0; count = 0; made = 0; byte = None }) []
unfolding values kept
reading_none w cs = record { small = λ i. pow_pos w; flow = flow_none w 8; made = refl; short = omega arith }

module _ (w : ℕ) (narrow : Narrow w) (cs : List ℕ) (i : ℕ) (more : i < length cs) where
  abbrev c : ℕ
  c = get_or cs i 0

  next_values : values (form_of w) (take (i + 1) cs) ≡ values (form_of w) (take i cs) ++ values (form_of w) (c ∷ [])
  next_values = ap (λ (k : ℕ). values (form_of w) (take k cs)) (add-one i) ∙ ap (values (form_of w)) (take-suc cs i 0 more) ∙ values_append (form_of w) (take i cs) (c ∷ [])

  -- a skipped character
  skip_on : (s : Seen) (ys : List ℕ) → Reading w cs i s ys → skipped (form_of w) c ≡ true
      → Reading w cs (i + 1) (record { bits = s.bits; count = s.count; made = s.made; byte = None }) (ys ++ [])
  skip_on s ys r e =
      let v : values (form_of w) (take (i + 1) cs) ≡ values (form_of w) (take i cs) = next_values ∙ ap (λ (l : List ℕ). values (form_of w) (take i cs) ++ l) (values_skipped (form_of w) c e) ∙ append-nil _ in
      record { small = rw v r.small; flow = rw (v, append-nil ys) r.flow; made = rw (append-nil ys) r.made; short = r.short }

  -- a character with the value v
  value_on : (s : Seen) (ys : List ℕ) → Reading w cs i s ys → skipped (form_of w) c ≡ false → value (form_of w) c < 2 ^ w
      → Reading w cs (i + 1) (fed w s (value (form_of w) c)) (ys ++ emitted (fed w s (value (form_of w) c)).byte)
  unfolding fed
  value_on s ys r e l = go (ltb (s.count + w) 8) refl
    where
      vs : values (form_of w) (take (i + 1) cs) ≡ values (form_of w) (take i cs) ++ (value (form_of w) c ∷ [])
      vs = next_values ∙ ap (λ (x : List ℕ). values (form_of w) (take i cs) ++ x) (values_one (form_of w) c e)

      small : Digits (2 ^ w) (values (form_of w) (take (i + 1) cs))
      small = rw vs (small_snoc (2 ^ w) (values (form_of w) (take i cs)) (value (form_of w) c) r.small l)

      go : (t : Bool) → ltb (s.count + w) 8 ≡ t
          → Reading w cs (i + 1) (fed w s (value (form_of w) c)) (ys ++ emitted (fed w s (value (form_of w) c)).byte)
      go true q = rw (q, append-nil ys)
          (record { small = small; flow = rw vs (flow_in r.flow (value (form_of w) c) l); made = r.made; short = ltb-true (s.count + w) 8 q })
      go false q = rw q
          (record {
            small = small;
            flow = rw vs (flow_out (flow_in r.flow (value (form_of w) c) l) (ltb-false (s.count + w) 8 q));
            made = rw (length-append ys _, r.made) refl;
            short = omega (arith, r.short, narrow_bounds w narrow);
          })

  pub reading_on : (s t : Seen) (ys : List ℕ) → Reading w cs i s ys → Some t ≡ stepped w s c → Reading w cs (i + 1) t (ys ++ emitted t.byte)
  unfolding stepped
  reading_on s t ys r e = go (skipped (form_of w) c) (ltb (value (form_of w) c) (2 ^ w)) refl refl e
    where
      go : (a b : Bool) → skipped (form_of w) c ≡ a → ltb (value (form_of w) c) (2 ^ w) ≡ b
          → Some t ≡ choose a (Some (record { bits = s.bits; count = s.count; made = s.made; byte = None })) (choose b (Some (fed w s (value (form_of w) c))) None)
          → Reading w cs (i + 1) t (ys ++ emitted t.byte)
      go true b p q h =
          let z : t ≡ record { bits = s.bits; count = s.count; made = s.made; byte = None } = cc in
          rw z (skip_on s ys r p)
      go false true p q h =
          let z : t ≡ fed w s (value (form_of w) c) = cc in
          rw z (value_on s ys r p (ltb-true (value (form_of w) c) (2 ^ w) q))
      go false false p q h = let z : ◌≡◌ {A = ℕ} 0 1 = cc in absurd (omega arith)

  -- a character that is not allowed decides the whole text
  pub reading_bad : (s : Seen) → None ≡ stepped w s c → within (2 ^ w) (values (form_of w) cs) ≡ false
  unfolding stepped
  reading_bad s e = go (skipped (form_of w) c) (ltb (value (form_of w) c) (2 ^ w)) refl refl e
    where
      parts : skipped (form_of w) c ≡ false → values (form_of w) cs ≡ values (form_of w) (take i cs) ++ (value (form_of w) c ∷ values (form_of w) (drop (suc i) cs))
      parts p =
          ap (values (form_of w)) (split_at cs i 0 more)
          ∙ values_append (form_of w) (take i cs) (c ∷ drop (suc i) cs)
          ∙ ap (λ (l : List ℕ). values (form_of w) (take i cs) ++ l) (values_append (form_of w) (c ∷ []) (drop (suc i) cs) ∙ ap (λ (l : List ℕ). l ++ values (form_of w) (drop (suc i) cs)) (values_one (form_of w) c p))

      go : (a b : Bool) → skipped (form_of w) c ≡ a → ltb (value (form_of w) c) (2 ^ w) ≡ b
          → None ≡ choose a (Some (record { bits = s.bits; count = s.count; made = s.made; byte = None })) (choose b (Some (fed w s (value (form_of w) c))) None)
          → within (2 ^ w) (values (form_of w) cs) ≡ false
      go true b p q h = let z : ◌≡◌ {A = ℕ} 0 1 = cc in absurd (omega arith)
      go false true p q h = let z : ◌≡◌ {A = ℕ} 0 1 = cc in absurd (omega arith)
      go false false p q h = rw (parts p) (within_stop (2 ^ w) (value (form_of w) c) (values (form_of w) (take i cs)) (values (form_of w) (drop (suc i) cs)) (ltb-false (value (form_of w) c) (2 ^ w) q))

module _ (w : ℕ) (narrow : Narrow w) (cs : List ℕ) (i : ℕ) (s : Seen) (ys : List ℕ) (r : Reading w cs i s ys) where
  -- fewer bytes are made than characters read
  pub reading_made : s.made ≤ i
  reading_made =
      let n : ℕ = length (values (form_of w) (take i cs)) in
      let a : n ≤ i = omega (arith, length_values (form_of w) (take i cs), length-take i cs) in
      omega (arith, r.made, r.flow.count, mul-le-mul_right n (narrow_bounds w narrow).1, a)

  -- no more than the text has
  pub reading_room : length ys ≤ length (decoded w cs)
  unfolding decoded
  reading_room =
      let n : ℕ = length (values (form_of w) (take i cs)) in
      let m : ℕ = length (values (form_of w) cs) in
      let e : values (form_of w) cs ≡ values (form_of w) (take i cs) ++ values (form_of w) (drop i cs) = ap (values (form_of w)) (sym (take-append-drop i cs)) ∙ values_append (form_of w) (take i cs) (drop i cs) in
      let l : n ≤ m = omega (arith, ap length e, length-append (values (form_of w) (take i cs)) (values (form_of w) (drop i cs))) in
      rw (length_digits 256 _ _) (omega (arith, r.flow.count, mul-le-mul_left w l))

  -- the whole text
  module _ (done : length cs ≤ i) where
    all : take i cs ≡ cs
    all = take_all i cs done

    vs : List ℕ
    vs = values (form_of w) cs

    flow_all : Flow w 8 vs ys s.bits s.count
    unfolding vs
    flow_all = rw all at r.flow

    counts : (leftover (form_of w) (length vs) ≡ s.count) × (w * length vs / 8 ≡ length ys)
    counts =
        let e : (form_of w).width ≡ w = form_width w narrow in
        let h = leftover_is (form_of w) (form_lawful w narrow) (length ys) (length vs) s.count (rw e flow_all.count) r.short in
        (h.0, rw e at h.1)

    pub reading_below : within (2 ^ w) (values (form_of w) cs) ≡ true
    reading_below = within_true (2 ^ w) (values (form_of w) cs) (rw all at r.small)

    pub reading_bytes : ys ≡ decoded w cs
    unfolding decoded vs
    reading_bytes = rw (counts.0, counts.1) (flow_digits flow_all)

    pub reading_judged : Some (record { bits = s.bits; count = s.count; made = s.made }) ≡ judged w cs
    unfolding judged vs
    reading_judged = rw (reading_below, counts.0, counts.1, r.made, ← flow_held flow_all)

-- ---- what was judged of the whole text

module _ (w : ℕ) (cs : List ℕ) where
  pub judged_bad : within (2 ^ w) (values (form_of w) cs) ≡ false → None ≡ judged w cs
  unfolding judged
  judged_bad e = rw e
