use mathlib.Core.Path.{◌≡◌, sym, ap, ◌∙◌}
use mathlib.Core.Logic.{inl, inr}
use mathlib.Core.List.{List, [], ◌∷◌, ◌++◌, map, map-append}
use Prim.Native.Nat.{ℕ, ◌+◌, ◌-◌, ◌/◌, ◌^◌, ◌≤◌, ◌<◌}
use native.Mathlib.Omega.{arith}
use lib.ListN.{length, set, get_or, length-map}
use Rattle.wire.specs.Over.{over}
use Rattle.wire.proofs.Overs.{over_none, over_snoc, length_over}
use Rattle.text.specs.Text.{letter}
use Rattle.text.specs.Private.{Narrow, form_of}
use Rattle.text.proofs.Encoding.{writing_none, writing_bounds, writing_next, writing_text}
use Rattle.text.proofs.Sorts.{form_width, form_lawful}
use Rattle.text.proofs.write.encode.Goals as goal

below_total : {j len total : ℕ} → j < len → len ≡ total → j < total
below_total h e = omega arith

done : {j len total : ℕ} → j ≤ len → len ≤ j → len ≡ total → j ≡ total
done a b e = omega arith

size : (w : ℕ) → Narrow w → 2 ^ w ≤ 64
size w (inl e) = rw e (omega arith)
size w (inr e) = rw e (omega arith)

alphabet_full : (w : ℕ) → Narrow w → length (form_of w).alphabet ≡ 2 ^ w
alphabet_full w narrow = (form_lawful w narrow).full ∙ ap (λ (n : ℕ). 2 ^ n) (form_width w narrow)

kept-length : (vs : List ℕ) (w : ℕ) (out out₀ : List ℕ) → out ≡ over 0 (map (letter (form_of w)) vs) out₀ → length out ≡ length out₀
kept-length vs w out out₀ e = ap length e ∙ length_over 0 (map (letter (form_of w)) vs) out₀

-- one letter more in the output
stored : (w : ℕ) (letters : List ℕ) → letters ≡ (form_of w).alphabet → (vs : List ℕ) (j v x : ℕ) → x ≡ v → length vs ≡ j → (out₀ out : List ℕ)
    → out ≡ over 0 (map (letter (form_of w)) vs) out₀ → j < length out₀ → set out j (get_or letters x 0) ≡ over 0 (map (letter (form_of w)) (vs ++ (v ∷ []))) out₀
stored w letters e vs j v x q n out₀ out o h =
    let l : j ≡ 0 + length (map (letter (form_of w)) vs) = omega (arith, length-map vs (letter (form_of w))) in
    ap (λ (r : List ℕ). set r j (get_or letters x 0)) o
    ∙ ap (λ (r : List ℕ). set (over 0 (map (letter (form_of w)) vs) out₀) j (get_or r x 0)) e
    ∙ ap (λ (k : ℕ). set (over 0 (map (letter (form_of w)) vs) out₀) j (letter (form_of w) k)) q
    ∙ over_snoc 0 (map (letter (form_of w)) vs) out₀ j (letter (form_of w) v) l h
    ∙ ap (λ (r : List ℕ). over 0 r out₀) (sym (map-append (letter (form_of w)) vs (v ∷ [])))

pub loop-j-init : goal.loop-j-init
loop-j-init c =
    (omega arith, ([], writing_none c.args.w c.args.src.now, sym (over_none 0 c.args.out.now)))

pub refill-t-requires : goal.refill-t-requires
refill-t-requires c =
    let l = c.loop-j in
    let r = l.invariant.1.1 in
    (c.requires.0, r.flow.fits, r.short, omega (arith, r.taken, c.well_formed))

pub overflow_sub-left : goal.overflow_sub-left
overflow_sub-left c =
    (writing_bounds c.args.w c.requires.0 c.args.src.now (λ i. (c.type_inv.src i).fits) c.loop-j.j c.loop-j.s c.loop-j.invariant.1.0 c.loop-j.invariant.1.1 c.refill-t.result c.refill-t.ensures (below_total c.loop-j-test.true c.requires.2)).0

pub top-v-requires : goal.top-v-requires
top-v-requires c =
    let h = writing_bounds c.args.w c.requires.0 c.args.src.now (λ i. (c.type_inv.src i).fits) c.loop-j.j c.loop-j.s c.loop-j.invariant.1.0 c.loop-j.invariant.1.1 c.refill-t.result c.refill-t.ensures (below_total c.loop-j-test.true c.requires.2) in
    (h.1, omega (arith, h.2, size c.args.w c.requires.0))

pub bounds-letters-v : goal.bounds-letters-v
bounds-letters-v c =
    let t = c.refill-t in
    let h = writing_bounds c.args.w c.requires.0 c.args.src.now (λ i. (c.type_inv.src i).fits) c.loop-j.j c.loop-j.s c.loop-j.invariant.1.0 c.loop-j.invariant.1.1 t.result t.ensures (below_total c.loop-j-test.true c.requires.2) in
    omega (arith, h.2, c.top-v.ensures, ap length c.requires.1, alphabet_full c.args.w c.requires.0)

pub bounds-out-j : goal.bounds-out-j
bounds-out-j c =
    omega (arith, kept-length c.loop-j.invariant.1.0 c.args.w c.loop-j.out c.args.out.now c.loop-j.invariant.1.2, c.loop-j-test.true, c.requires.3)

pub low-requires : goal.low-requires
low-requires c =
    let t = c.refill-t in
    (writing_bounds c.args.w c.requires.0 c.args.src.now (λ i. (c.type_inv.src i).fits) c.loop-j.j c.loop-j.s c.loop-j.invariant.1.0 c.loop-j.invariant.1.1 t.result t.ensures (below_total c.loop-j-test.true c.requires.2)).1

pub loop-j-preserved : goal.loop-j-preserved
loop-j-preserved c =
    let t = c.refill-t in
    let test = c.loop-j-test.true in
    let vs = c.loop-j.invariant.1.0 in
    let v = t.result.bits / 2 ^ (t.result.count - c.args.w) in (
      omega (arith, test),
      (
        vs ++ (v ∷ []),
        writing_next c.args.w c.requires.0 c.args.src.now (λ i. (c.type_inv.src i).fits) c.loop-j.j c.loop-j.s vs c.loop-j.invariant.1.1 t.result t.ensures (below_total test c.requires.2) c.low.result c.low.ensures,
        stored c.args.w c.args.letters.now c.requires.1 vs c.loop-j.j v c.top-v.result c.top-v.ensures c.loop-j.invariant.1.1.count c.args.out.now c.loop-j.out c.loop-j.invariant.1.2 (omega (arith, test, c.requires.3)),
      ),
    )

pub shape_of-out : goal.shape_of-out
shape_of-out c =
    let l = c.loop-j in
    kept-length l.invariant.1.0 c.args.w l.out c.args.out.now l.invariant.1.2

pub returns : goal.returns
returns c =
    let l = c.loop-j in
    l.invariant.1.2
    ∙ ap (λ (x : List ℕ). over 0 x c.args.out.now)
    (writing_text c.args.w c.requires.0 c.args.src.now (λ i. (c.type_inv.src i).fits) l.j l.s l.invariant.1.0 l.invariant.1.1 (done l.invariant.0 c.loop-j-test.false c.requires.2))
