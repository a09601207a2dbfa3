use mathlib.Core.Path.{◌≡◌, sym, ap, ◌∙◌}
use mathlib.Core.Bool.{true, false, false≢true}
use mathlib.Core.List.{List, [], ◌++◌}
use Prim.Native.Nat.{ℕ, ◌+◌, ◌≤◌, ◌<◌}
use native.Mathlib.Nat.{zero-add}
use native.Mathlib.Omega.{arith}
use lib.ListN.{length, get_or, length-append}
use Rattle.wire.specs.Over.{over}
use Rattle.wire.proofs.Overs.{over_none, over_then, length_over}
use Rattle.text.specs.Private.{Narrow, stepped, emitted, decoded}
use Rattle.text.specs.declared.read.Seen.{Seen}
use Rattle.std.specs.Prelude.{Some}
use Rattle.text.proofs.Reading.{Reading, reading_none, reading_on, reading_bad, reading_made, reading_room, reading_bytes}
use Rattle.text.proofs.read.decode.Goals as goal

never : {P : Type 0} → false ≡ true → P
never e = absurd (false≢true e)

kept-length : (ys out out₀ : List ℕ) → out ≡ over 0 ys out₀ → length out ≡ length out₀
kept-length ys out out₀ e = ap length e ∙ length_over 0 ys out₀

-- the next byte has room, since no more are made than the text has
room : (w : ℕ) (narrow : Narrow w) (cs : List ℕ) (i : ℕ) → i < length cs → (s t : Seen) (ys : List ℕ) → Reading w cs i s ys → Some t ≡ stepped w s (get_or cs i 0)
    → (out₀ out : List ℕ) → out ≡ over 0 ys out₀ → length (decoded w cs) ≤ length out₀ → s.made + length (emitted t.byte) ≤ length out
room w narrow cs i more s t ys r e out₀ out o h =
    let m = reading_room w narrow cs (i + 1) t (ys ++ emitted t.byte) (reading_on w narrow cs i more s t ys r e) in
    omega (arith, m, length-append ys (emitted t.byte), r.made, kept-length ys out out₀ o)

pub loop-c-init : goal.loop-c-init
loop-c-init c =
    (omega arith, ([], reading_none c.args.w c.args.text.now, sym (over_none 0 c.args.out.now)))

pub take-requires : goal.take-requires
take-requires c =
    let l = c.loop-c in
    let r = l.invariant.1.1 in
    (c.requires.0, c.requires.1, r.flow.fits, r.short, omega (arith, reading_made c.args.w c.requires.0 c.args.text.now l.c-index l.s l.invariant.1.0 r))

pub shape_of-out-in_default : goal.shape_of-out-in_default
shape_of-out-in_default c =
    kept-length c.loop-c.invariant.1.0 c.loop-c.out c.args.out.now c.loop-c.invariant.1.2

pub returns-in_default : goal.returns-in_default
returns-in_default c =
    let l = c.loop-c in
    never (sym (reading_bad c.args.w c.requires.0 c.args.text.now l.c-index (omega arith) l.s (sym c.in_default.is ∙ c.take.ensures)) ∙ c.requires.2)

pub emit-requires : goal.emit-requires
emit-requires c =
    let l = c.loop-c in
    let t = c.in-Some.seen in
    room c.args.w c.requires.0 c.args.text.now l.c-index (omega arith) l.s t l.invariant.1.0 l.invariant.1.1 c.in-Some.ensures c.args.out.now l.out l.invariant.1.2 c.requires.3

pub loop-c-preserved : goal.loop-c-preserved
loop-c-preserved c =
    let l = c.loop-c in
    let t = c.in-Some.seen in
    let q = c.in-Some.ensures in
    let r = l.invariant.1.1 in (
      omega arith,
      (
        l.invariant.1.0 ++ emitted t.byte,
        reading_on c.args.w c.requires.0 c.args.text.now l.c-index (omega arith) l.s t l.invariant.1.0 r q,
        over_then 0 l.s.made l.invariant.1.0 (emitted t.byte) c.args.out.now l.out c.emit.new.out c.emit.ensures l.invariant.1.2 (r.made ∙ sym (zero-add (length l.invariant.1.0)))
            (rw (kept-length l.invariant.1.0 l.out c.args.out.now l.invariant.1.2) at (room c.args.w c.requires.0 c.args.text.now l.c-index (omega arith) l.s t l.invariant.1.0 r q c.args.out.now l.out l.invariant.1.2 c.requires.3)),
      ),
    )

pub shape_of-out : goal.shape_of-out
shape_of-out c =
    let l = c.loop-c in
    kept-length l.invariant.1.0 l.out c.args.out.now l.invariant.1.2

pub returns : goal.returns
returns c =
    let l = c.loop-c in
    l.invariant.1.2
    ∙ ap (λ (bs : List ℕ). over 0 bs c.args.out.now) (reading_bytes c.args.w c.requires.0 c.args.text.now l.c-index l.s l.invariant.1.0 l.invariant.1.1 (omega arith))
