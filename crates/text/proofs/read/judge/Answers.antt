use mathlib.Core.Path.{sym, ◌∙◌}
use mathlib.Core.List.{[], ◌++◌}
use native.Mathlib.Omega.{arith}
use Rattle.text.proofs.Reading.{reading_none, reading_on, reading_bad, reading_made, reading_judged, judged_bad}
use Rattle.text.specs.Private.{emitted}
use Rattle.text.proofs.read.judge.Goals as goal

pub loop-c-init : goal.loop-c-init
loop-c-init c = (omega arith, ([], reading_none c.args.w c.args.text.now))

pub take-requires : goal.take-requires
take-requires c =
    let l = c.loop-c in
    let r = l.invariant.1.1 in
    (c.requires.0, c.requires.1, r.flow.fits, r.short, omega (arith, reading_made c.args.w c.requires.0 c.args.text.now l.c-index l.s l.invariant.1.0 r))

pub returns-in_err-s : goal.returns-in_err-s
returns-in_err-s c =
    let l = c.loop-c in
    c.from_residual.ensures
    ∙ judged_bad c.args.w c.args.text.now (reading_bad c.args.w c.requires.0 c.args.text.now l.c-index (omega arith) l.s (sym c.in_err-s.was ∙ c.take.ensures))

pub loop-c-preserved : goal.loop-c-preserved
loop-c-preserved c =
    let l = c.loop-c in
    let t = c.in_ok-s.s in
    (omega arith, (l.invariant.1.0 ++ emitted t.byte, reading_on c.args.w c.requires.0 c.args.text.now l.c-index (omega arith) l.s t l.invariant.1.0 l.invariant.1.1 (c.in_ok-s.ensures)))

pub returns : goal.returns
returns c =
    let l = c.loop-c in
    reading_judged c.args.w c.requires.0 c.args.text.now l.c-index l.s l.invariant.1.0 l.invariant.1.1 (omega arith)
