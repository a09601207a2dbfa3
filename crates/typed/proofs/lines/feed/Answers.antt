-- `typed::lines::feed` meets its contract: its cases are those of the definition. Assumes nothing.
use native.Mathlib.Omega.{arith}
use Rattle.typed.proofs.Steps.{step_short, step_many, step_close, step_skip, step_long, step_on}
use Rattle.typed.proofs.lines.feed.Goals as goal

pub returns-then-t-lt-FULL_LINE : goal.returns-then-t-lt-FULL_LINE
returns-then-t-lt-FULL_LINE c =
    (step_short c.args.t _ _ c.requires.0 c.requires.1 _ c.if-c-eq-FEED.true c.if-t-lt-FULL_LINE.true, tt)

pub returns-then-t-ge-MOST_LINES : goal.returns-then-t-ge-MOST_LINES
returns-then-t-ge-MOST_LINES c =
    (step_many c.args.t _ _ c.requires.0 c.requires.1 _ c.if-c-eq-FEED.true c.if-t-lt-FULL_LINE.false c.if-t-ge-MOST_LINES.true, tt)

pub returns-then-c-eq-FEED : goal.returns-then-c-eq-FEED
returns-then-c-eq-FEED c =
    let e = c.close.ensures in
    (step_close c.args.t _ _ c.requires.0 c.requires.1 _ _ c.if-c-eq-FEED.true c.if-t-lt-FULL_LINE.false c.if-t-ge-MOST_LINES.false e.0, record { short = omega (arith, e.1); first = omega (arith, e.2); last = omega (arith, e.2); made = omega (arith, e.2, e.3, c.requires.0.made, c.requires.0.short, c.requires.0.first) })

pub returns-then-skipped : goal.returns-then-skipped
returns-then-skipped c =
    (step_skip c.args.t _ _ c.requires.0 c.requires.1 _ c.if-c-eq-FEED.false _ c.skipped.ensures c.if-skipped.true, c.requires.0)

pub returns-then-at-ge-FULL_LINE : goal.returns-then-at-ge-FULL_LINE
returns-then-at-ge-FULL_LINE c =
    (step_long c.args.t _ _ c.requires.0 c.requires.1 _ c.if-c-eq-FEED.false _ c.skipped.ensures c.if-skipped.false c.if-at-ge-FULL_LINE.true, tt)

pub returns : goal.returns
returns c =
    (step_on c.args.t _ _ c.requires.0 c.requires.1 _ c.if-c-eq-FEED.false _ c.skipped.ensures c.if-skipped.false c.if-at-ge-FULL_LINE.false, record { short = omega arith; first = c.requires.0.first; last = c.requires.0.last; made = c.requires.0.made })
