-- `page::count` meets its contract. Assumes nothing.
use native.Mathlib.Omega.{arith}
use Rattle.page.proofs.Counts.{nothing, no_size, large_size, too_many, few_enough}
use Rattle.page.proofs.count.Goals.{then-n-eq0-via-then-n-eq0, then-n-eq0-via-else-n-eq0+then-size-eq0}
use Rattle.page.proofs.count.Goals as goal

pub returns-then-n-eq0 : goal.returns-then-n-eq0
returns-then-n-eq0 c =
    elim c.then-n-eq0.branch [
      | then-n-eq0-via-then-n-eq0 w ↦ nothing _ _ w.if-n-eq0.true
      | then-n-eq0-via-else-n-eq0+then-size-eq0 w ↦ no_size _ _ (omega (arith, w.if-n-eq0.false)) w.if-size-eq0.true
    ]

pub returns-then-size-gt-MOST_DATA : goal.returns-then-size-gt-MOST_DATA
returns-then-size-gt-MOST_DATA c = large_size _ _ (omega (arith, c.if-n-eq0.false)) (omega (arith, c.if-size-eq0.false)) c.if-size-gt-MOST_DATA.true

pub returns-then-before_last-ge-MOST_PAGES : goal.returns-then-before_last-ge-MOST_PAGES
returns-then-before_last-ge-MOST_PAGES c =
    let a = c.args in
    too_many a.n a.size (omega (arith, c.if-n-eq0.false)) (omega (arith, c.if-size-eq0.false)) c.if-size-gt-MOST_DATA.false c.if-before_last-ge-MOST_PAGES.true

pub returns : goal.returns
returns c =
    let a = c.args in
    few_enough a.n a.size (omega (arith, c.if-n-eq0.false)) (omega (arith, c.if-size-eq0.false)) c.if-size-gt-MOST_DATA.false c.if-before_last-ge-MOST_PAGES.false
