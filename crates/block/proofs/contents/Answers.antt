-- `block::contents` meets its contract: what the length says of the 480 bytes of data, where the
-- state is 1. Assumes nothing.
use mathlib.Core.Path.{◌∙◌}
use native.Mathlib.Omega.{arith}
use Rattle.block.specs.declared.PageState.TheVariants as page
use Rattle.block.proofs.States.{ne_yes, ne_no, held_long}
use Rattle.block.proofs.Reading.{data_other, data_cut, data_whole}
use Rattle.block.proofs.contents.Goals as goal

pub returns-then-ne : goal.returns-then-ne
returns-then-ne c = data_other _ (ne_yes _ page.Held _ _ c.state.ensures c.ne.ensures c.if-ne.true)

pub bounds-b-12 : goal.bounds-b-12
bounds-b-12 c = omega (arith, held_long _ _ _ _ _ c.block-b.ensures c.state.ensures c.ne.ensures c.if-ne.false)

pub bounds-b : goal.bounds-b
bounds-b c = omega (arith, held_long _ _ _ _ _ c.block-b.ensures c.state.ensures c.ne.ensures c.if-ne.false)

pub slice_bounds-result-end-then-n-gt-MOST_DATA : goal.slice_bounds-result-end-then-n-gt-MOST_DATA
slice_bounds-result-end-then-n-gt-MOST_DATA c = omega (arith, held_long _ _ _ _ _ c.block-b.ensures c.state.ensures c.ne.ensures c.if-ne.false)

pub slice_bounds-result-end-2 : goal.slice_bounds-result-end-2
slice_bounds-result-end-2 c = omega (arith, held_long _ _ _ _ _ c.block-b.ensures c.state.ensures c.ne.ensures c.if-ne.false)

pub returns-then-n-gt-MOST_DATA : goal.returns-then-n-gt-MOST_DATA
returns-then-n-gt-MOST_DATA c =
    data_cut _ _ c.block-b.ensures (ne_no _ page.Held _ _ c.state.ensures c.ne.ensures c.if-ne.false) _ (c.from-n.ensures ∙ c.from_be_bytes.ensures)
    c.if-n-gt-MOST_DATA.true

pub returns : goal.returns
returns c =
    data_whole _ _ c.block-b.ensures (ne_no _ page.Held _ _ c.state.ensures c.ne.ensures c.if-ne.false) _ (c.from-n.ensures ∙ c.from_be_bytes.ensures)
    c.if-n-gt-MOST_DATA.false
