-- `told::pages::entry` meets its contract. Assumes nothing.
use mathlib.Core.Path.{refl}
use Rattle.block.specs.Block.{state_number}
use Rattle.block.proofs.States.{ne_yes, ne_no}
use Rattle.told.proofs.Lists.{entry_none, entry_one}
use Rattle.told.proofs.pages.entry.Goals as goal

pub returns-then-ne : goal.returns-then-ne
returns-then-ne c =
    let a = c.args in
    let s = c.state.result in
    entry_none a.c.now a.k (state_number a.state) a.at _ (state_number s) c.place.ensures c.state.ensures a.out.now
    (ne_yes s a.state _ (state_number s) refl c.ne.ensures c.if-ne.true)

pub returns : goal.returns
returns c =
    let a = c.args in
    let s = c.state.result in
    entry_one a.c.now a.k (state_number a.state) a.at _ (state_number s) c.place.ensures c.state.ensures a.out.now
    (ne_no s a.state _ (state_number s) refl c.ne.ensures c.if-ne.false) c.requires _ _ _ c.put.ensures c.decimal.ensures
