-- `text::read::take` meets its contract: the table's entry says what the character is.
-- Assumes nothing.
use mathlib.Core.Path.{ap, ◌∙◌}
use native.Mathlib.Omega.{arith}
use lib.ListN.{get_or}
use Rattle.std.specs.Prelude.{Some}
use Rattle.text.proofs.Sorts.{take_skipped, take_bad, take_value}
use Rattle.text.proofs.read.take.Goals as goal

pub returns-then-v : goal.returns-then-v
returns-then-v c =
    let a = c.args in
    let p = c.requires in
    take_skipped a.w p.0 a.s a.c (get_or a.table.now a.c 0) (p.1 a.c (omega arith)) c.if-v.true

pub returns-then-v-2 : goal.returns-then-v-2
returns-then-v-2 c =
    let a = c.args in
    let p = c.requires in
    take_bad a.w p.0 a.s a.c (get_or a.table.now a.c 0) (p.1 a.c (omega arith)) c.if-v-2.true

pub feed-requires : goal.feed-requires
feed-requires c =
    let a = c.args in
    let p = c.requires in
    let t = take_value a.w p.0 a.s a.c (get_or a.table.now a.c 0) (p.1 a.c (omega arith)) c.if-v.false c.if-v-2.false in
    (p.0, p.2, p.3, t.0, p.4)

pub returns : goal.returns
returns c =
    let a = c.args in
    let p = c.requires in
    let t = take_value a.w p.0 a.s a.c (get_or a.table.now a.c 0) (p.1 a.c (omega arith)) c.if-v.false c.if-v-2.false in
    ap Some c.feed.ensures ∙ t.1
