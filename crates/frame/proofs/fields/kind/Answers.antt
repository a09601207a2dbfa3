-- `frame::fields::kind` meets its contract: each test picks its case. Assumes nothing.
use mathlib.Core.Path.{refl, sym, ◌∙◌}
use Rattle.wire.proofs.Branch.{branch}
use Rattle.frame.specs.Frame.{known, kind_at}
use Rattle.frame.proofs.Within.{kind_stands, kind_none}
use Rattle.frame.proofs.fields.kind.Goals as goal

pub returns-then-s-at : goal.returns-then-s-at
unfolding kind_at
returns-then-s-at c = search branch

pub returns-then-b-from : goal.returns-then-b-from
unfolding known
returns-then-b-from c = kind_stands _ _ c.if-s-at.false 0x44 (c.if-b-from.true ∙ c.from.ensures) refl

pub returns-then-b-from-2 : goal.returns-then-b-from-2
unfolding known
returns-then-b-from-2 c = kind_stands _ _ c.if-s-at.false 0x4B (c.if-b-from-2.true ∙ c.from-2.ensures) refl

pub returns-then-b-from-3 : goal.returns-then-b-from-3
unfolding known
returns-then-b-from-3 c = kind_stands _ _ c.if-s-at.false 0x41 (c.if-b-from-3.true ∙ c.from-3.ensures) refl

pub returns : goal.returns
returns c =
    kind_none _ _ c.if-s-at.false (λ e. c.if-b-from.false (e ∙ sym c.from.ensures)) (λ e. c.if-b-from-2.false (e ∙ sym c.from-2.ensures))
    (λ e. c.if-b-from-3.false (e ∙ sym c.from-3.ensures))
