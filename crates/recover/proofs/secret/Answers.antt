-- `recover::secret` meets its contract: 29, 30, or the secret. Assumes nothing.
use mathlib.Core.Path.{refl, ap}
use mathlib.Core.Bool.{not}
use Rattle.recover.proofs.Verdicts.{off_curve, not_filled, secret_given}
use Rattle.recover.proofs.secret.Goals as goal

pub returns-then-not-blocks : goal.returns-then-not-blocks
returns-then-not-blocks c =
    off_curve _ _ _ _ _ _ c.requires.2 refl c.blocks-2.ensures _ (ap not c.if-not-blocks.true)

pub returns-then-not-all_zeros : goal.returns-then-not-all_zeros
returns-then-not-all_zeros c =
    not_filled _ _ _ _ _ _ c.requires.2 refl c.blocks-2.ensures (ap not c.if-not-blocks.false) _ c.all_zeros.ensures _ (ap not c.if-not-all_zeros.true)

pub returns : goal.returns
returns c =
    secret_given _ _ _ _ _ _ c.requires.2 refl c.blocks-2.ensures (ap not c.if-not-blocks.false) _ c.all_zeros.ensures (ap not c.if-not-all_zeros.false) _ _ c.give.result c.give.ensures
