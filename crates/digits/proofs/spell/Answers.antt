use native.Mathlib.Omega.{arith}
use Rattle.digits.proofs.Numerals.{spell_none, spell_room, spell_last, spell_more, spell_full}
use Rattle.digits.proofs.spell.Goals as goal

pub loop-i-init : goal.loop-i-init
loop-i-init c = search spell_none

pub returns-then-rest-lt10 : goal.returns-then-rest-lt10
returns-then-rest-lt10 c = spell_last _ _ _ _ c.loop-i.invariant (omega arith) (omega arith)

pub loop-i-preserved : goal.loop-i-preserved
loop-i-preserved c = search spell_more

pub returns : goal.returns
returns c = spell_full _ _ _ _ c.loop-i.invariant (omega arith)

pub shape_of-room-then-rest-lt10 : goal.shape_of-room-then-rest-lt10
shape_of-room-then-rest-lt10 c = search spell_room
