-- `blake2b::turn` meets its contract. The rotation is the standard library's. Assumes nothing.
use Rattle.blake2b.specs.Blake2b.{turn}
use Rattle.blake2b.proofs.Mixing.{rotated}
use Rattle.blake2b.proofs.turn.Goals as goal

pub returns : goal.returns
unfolding turn
returns c = cc (rotated c.args.n (c.rotate_right.result) _ c.requires.2 c.requires.3 c.rotate_right.ensures)
