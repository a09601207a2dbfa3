-- `recover::found` meets its contract. Assumes nothing.
use Rattle.recover.proofs.Turns.{block_found}
use Rattle.recover.proofs.found.Goals as goal

pub returns : goal.returns
returns c = block_found _ c.args.k c.args.slips.now _ c.lay.ensures.1 c.lay.ensures.0 _ c.fits.ensures c.if-not-fits.false c.value.result c.value.ensures
