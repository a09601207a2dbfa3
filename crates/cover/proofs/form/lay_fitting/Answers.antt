-- `cover::form::lay_fitting` meets its contract: each part starts where the one before it ended.
-- Assumes nothing.
use native.Mathlib.Omega.{arith}
use Rattle.cover.proofs.Laying.{cover_length, cover_laid}
use Rattle.cover.proofs.form.lay_fitting.Goals as goal

pub chunk-next-requires : goal.chunk-next-requires
chunk-next-requires c =
    let a = c.args in
    omega (arith, cover_length a.manifest.now a.payload.now)

pub chunk-requires : goal.chunk-requires
chunk-requires c =
    let a = c.args in
    omega (arith, cover_length a.manifest.now a.payload.now)

pub returns : goal.returns
returns c =
    cover_laid _ _ _ c.requires _ _ _ _ _ c.lay.ensures c.chunk-next.ensures c.chunk.ensures
