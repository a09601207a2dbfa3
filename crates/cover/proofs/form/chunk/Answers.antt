-- `cover::form::chunk` meets its contract: two writes in a row are one. Assumes nothing.
use Rattle.cover.proofs.Laying.{start_fits, end_fits, chunk_laid}
use Rattle.cover.proofs.form.chunk.Goals as goal

pub overflow_add-start : goal.overflow_add-start
overflow_add-start c = search start_fits

pub overflow_add-result : goal.overflow_add-result
overflow_add-result c = search end_fits

pub returns : goal.returns
returns c =
    chunk_laid _ _ _ _ _ _ c.requires c.write.ensures c.size.ensures c.copy.ensures
