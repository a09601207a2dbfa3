-- `document_id::of` meets its contract. Assumes nothing.
use Rattle.document_id.specs.Id.{document_id_of}
use Rattle.document_id.proofs.of.Goals as goal

pub returns : goal.returns
unfolding document_id_of
returns c = cc
