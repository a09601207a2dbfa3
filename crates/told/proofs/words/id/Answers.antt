-- `told::words::id` meets its contract. Assumes nothing.
use native.Mathlib.Omega.{arith}
use Rattle.told.proofs.Speech.{id_laid, id_fits}
use Rattle.told.proofs.words.id.Goals as goal

pub overflow_add-result : goal.overflow_add-result
overflow_add-result c = record { fits = omega (arith, id_fits _ _ c.id-id.ensures) }

pub returns : goal.returns
returns c = search id_laid
