-- One answer, by each contract itself: the field, splitting and recovering. Assumes nothing.
use mathlib.Core.Path.{refl, sym, ◌∙◌}
use Rattle.promises.specs.Once.{Once}
use Rattle.promises.proofs.Lasts.{here, past}
use Rattle.wire.proofs.Writes.{written_once}
use Rattle.field.proofs.sum as field-sum
use Rattle.field.proofs.scale as field-scale
use Rattle.field.proofs.product as field-product
use Rattle.field.proofs.over as field-over
use Rattle.field.proofs.load as field-load
use Rattle.field.proofs.bytes as field-bytes
use Rattle.split.proofs.split as split-split
use Rattle.recover.proofs.recover as recover-recover
use Rattle.recover.proofs.alike as recover-alike

pub field_sum_once : Once field-sum.Kinds.ps field-sum.Kinds.r field-sum.Reads.Learnt
field_sum_once κs args x y u v p q = (p ∙ sym q, refl)

pub field_scale_once : Once field-scale.Kinds.ps field-scale.Kinds.r field-scale.Reads.Learnt
field_scale_once κs args x y u v p q = (p ∙ sym q, refl)

pub field_product_once : Once field-product.Kinds.ps field-product.Kinds.r field-product.Reads.Learnt
field_product_once κs args x y u v p q = (p ∙ sym q, refl)

pub field_over_once : Once field-over.Kinds.ps field-over.Kinds.r field-over.Reads.Learnt
field_over_once κs args x y u v p q = (p ∙ sym q, refl)

pub field_load_once : Once field-load.Kinds.ps field-load.Kinds.r field-load.Reads.Learnt
field_load_once κs args x y u v p q = (p ∙ sym q, refl)

pub field_bytes_once : Once field-bytes.Kinds.ps field-bytes.Kinds.r field-bytes.Reads.Learnt
field_bytes_once κs args x y u v p q = (p ∙ sym q, refl)

pub split_split_once : Once split-split.Kinds.ps split-split.Kinds.r split-split.Reads.Learnt
split_split_once κs args x y u v p q = let e = written_once x y p q in (e.0, past (past (past (past (here e.1)))))

pub recover_recover_once : Once recover-recover.Kinds.ps recover-recover.Kinds.r recover-recover.Reads.Learnt
recover_recover_once κs args x y u v p q = let e = written_once x y p q in (e.0, past (past (past (here e.1))))

pub recover_alike_once : Once recover-alike.Kinds.ps recover-alike.Kinds.r recover-alike.Reads.Learnt
recover_alike_once κs args x y u v p q = (p ∙ sym q, refl)
