-- `stilt_frame` meets its contract. A frame that is read fits the casts. Assumes nothing.
use mathlib.Core.Path.{◌∙◌}
use native.Mathlib.Omega.{arith}
use Rattle.collection.proofs.Good.{frame_total, frame_index, frame_long}
use Rattle.phone.proofs.Seeing.{seen_refused, seen_short, seen_whole}
use Rattle.phone.proofs.stilt_frame.Goals as goal

pub returns-in-Err : goal.returns-in-Err
returns-in-Err c =
    let told = seen_refused _ _ _ c.read.ensures _ _ c.in-Err.is c.refused.ensures in
    record { value = told.0; id_after = told.1 }

pub returns-then-id-lt-ID_SIZE : goal.returns-then-id-lt-ID_SIZE
returns-then-id-lt-ID_SIZE c =
    let told = seen_short _ _ _ c.read.ensures _ c.in-Ok.is _ (omega arith) c.refused-then-id-lt-ID_SIZE.ensures in
    record { value = told.0; id_after = told.1 }

pub slice_bounds-copy-end : goal.slice_bounds-copy-end
slice_bounds-copy-end c = omega (arith, frame_long c.args.s.now c.in-Ok.f c.in-Ok.ensures (λ i. (c.type_inv.s i).fits))

pub overflow_cast-f : goal.overflow_cast-f
overflow_cast-f c = record { fits = frame_index c.args.s.now c.in-Ok.f c.in-Ok.ensures (λ i. (c.type_inv.s i).fits) }

pub overflow_add-f : goal.overflow_add-f
overflow_add-f c = record { fits = omega (arith, frame_total c.args.s.now c.in-Ok.f c.in-Ok.ensures (λ i. (c.type_inv.s i).fits)) }

pub pack-requires : goal.pack-requires
pack-requires c = omega (arith, frame_total c.args.s.now c.in-Ok.f c.in-Ok.ensures (λ i. (c.type_inv.s i).fits))

pub returns : goal.returns
returns c =
    let told = seen_whole _ _ _ c.read.ensures _ c.in-Ok.is _ _ _ (omega arith) c.copy.ensures (c.from-2.ensures ∙ c.from.ensures) c.pack.ensures in
    record { value = told.0; id_after = told.1 }
