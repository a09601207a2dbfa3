use native.Mathlib.Omega.{arith}
use Rattle.book.proofs.Pages.{blank_none, blank_id, blank_short, blank_on, blank_end}
use Rattle.book.proofs.blank.Goals as goal

pub returns-then-id-ne-ID_SIZE : goal.returns-then-id-ne-ID_SIZE
returns-then-id-ne-ID_SIZE c = search blank_id

pub returns-then-c-lt-COLLECTION_SIZE : goal.returns-then-c-lt-COLLECTION_SIZE
returns-then-c-lt-COLLECTION_SIZE c = search blank_short

pub loop-i-init : goal.loop-i-init
loop-i-init c = blank_none _ _

pub loop-i-preserved : goal.loop-i-preserved
loop-i-preserved c =
    let l = c.loop-i in
    let a = c.args in
    blank_on a.id.now a.c.now (omega arith) l.i c.place.result l.c _ (omega arith) (omega arith) c.place.ensures l.invariant c.vacate.ensures

pub returns : goal.returns
returns c = search blank_end
