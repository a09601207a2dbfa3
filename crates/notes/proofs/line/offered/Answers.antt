-- `notes::line::offered` meets its contract. Assumes nothing.
use Rattle.notes.proofs.Offers.{offered_size, offered_seen, offered_refused}
use Prim.Native.Nat.{ℕ}
use lib.ListN.{length-replicate}
use Rattle.notes.proofs.line.offered.Goals as goal

pub returns-then-c-ne-COLLECTION_SIZE : goal.returns-then-c-ne-COLLECTION_SIZE
returns-then-c-ne-COLLECTION_SIZE c = search offered_size

pub returns-in-Ok : goal.returns-in-Ok
returns-in-Ok c =
    offered_seen _ _ _ _ _ c.if-c-ne-COLLECTION_SIZE.false (length-replicate {A = ℕ} 49664 0) c.copy.ensures _ c.offer.ensures _ _ c.in-Ok.is c.seen.ensures

pub returns-in-Err : goal.returns-in-Err
returns-in-Err c =
    offered_refused _ _ _ _ _ c.if-c-ne-COLLECTION_SIZE.false (length-replicate {A = ℕ} 49664 0) c.copy.ensures _ c.offer.ensures _ _ c.in-Err.is c.refused.ensures
