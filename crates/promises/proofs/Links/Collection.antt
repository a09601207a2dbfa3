-- From the contracts of `collection` in the source to the definitions that the demands cite.
-- Assumes nothing.
use Rattle.wire.specs.Answer.{Kept}
use Rattle.collection.specs.Collection.{opening, offering, joining}
use Rattle.collection.specs.Answer.{told, told_kind}
use Rattle.collection.proofs.open as collection-open
use Rattle.collection.proofs.offer as collection-offer
use Rattle.collection.proofs.join as collection-join
use Rattle.promises.specs.Calls.{Call}

pub collection_open_link : (k : Call collection-open.Kinds.ps collection-open.Kinds.r collection-open.Reads.Learnt)
    → Kept (opening k.args.0.now k.args.1.0.now) k.args.1.0.now k.left.1.0 (told k.answer)
collection_open_link k = k.kept

pub collection_offer_link : (k : Call collection-offer.Kinds.ps collection-offer.Kinds.r collection-offer.Reads.Learnt)
    → Kept (offering k.args.0.now k.args.1.0.now) k.args.0.now k.left.0 (told_kind k.answer)
collection_offer_link k = k.kept

pub collection_join_link : (k : Call collection-join.Kinds.ps collection-join.Kinds.r collection-join.Reads.Learnt)
    → Kept (joining k.args.0.now k.args.1.0.now) k.args.0.now k.left.0 (told k.answer)
collection_join_link k = k.kept
