-- From the contracts of `notes` in the source to the definitions that the demands cite.
-- Assumes nothing.
use mathlib.Core.Path.{◌≡◌}
use Rattle.scan.specs.Session.{fed, closed, at}
use Rattle.notes.proofs.feed as notes-feed
use Rattle.notes.proofs.close as notes-close
use Rattle.promises.specs.Calls.{Call}

pub notes_feed_link : (k : Call notes-feed.Kinds.ps notes-feed.Kinds.r notes-feed.Reads.Learnt)
    → at k.answer k.left.1.1.0 k.left.1.1.1.0 ≡ fed (at k.args.1.0 k.args.1.1.0.now k.args.1.1.1.0.now) k.args.0.now
notes_feed_link k = k.kept.0

pub notes_close_link : (k : Call notes-close.Kinds.ps notes-close.Kinds.r notes-close.Reads.Learnt)
    → at k.answer k.args.1.0.now k.left.1.1.0 ≡ closed (at k.args.0 k.args.1.0.now k.args.1.1.0.now)
notes_close_link k = k.kept.0
