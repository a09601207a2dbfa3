-- From the contracts of `scan` in the source to the definitions that the demands cite.
-- Assumes nothing.
use mathlib.Core.Path.{◌≡◌}
use Rattle.wire.specs.Answer.{done}
use Rattle.wire.specs.Writing.{Written}
use Rattle.scan.specs.Session.{fed, closed, reported, at}
use Rattle.scan.proofs.session.feed as scan-session-feed
use Rattle.scan.proofs.session.close as scan-session-close
use Rattle.scan.proofs.session.report as scan-session-report
use Rattle.promises.specs.Calls.{Call}

pub scan_session_feed_link : (k : Call scan-session-feed.Kinds.ps scan-session-feed.Kinds.r scan-session-feed.Reads.Learnt)
    → at k.answer k.left.1.1.0 k.left.1.1.1.0 ≡ fed (at k.args.1.0 k.args.1.1.0.now k.args.1.1.1.0.now) k.args.0.now
scan_session_feed_link k = k.kept

pub scan_session_close_link : (k : Call scan-session-close.Kinds.ps scan-session-close.Kinds.r scan-session-close.Reads.Learnt)
    → at k.answer k.args.1.0.now k.left.1.1.0 ≡ closed (at k.args.0 k.args.1.0.now k.args.1.1.0.now)
scan_session_close_link k = k.kept

pub scan_session_report_link : (k : Call scan-session-report.Kinds.ps scan-session-report.Kinds.r scan-session-report.Reads.Learnt)
    → Written 0 (done (reported k.args.0.phase k.args.1.0.now)) k.args.1.1.0.now k.left.1.1.0 k.answer
scan_session_report_link k = k.kept
