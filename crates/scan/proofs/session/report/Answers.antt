-- `report` meets its contract. Assumes nothing.
use Rattle.scan.proofs.Sessions.{report_status, report_refused}
use Rattle.scan.proofs.session.report.Goals as goal

pub returns-then-s-eq-COLLECTING : goal.returns-then-s-eq-COLLECTING
returns-then-s-eq-COLLECTING c = search report_status

pub returns : goal.returns
returns c = search report_refused
