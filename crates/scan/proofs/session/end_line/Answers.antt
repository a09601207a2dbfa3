-- `end_line` meets its contract. Assumes nothing.
use Rattle.scan.proofs.Sessions.{end_first, end_scan, end_over}
use Rattle.scan.proofs.session.end_line.Goals as goal

pub returns-then-phase-eq-WAITING : goal.returns-then-phase-eq-WAITING
returns-then-phase-eq-WAITING c = search end_first

pub returns-then-phase-eq-COLLECTING : goal.returns-then-phase-eq-COLLECTING
returns-then-phase-eq-COLLECTING c = search end_scan

pub returns-else-phase-eq-COLLECTING : goal.returns-else-phase-eq-COLLECTING
returns-else-phase-eq-COLLECTING c = search end_over
