-- `slips::reading::bytes` meets its contract. Assumes nothing.
use Rattle.slips.proofs.Seeing.{typed_text, scan_text, scan_no_text}
use Rattle.slips.proofs.reading.bytes.Goals as goal

pub returns-then-typed : goal.returns-then-typed
returns-then-typed c = search typed_text

pub returns-in_err-base64_read : goal.returns-in_err-base64_read
returns-in_err-base64_read c =
    scan_no_text _ _ _ _ c.if-typed.false _ c.base64_read.ensures _ c.in_err-base64_read.was _ c.from_residual.ensures

pub returns : goal.returns
returns c = scan_text _ _ _ _ c.if-typed.false _ c.base64_read.ensures _ c.in_ok-base64_read.was
