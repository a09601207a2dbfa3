-- `typing::scan` meets its contract. Assumes nothing.
use mathlib.Core.Path.{sym}
use lib.Seq.{length-take-le}
use Rattle.typing.proofs.Pages.{read_room, scan_refused, scan_done, part_short}
use Rattle.typing.proofs.scan.Goals as goal

pub returns-in_err-len : goal.returns-in_err-len
returns-in_err-len c = scan_refused _ _ _ c.read.ensures _ c.in_err-len.was _ _ c.from_residual.ensures

pub slice_bounds-bytes-end : goal.slice_bounds-bytes-end
slice_bounds-bytes-end c = read_room _ _ _ c.read.ensures _ c.in_ok-len.was c.read.auto.out

pub slice_bounds-framed-end : goal.slice_bounds-framed-end
slice_bounds-framed-end c = sym (length-take-le c.in_ok-len.len c.read.new.out (read_room _ _ _ c.read.ensures _ c.in_ok-len.was c.read.auto.out))

pub framed-requires : goal.framed-requires
framed-requires c = part_short _ _ _ c.read.ensures _ c.in_ok-len.was

pub returns : goal.returns
returns c = scan_done _ _ _ c.read.ensures _ c.in_ok-len.was _ _ _ c.framed.ensures
