-- `crc::sum` meets its contract. Assumes nothing.
use mathlib.Core.Path.{◌≡◌, refl, ap, ◌∙◌}
use Rattle.wire.specs.Number.{digits, big_endian}
use Rattle.crc.specs.Crc.{crc32}
use Rattle.crc.proofs.Bytes.{four_bytes}
use Rattle.crc.proofs.sum.Goals as goal

-- the four bytes, as one list or one by one
pub returns : goal.returns
unfolding digits
returns c =
    let e : c.to_be_bytes.result ≡ big_endian 4 (crc32 c.args.s.now) = c.to_be_bytes.ensures ∙ four_bytes c.crc32.result ∙ ap (big_endian 4) c.crc32.ensures in
    rw e refl
