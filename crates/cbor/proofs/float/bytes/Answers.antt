-- `cbor::float::bytes` meets its contract. Assumes nothing.
use borrow.Author.Rules.{rules}
use Rattle.cbor.specs.Float.{exponent_bits, fraction_bits}
use Rattle.cbor.proofs.Computed.{bytes_at}
use Rattle.cbor.specs.Form.{bytes_of}
use Rattle.cbor.proofs.float.bytes.Goals as goal

pub returns-in-Half : goal.returns-in-Half
unfolding bytes_of exponent_bits fraction_bits
returns-in-Half c = (search bytes_at, search rules)

pub returns-in-Single : goal.returns-in-Single
unfolding bytes_of exponent_bits fraction_bits
returns-in-Single c = (search bytes_at, search rules)

pub returns-in-Double : goal.returns-in-Double
unfolding bytes_of exponent_bits fraction_bits
returns-in-Double c = (search bytes_at, search rules)
