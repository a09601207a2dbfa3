-- `cbor::float::shape_of` meets its contract. Assumes nothing.
use mathlib.Core.Path.{refl}
use borrow.Author.Rules.{rules}
use Rattle.cbor.specs.declared.Width.TheVariants.{Half, Single, Double}
use Rattle.cbor.specs.Float.{sign_of, infinity_of, scale_of, least_of, exponent_bits, fraction_bits}
use Rattle.cbor.proofs.Computed.{shape_at}
use Rattle.cbor.proofs.float.shape_of.Goals as goal

pub returns-in-Half : goal.returns-in-Half
unfolding sign_of infinity_of scale_of least_of exponent_bits fraction_bits
returns-in-Half c = shape_at c.args.w Half _ _ _ _ _ (search rules) refl refl refl refl refl

pub returns-in-Single : goal.returns-in-Single
unfolding sign_of infinity_of scale_of least_of exponent_bits fraction_bits
returns-in-Single c = shape_at c.args.w Single _ _ _ _ _ (search rules) refl refl refl refl refl

pub returns-in-Double : goal.returns-in-Double
unfolding sign_of infinity_of scale_of least_of exponent_bits fraction_bits
returns-in-Double c = shape_at c.args.w Double _ _ _ _ _ (search rules) refl refl refl refl refl
