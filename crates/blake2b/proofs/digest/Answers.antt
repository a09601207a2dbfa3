use Rattle.std.proofs.Common.{◌≡◌, refl, ◌∙◌, arith, rules, length, take, length-take-le}
use Rattle.std.proofs.lemmas.Slice.{overwrites}
use Rattle.blake2b.specs.Blake2b.{bytes}
use Rattle.blake2b.proofs.Output.{bytes_more, bytes_front}
use Rattle.blake2b.proofs.digest.Goals as goal

pub loop-i-init : goal.loop-i-init
unfolding bytes
loop-i-init c = (refl, refl)

pub loop-i-preserved : goal.loop-i-preserved
loop-i-preserved c =
    let l = c.loop-i in
    let lh : length c.args.h ≡ 8 = search rules in
    let lf : length (take 4 c.args.h) ≡ 4 = length-take-le 4 c.args.h (omega arith) in (
      search (rules, overwrites),
      bytes_more l.d _ _ l.i _ (omega arith) (omega arith) l.invariant.1 (c.copy_from_slice.ensures.after ∙ c.to_le_bytes.ensures),
    )

pub returns : goal.returns
returns c =
    let l = c.loop-i in
    let lh : length c.args.h ≡ 8 = search rules in
    let lf : length (take 4 c.args.h) ≡ 4 = length-take-le 4 c.args.h (omega arith) in
    bytes_front c.args.h l.d l.i lh l.invariant.0 (omega arith) l.invariant.1
