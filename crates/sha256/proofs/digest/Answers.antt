use mathlib.Core.Path.{◌≡◌, refl, sym, ◌∙◌}
use native.Mathlib.Omega.{arith}
use Rattle.std.proofs.Common.{rules}
use Rattle.std.proofs.lemmas.Slice.{overwrites}
use lib.Seq.{take_all}
use Rattle.sha256.specs.Sha.{joined, listed}
use Rattle.sha256.proofs.Joined.{joined_more}
use Rattle.sha256.proofs.digest.Goals as goal

pub loop-i-init : goal.loop-i-init
unfolding joined
loop-i-init c = (refl, refl)

pub loop-i-preserved : goal.loop-i-preserved
unfolding listed
loop-i-preserved c =
    let l = c.loop-i in (
      search (rules, overwrites),
      joined_more l.d (listed c.args.s) _ l.i _ (omega arith) (omega arith) l.invariant.1 (c.copy_from_slice.ensures.after ∙ c.to_be_bytes.ensures),
    )

pub returns : goal.returns
unfolding listed
returns c =
    let l = c.loop-i in
    let e : l.i ≡ 8 = omega arith in
    sym (take_all 32 l.d (omega arith)) ∙ rw e at l.invariant.1
