-- `blake2b::begin` meets its contract. An offset below 2^64 has no high word. Assumes nothing.
use Rattle.std.proofs.Common.{refl, sym, ap, ◌∙◌, rules}
use Rattle.blake2b.specs.Blake2b.{iv, begin}
use Rattle.blake2b.proofs.Mixing.{halves, begun}
use Rattle.blake2b.proofs.begin.Goals as goal

pub returns-then-last : goal.returns-then-last
unfolding iv
returns-then-last c =
    let h = c.args.h in
    let e = halves h iv _ _ (search rules) refl c.copy_from_slice.ensures.after c.copy_from_slice-2.ensures.after in
    (begun h _ c.args.t (search rules) e).1 ∙ ap (begin h c.args.t) (sym c.if-last.true)

pub returns-else-last : goal.returns-else-last
unfolding iv
returns-else-last c =
    let h = c.args.h in
    let e = halves h iv _ _ (search rules) refl c.copy_from_slice.ensures.after c.copy_from_slice-2.ensures.after in
    (begun h _ c.args.t (search rules) e).0 ∙ ap (begin h c.args.t) (sym c.if-last.false)
