use mathlib.Core.Path.{◌≡◌, refl}
use Prim.Native.Nat.{◌<◌}
use native.Mathlib.Omega.{arith}
use lib.ListN.{length, length-set}
use Rattle.sha256.specs.Sha.{schedule}
use Rattle.sha256.proofs.Filling.{word_read, words_more}
use borrow.Author.Rules.{rules}
use Rattle.sha256.proofs.words.Goals as goal

pub loop-t-init : goal.loop-t-init
unfolding schedule
loop-t-init c = (search rules, refl)

pub loop-t-preserved : goal.loop-t-preserved
loop-t-preserved c =
    let l = c.loop-t in
    let b = c.args.b.now in
    let n : length b ≡ 64 = search rules in
    let h : l.t < 16 = omega (arith, c.as_chunks.ensures.front_len) in (
      simp length-set (search rules),
      words_more b l.w l.t c.from_be_bytes.result h (omega arith) l.invariant.1 (word_read b _ _ _ l.t _ c.as_chunks.ensures.front (omega arith) (omega arith) c.from_be_bytes.ensures),
    )

pub returns : goal.returns
returns c =
    let l = c.loop-t in
    let n : length c.args.b.now ≡ 64 = search rules in
    let e : l.t ≡ 16 = omega (arith, c.as_chunks.ensures.front_len) in
    (rw e at l.invariant.1, l.invariant.0)
