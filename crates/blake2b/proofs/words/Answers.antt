use Rattle.std.proofs.Common.{◌≡◌, ◌+◌, ◌*◌, ◌<◌, length, refl, arith, length-set, rules}
use Rattle.blake2b.specs.Blake2b.{vector, word_at, words}
use Rattle.blake2b.proofs.Reading.{word_read}
use Rattle.blake2b.proofs.Vector.{vector_more, vector_whole}
use Rattle.blake2b.proofs.words.Goals as goal

pub loop-i-init : goal.loop-i-init
unfolding vector
loop-i-init c = (refl, refl)

pub loop-i-preserved : goal.loop-i-preserved
loop-i-preserved c =
    let l = c.loop-i in
    let b = c.args.b.now in
    let n : length b ≡ 128 = search rules in
    let h : l.i < 16 = omega (arith, c.as_chunks.ensures.front_len) in (
      simp length-set (search rules),
      vector_more (λ j. word_at b (0 + j * 8)) l.m l.i _ (omega arith) l.invariant.1
          (word_read b _ _ _ l.i _ c.as_chunks.ensures.front (omega arith) (omega arith) c.from_le_bytes.ensures),
    )

pub returns : goal.returns
unfolding words
returns c =
    let l = c.loop-i in
    let b = c.args.b.now in
    let n : length b ≡ 128 = search rules in
    vector_whole (λ j. word_at b (0 + j * 8)) l.m 16 l.i l.invariant.0 (omega (arith, c.as_chunks.ensures.front_len)) l.invariant.1
