-- The answer is that of the bytes that are left: `lend`'s laws of `same`, at a list of one repeated
-- byte. Assumes nothing.
use Rattle.std.proofs.Common.{arith, ◌≡◌, ◌∙◌, refl, sym, true, false, List, ℕ, ◌+◌, ◌≤◌, ◌<◌, length, drop, get_or, replicate}
use lib.ListN.{length-replicate, get_or-replicate}
use Rattle.lend.specs.Same.{same}
use Rattle.lend.proofs.Sames.{same_step, same_stop, same_end}
use Rattle.desk.proofs.reply.is_untouched.Goals as goal

abbrev fresh : List ℕ → List ℕ
fresh s = replicate (length s) 0xA5

abbrev Left : List ℕ → ℕ → ℕ → Type 0
Left s i j = same (drop i s) (drop i (fresh s)) ≡ same (drop j s) (drop j (fresh s))

module _ (s : List ℕ) (i : ℕ) (h : i < length s) where
  long : i < length (fresh s)
  long = rw length-replicate h

  at-fresh : get_or (fresh s) i 0 ≡ 0xA5
  at-fresh = get_or-replicate (length s) i 0xA5 0 h

  untouched-step : get_or s i 0 ≡ 0xA5 → Left s i (i + 1)
  untouched-step e = same_step s (fresh s) i h long (e ∙ sym at-fresh)

  touched-stop : (get_or s i 0 ≡ 0xA5 → ⊥) → same (drop i s) (drop i (fresh s)) ≡ false
  touched-stop ne = same_stop s (fresh s) i h long (λ e. ne (e ∙ at-fresh))

untouched-end : (s : List ℕ) (i : ℕ) → length s ≤ i → same (drop i s) (drop i (fresh s)) ≡ true
untouched-end s i h = same_end s (fresh s) i h (rw length-replicate h)

pub loop-b-init : goal.loop-b-init
loop-b-init c = refl

pub returns-then-b : goal.returns-then-b
returns-then-b c =
    let l = c.loop-b in
    sym (l.invariant ∙ touched-stop c.args.s.now l.b-index c.loop-b-test.true c.if-b.true)

pub loop-b-preserved : goal.loop-b-preserved
loop-b-preserved c =
    let l = c.loop-b in
    l.invariant ∙ untouched-step c.args.s.now l.b-index c.loop-b-test.true c.if-b.false

pub returns : goal.returns
returns c =
    let l = c.loop-b in
    sym (l.invariant ∙ untouched-end c.args.s.now l.b-index c.loop-b-test.false)
