-- Taking up and giving out, for each way through the code. Assumes nothing.
use mathlib.Core.Path.{◌≡◌, refl}
use mathlib.Core.List.{List}
use Prim.Native.Nat.{ℕ}
use borrow.Author.Tests.{eq-eqb, ne_eqb}
use Rattle.wire.specs.Answer.{Answer, refused, Kept}
use Rattle.collection.specs.Collection.{joining}
use Rattle.finish.specs.Finish.{finished, Closed}
use Rattle.std.specs.Prelude.{Result, Err}
use Rattle.wire.specs.Refusal.{Placeless}
use Rattle.wire.specs.declared.Refusal.TheVariants.{OutOfRange}
use Rattle.wire.specs.declared.RefusedAt.{RefusedAt}
use Rattle.pantry_work.specs.Steps.{resuming, answered}

-- ---- taking up

module _ (phase : ℕ) (c saved : List ℕ) where
  pub resume_refused : (phase ≡ 1 → ⊥) → Kept (resuming phase c saved) c c (refused 19)
  unfolding resuming
  resume_refused h = rw (ne_eqb phase 1 h) (record { answer = refl; bytes = refl })

  pub resume_joined : (x : List ℕ) (a : Answer Unit) → phase ≡ 1 → Kept (joining c saved) c x a → Kept (resuming phase c saved) c x a
  unfolding resuming
  resume_joined x a h k = rw (eq-eqb phase 1 h) k

-- ---- giving out

module _ (phase : ℕ) (c out : List ℕ) where
  pub answer_refused : (phase ≡ 1 → ⊥) → (e : RefusedAt) → Placeless OutOfRange e → Closed (answered phase c out) out out (Err e)
  unfolding answered
  answer_refused h e (w, p) = rw (ne_eqb phase 1 h, w, p) (record { answer = refl; bytes = refl })

  pub answer_finished : (x : List ℕ) (r : Result ℕ RefusedAt) → phase ≡ 1 → Closed (finished c out) out x r → Closed (answered phase c out) out x r
  unfolding answered
  answer_finished x r h k = rw (eq-eqb phase 1 h) k
