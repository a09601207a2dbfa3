-- What a call answers: the cases of its `Result` as a number and a value (R18.5).
use Rattle.std.specs.Prelude.{ℕ, Result, Ok, Err}
use Rattle.wire.specs.Answer.{Answer, done, refused, refused_at, Got, got}
use Rattle.wire.specs.Refusal.{number}
use Rattle.wire.specs.declared.Refusal.{Refusal}
use Rattle.wire.specs.declared.RefusedAt.{RefusedAt}

-- the value, or the number of a refusal
abbrev pub told : {A : Type 0} → Result A Refusal → Answer A
told (Ok a) = done a
told (Err e) = refused (number e)

-- the same of a reader whose caller names its own error, by the numbers of that
abbrev pub told_by : {A E : Type 0} → (E → ℕ) → Result A E → Answer A
told_by n (Ok a) = done a
told_by n (Err e) = refused (n e)

-- the same where a refusal can have a place (R2.3)
abbrev pub told_at : {A : Type 0} → Result A RefusedAt → Answer A
told_at (Ok a) = done a
told_at (Err e) = refused_at (number e.why) e.place

-- the position past one thing, or the number of a refusal
abbrev pub step_told : Result ℕ Refusal → Got Unit
step_told (Ok next) = got tt next
step_told (Err e) = refused (number e)
