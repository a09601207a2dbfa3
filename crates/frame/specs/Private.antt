-- What the readers of the fields answer, for the contracts of private functions: nothing here is
-- promised to a caller.
use Rattle.std.specs.Prelude.{ℕ, Result, Ok, Err}
use Rattle.wire.specs.Answer.{refused, Got, got}
use Rattle.wire.specs.Refusal.{number}
use Rattle.wire.specs.declared.Refusal.{Refusal}
use Rattle.frame.specs.Kind.{type_byte}
use Rattle.frame.specs.declared.Kind.{Kind}

-- the type byte with the position past it (R18.5)
abbrev pub kind_told : Result (Kind × ℕ) Refusal → Got ℕ
kind_told (Ok (kind, next)) = got (type_byte kind) next
kind_told (Err e) = refused (number e)
