-- What `read` answers: the cases of its `Result` as a number and values.
use Rattle.std.specs.Prelude.{◌+◌, Result, Ok, Err}
use Rattle.wire.specs.Answer.{refused, Got, got}
use Rattle.wire.specs.Refusal.{number}
use Rattle.wire.specs.declared.Refusal.{Refusal}
use Rattle.cover.specs.Cover.{Cover}

-- the two parts and the position past the payload, or the number of a refusal (R18.5)
abbrev pub told : Result Cover Refusal → Got Cover
told (Ok c) = got c (c.payload.start + c.payload.len)
told (Err e) = refused (number e)
