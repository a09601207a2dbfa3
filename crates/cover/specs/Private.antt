-- What a part of the code answers, for the contract of a private function: nothing here is promised
-- to a caller.
use Rattle.std.specs.Prelude.{◌+◌, Result, Ok, Err}
use Rattle.wire.specs.Answer.{refused, Got, got}
use Rattle.wire.specs.Refusal.{number}
use Rattle.wire.specs.declared.Refusal.{Refusal}
use Rattle.wire.specs.declared.Span.{Span}

-- where the bytes of a length stand, and the position past them
abbrev pub chunk_told : Result Span Refusal → Got Span
chunk_told (Ok span) = got span (span.start + span.len)
chunk_told (Err e) = refused (number e)
