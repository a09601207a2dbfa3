-- What `read` answers: the cases of its `Result` as a number and values.
use Rattle.std.specs.Prelude.{◌+◌, Result, Ok, Err}
use Rattle.wire.specs.Answer.{refused, Got, got}
use Rattle.wire.specs.Refusal.{number}
use Rattle.wire.specs.declared.Refusal.{Refusal}
use Rattle.frame.specs.Frame as F
use Rattle.frame.specs.Kind.{type_byte}
use Rattle.frame.specs.declared.Frame.{Frame}

-- the frame that was read, its type as the byte
abbrev pub seen : Frame → F.Frame
seen f = record { kind = type_byte f.kind; index = f.index; total = f.total; at = f.at }

-- a frame and the position past its CRC, or the number of a refusal (R18.5)
abbrev pub told : Result Frame Refusal → Got F.Frame
told (Ok f) = got (seen f) (f.at.start + f.at.len + 4)
told (Err e) = refused (number e)
