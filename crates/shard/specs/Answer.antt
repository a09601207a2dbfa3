-- What `read` answers: the cases of its `Result` as a number and values.
use Rattle.std.specs.Prelude.{Result, Ok, Err}
use Rattle.wire.specs.Answer.{refused, Got, got}
use Rattle.wire.specs.Refusal.{number}
use Rattle.wire.specs.declared.Refusal.{Refusal}
use Rattle.shard.specs.Shard.{Shard}
use Rattle.shard.specs.declared.Shard as declared

-- the shard and the position past it, or the number of a refusal (R18.5)
abbrev pub shard_told : Result declared.Shard Refusal → Got Shard
shard_told (Ok r) =
    got (record { claim = record { public = r.public; sig = r.sig; hash = r.hash }; content = r.content; quorum = r.quorum }) r.next
shard_told (Err e) = refused (number e)
