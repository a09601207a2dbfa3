-- What `claim` and `read` answer: the cases of their `Result` as a number and values.
use Rattle.std.specs.Prelude.{Result, Ok, Err}
use Rattle.wire.specs.Answer.{refused, Got, got}
use Rattle.wire.specs.Refusal.{number}
use Rattle.wire.specs.declared.Refusal.{Refusal}
use Rattle.auth.specs.Auth.{Claim}
use Rattle.auth.specs.declared.Claimed as declared

-- the claim and the position past it, or the number of a refusal (R18.5)
abbrev pub claim_told : Result declared.Claimed Refusal → Got Claim
claim_told (Ok c) = got (record { public = c.public; sig = c.sig; hash = c.hash }) c.next
claim_told (Err e) = refused (number e)
