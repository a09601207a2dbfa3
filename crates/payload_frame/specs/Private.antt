-- What a part of the code answers, for the contract of a private function: nothing here is promised
-- to a caller.
use Rattle.std.specs.Prelude.{◌≡◌, List, ℕ, Result, Ok, Err}
use Rattle.std.specs.Borrow.{Bor}
use Rattle.wire.specs.Answer.{Answer, done, refused}
use Rattle.wire.specs.Refusal.{number}
use Rattle.wire.specs.declared.Refusal.{Refusal}

-- whether a payload was accepted, whatever it says
abbrev pub accepted : {T : Type 0} → Result T Refusal → Answer Unit
accepted (Ok t) = done tt
accepted (Err e) = refused (number e)

-- so answers a call of which this is known, at these contents
abbrev pub Reads : {T : Type 0} → (Bor (List ℕ) → Result T Refusal → Type 0) → List ℕ → Answer Unit → Type 0
Reads {T} post contents g = (s : Bor (List ℕ)) (r : Result T Refusal) → s.now ≡ contents → post s r → accepted r ≡ g
