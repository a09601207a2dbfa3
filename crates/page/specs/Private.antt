-- What a part of the code answers, for the contract of a private function: nothing here is promised
-- to a caller.
use Rattle.std.specs.Prelude.{ℕ, List, Result}
use Rattle.std.specs.Borrow.{Bor, MutBor}
use Rattle.wire.specs.Answer.{done}
use Rattle.wire.specs.Writing.{Written}
use Rattle.wire.specs.declared.Refusal.{Refusal}
use Rattle.text.specs.Text.{Form, text_of}

-- whatever a call's post says, it writes the text of this form
abbrev pub Spells : Form → (Bor (List ℕ) → MutBor (List ℕ) → Result ℕ Refusal → MutBor (List ℕ) → Type 0) → Type 0
Spells f post =
    (src : Bor (List ℕ)) (out : MutBor (List ℕ)) (r : Result ℕ Refusal) (out' : MutBor (List ℕ)) → post src out r out'
    → Written 0 (done (text_of f src.now)) out.now out'.now r
