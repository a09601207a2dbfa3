-- What a call answers: section 2 of docs/RULES.md.
use Rattle.std.specs.Prelude.{ℕ, ◌≡◌, Bool, true, false, List}

-- the first where the test holds, else the second
abbrev pub choose : {A : Type 0} → Bool → A → A → A
choose true a b = a
choose false a b = b

-- done with a value, or refused with a number and a place (R2.1)
pub data Answer (A : Type 0) : Type 0 where
  done : A → Answer A
  refused_at : ℕ → ℕ → Answer A

-- the place is 0 for every refusal but 15, 16, 21 and 23 (R2.3)
abbrev pub refused : {A : Type 0} → ℕ → Answer A
refused e = refused_at e 0

-- the number of the answer (R2.2), which is 0 where the call is done (R2.1)
abbrev pub number_of : {A : Type 0} → Answer A → ℕ
number_of (done a) = 0
number_of (refused_at e place) = e

-- For the reader: its place (R2.3)
abbrev pub place_of : {A : Type 0} → Answer A → ℕ
place_of (done a) = 0
place_of (refused_at e place) = place

-- one thing after another: the first refusal decides (R2.1). In the code this is a `?`, or a
-- `let .. else` (R18.4)
abbrev pub then : {A B : Type 0} → Answer A → (A → Answer B) → Answer B
then (done a) f = f a
then (refused_at e place) f = refused_at e place

-- a rule, the number and the place of the refusal where it is broken, and what comes behind it
abbrev pub demand_at : {A : Type 0} → (holds : Bool) (e place : ℕ) → Answer A → Answer A
demand_at holds e place a = choose holds a (refused_at e place)

abbrev pub demand : {A : Type 0} → Bool → ℕ → Answer A → Answer A
demand holds e a = demand_at holds e 0 a

-- ---- a call that reads answers a value and the position past its last byte

abbrev pub Got : Type 0 → Type 0
Got A = Answer (A × ℕ)

abbrev pub got : {A : Type 0} → A → ℕ → Got A
got a next = done (a, next)

-- the value without the position; what a reader refuses has no place
abbrev pub value_of : {A : Type 0} → Got A → Answer A
value_of (done (a, next)) = done a
value_of (refused_at e place) = refused e

-- ---- a call that changes a lent buffer decides all the bytes that it leaves there, and a value

abbrev pub Change : Type 0 → Type 0
Change A = Answer (List ℕ × A)

abbrev pub leaves : {A : Type 0} → List ℕ → A → Change A
leaves bytes a = done (bytes, a)

-- every byte of the buffer l after the call: a refusal changes none (R1.2)
abbrev pub bytes_after : {A : Type 0} → List ℕ → Change A → List ℕ
bytes_after l (done (bytes, a)) = bytes
bytes_after l (refused_at e place) = l

-- the answer of the call: the value alone
abbrev pub answer_of : {A : Type 0} → Change A → Answer A
answer_of d = then d (λ (bytes, a). done a)

-- the whole promise of such a call (R1.2): its answer a, and every byte of what was lent, which was
-- l and is now l'
pub record Kept {A : Type 0} (d : Change A) (l l' : List ℕ) (a : Answer A) : Type 0 where
  pub answer : a ≡ answer_of d
  pub bytes : l' ≡ bytes_after l d
