-- What it is that a contract leaves one answer (R1.7), said once for every public function. Of a
-- function the toolchain makes `Kinds.ps` and `Kinds.r`, its parameters and its result, and
-- `Reads.Learnt`, its contract: the claims of the `ensures` clauses in its source, as a caller has
-- them.
use Rattle.std.specs.Prelude.{ℕ, ◌≡◌, List}
use contract.Lifetimes.{Lfts}
use denote.Triple.Clauses.{Lasts, at_exit}
use borrow.Fn.Kinds.{ParamKind, ResultKind, Out, Dens, res_t, ended_of}

-- Whatever the arguments, of two answers x and y, which leave u and v in the lent buffers, and of
-- which the contract holds: through `see` they look the same, and every byte that they leave is the
-- same (R1.7).
abbrev pub OnceSeen : {n : ℕ} (ps : List (ParamKind n)) (r : ResultKind n) {A : Lfts n → Type 0} → ((κs : Lfts n) → (res_t r κs).Denot → A κs) → Out n ps r → Type 0
OnceSeen {n} ps r see contract =
    (κs : Lfts n) (args : Dens κs ps) (x y : (res_t r κs).Denot) (u v : Lasts (ended_of n ps r) κs args)
    → contract κs args x (at_exit (ended_of n ps r) κs args u)
    → contract κs args y (at_exit (ended_of n ps r) κs args v)
    → (see κs x ≡ see κs y) × (u ≡ v)

-- the answers themselves are equal (R1.7)
abbrev pub Once : {n : ℕ} (ps : List (ParamKind n)) (r : ResultKind n) → Out n ps r → Type 0
Once ps r contract = OnceSeen ps r (λ κs x. x) contract
