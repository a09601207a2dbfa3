-- A call of a public function, as section 1 of docs/RULES.md speaks of it: what was passed, what
-- came back, what stands in the lent buffers afterwards, and that the function's contract holds of
-- these. The contract is the one in the source: of a function the toolchain makes `Kinds.ps` and
-- `Kinds.r`, its parameters and its result, and `Reads.Learnt`, the claims of its `ensures`
-- clauses, as a caller has them.
use Rattle.std.specs.Prelude.{ℕ, List}
use contract.Lifetimes.{Lfts}
use denote.Triple.Clauses.{Lasts, at_exit}
use borrow.Fn.Kinds.{ParamKind, ResultKind, Out, Dens, res_t, ended_of}

-- the arguments are any that the parameters' types have: no call asks for more (R1.1)
pub record Call {n : ℕ} (ps : List (ParamKind n)) (r : ResultKind n) (contract : Out n ps r) : Type 0 where
  -- of the slices that were lent: no rule looks at them
  pub lifetimes : Lfts n
  -- one for each parameter, in order; of a slice `p`, `now p` is its bytes when the call began
  pub args : Dens lifetimes ps
  pub answer : (res_t r lifetimes).Denot
  -- one for each parameter too: of a `&mut` slice its bytes when the call ended
  pub left : Lasts (ended_of n ps r) lifetimes args
  -- the answer and what is left in the buffers are those that the function's rules give (R1.2)
  pub kept : contract lifetimes args answer (at_exit (ended_of n ps r) lifetimes args left)
