-- `typed::lines::gather` meets its contract. Assumes nothing.
use borrow.Author.Rules.{rules}
use native.Mathlib.Omega.{arith}
use Rattle.typed.proofs.Judging.{placed}
use Rattle.typed.proofs.Steps.{gather_stopped, goes_on, gather_stop, gather_short, gather_wrong, gather_all}
use Rattle.typed.proofs.lines.gather.Goals as goal

pub returns-in_err-typing : goal.returns-in_err-typing
returns-in_err-typing c = gather_stopped _ _ c.from_residual.ensures _ _ (gather_stop _ _ _ _ c.run.ensures.0 _ c.in_err-typing.was)

pub returns-then-typing-lt3 : goal.returns-then-typing-lt3
returns-then-typing-lt3 c =
    (placed _ _ c.from.ensures _ (gather_short _ _ _ _ c.run.ensures.0 c.in_ok-typing.typing c.in_ok-typing.was (goes_on _ _ c.run.ensures.1 c.in_ok-typing.was) (search rules) c.if-typing-lt3.true), tt)

pub close-end-requires : goal.close-end-requires
close-end-requires c =
    (goes_on _ _ c.run.ensures.1 c.in_ok-typing.was, omega arith, search rules, search rules)

pub returns-in-Some : goal.returns-in-Some
returns-in-Some c =
    (gather_wrong _ _ _ _ c.run.ensures.0 c.in_ok-typing.typing c.in_ok-typing.was (goes_on _ _ c.run.ensures.1 c.in_ok-typing.was) (search rules) _ _ c.close-end.ensures.0 c.if-typing-lt3.false _ c.in-Some.is, tt)

pub returns-in-None : goal.returns-in-None
returns-in-None c =
    let f = goes_on _ _ c.run.ensures.1 c.in_ok-typing.was in
    (gather_all _ _ _ _ c.run.ensures.0 c.in_ok-typing.typing c.in_ok-typing.was (goes_on _ _ c.run.ensures.1 c.in_ok-typing.was) (search rules) _ _ c.close-end.ensures.0 c.if-typing-lt3.false c.in-None.is, omega (arith, c.close-end.ensures.3, f.made, f.last, f.short))
