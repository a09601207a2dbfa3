-- `typing::lay::words` meets its contract. Assumes nothing.
use Rattle.typing.proofs.Laying.{good_told, nothing_told, letter_told, count_told, surplus_told, mistyped_told, whole_told}
use Rattle.typing.proofs.lay.words.Goals as goal

pub returns-in-Good : goal.returns-in-Good
returns-in-Good c = search good_told

pub returns-in-Nothing : goal.returns-in-Nothing
returns-in-Nothing c = search nothing_told

pub returns-in-Letter : goal.returns-in-Letter
returns-in-Letter c = search letter_told

pub returns-in-Count : goal.returns-in-Count
returns-in-Count c = count_told _ _ _ _ _ _ _ c.in-Count.is (rw c.from.ensures at c.count.ensures)

pub returns-in-Surplus : goal.returns-in-Surplus
returns-in-Surplus c = search surplus_told

pub returns-in-Mistyped : goal.returns-in-Mistyped
returns-in-Mistyped c = mistyped_told _ _ _ _ _ c.in-Mistyped.is (rw c.from-in-Mistyped.ensures at c.of_line-in-Mistyped.ensures)

pub returns-in-Whole : goal.returns-in-Whole
returns-in-Whole c = search whole_told
