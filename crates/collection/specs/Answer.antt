-- What open, offer and join answer, as the number of R2.2 and the values.
use Rattle.std.specs.Prelude.{ℕ, Result, Ok, Err}
use Rattle.wire.specs.Answer.{Answer, done, refused}
pub use Rattle.wire.specs.Reading.{told}
use Rattle.wire.specs.Refusal.{number}
use Rattle.wire.specs.declared.Refusal.{Refusal}
use Rattle.collection.specs.declared.Stands.{Stands}
use Rattle.collection.specs.declared.Stands.TheVariants as stands

-- page held, page disputed, totals disagree (R9.5)
abbrev pub stands_number : Stands → ℕ
stands_number stands.Held = 1
stands_number stands.Disputed = 2
stands_number stands.Disagree = 3

-- offer: 1, 2 or 3 where it is done, or the number of a refusal (R18.5)
abbrev pub told_kind : Result Stands Refusal → Answer ℕ
told_kind (Ok s) = done (stands_number s)
told_kind (Err e) = refused (number e)
