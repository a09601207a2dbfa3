-- What the parts of the code answer, for the contracts of private functions: nothing here is
-- promised to a caller.
use Rattle.std.specs.Prelude.{ℕ, Result, Ok, Err, suc, true, false, List, ◌++◌, eqb}
use Rattle.wire.specs.Answer.{choose, Answer, done, then}
use Rattle.digits.specs.Decimal.{line_feed}
use Rattle.text.specs.Text.{base64, text_of}
use Rattle.typed.specs.Typed.{most_lines, feed, skipped, count_right}
use Rattle.frame.specs.Frame.{frame_of}
use Rattle.typing.specs.declared.Fault.{Fault}
use Rattle.typing.specs.declared.Fault.TheVariants.{Count, Surplus, Whole}
use Rattle.typing.specs.declared.faults.At.{At}

-- the scan of bytes that are a frame
unfoldable pub framed : List ℕ → Answer (List ℕ)
framed bs = then (frame_of bs) (λ _. done (text_of base64 bs ++ line_feed))

-- one character more: a line that ends has the right count, and is not the 20th
unfoldable pub stepped : At → ℕ → Result At Fault
stepped a c =
    choose (eqb c feed)
    (choose (count_right false a.count)
    (choose (eqb a.n most_lines) (Err Surplus) (Ok (record { n = suc a.n; count = 0 })))
    (Err (Count a.n a.count false)))
    (choose (skipped c) (Ok a) (Ok (record { n = a.n; count = suc a.count })))

-- the last line's count; where it is right too, all counts are
unfoldable pub ended : At → Fault
ended a = choose (count_right true a.count) (Whole 2) (Count a.n a.count true)
