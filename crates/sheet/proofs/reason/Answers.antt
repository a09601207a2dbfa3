-- `sheet::reason` meets its contract. Assumes nothing.
use mathlib.Core.Path.{◌≡◌, sym, ◌∙◌}
use Rattle.sheet.proofs.Refusals.{empty_told, large_told, place_told, other_told}
use Rattle.sheet.proofs.reason.Goals as goal

pub returns-then-no-from : goal.returns-then-no-from
returns-then-no-from c =
    let a = c.if-no-from.true ∙ c.from.ensures in
    search empty_told

pub returns-then-no-from-2 : goal.returns-then-no-from-2
returns-then-no-from-2 c =
    let a : c.args.no ≡ 19 → ⊥ = λ e. c.if-no-from.false (e ∙ sym c.from.ensures) in
    let b = c.if-no-from-2.true ∙ c.from-2.ensures in
    search large_told

pub returns-then-no-from-3 : goal.returns-then-no-from-3
returns-then-no-from-3 c =
    let a : c.args.no ≡ 19 → ⊥ = λ e. c.if-no-from.false (e ∙ sym c.from.ensures) in
    let b : c.args.no ≡ 9 → ⊥ = λ e. c.if-no-from-2.false (e ∙ sym c.from-2.ensures) in
    let d = c.if-no-from-3.true ∙ c.from-3.ensures in
    search place_told

pub returns : goal.returns
returns c =
    let a : c.args.no ≡ 19 → ⊥ = λ e. c.if-no-from.false (e ∙ sym c.from.ensures) in
    let b : c.args.no ≡ 9 → ⊥ = λ e. c.if-no-from-2.false (e ∙ sym c.from-2.ensures) in
    let d : c.args.no ≡ 8 → ⊥ = λ e. c.if-no-from-3.false (e ∙ sym c.from-3.ensures) in
    search other_told
