-- What the loop over a number's bits, and the product's two halves of it, come to, from what the
-- calls ensure. Assumes nothing.
use mathlib.Core.Path.{◌≡◌, sym, ap, ap₂, ◌∙◌}
use mathlib.Core.List.{List}
use Prim.Native.Nat.{ℕ, ◌+◌, ◌*◌, ◌/◌, ◌%◌, ◌^◌, ◌<◌}
use Rattle.field.specs.Field.{plus, times_x, pick, times, product}
use Rattle.field.specs.Element.{joined, halves}
use Rattle.field.proofs.Polynomials.{power, power_more, times_more}
use Rattle.field.proofs.Products.{product_halves}
use Rattle.field.proofs.Elements.{joined_halves}

-- one turn
module _ (k w a : ℕ) (b : List ℕ) (eb : joined b ≡ power k a) where
  pub turn_sum : (r p s : List ℕ) → r ≡ halves (times k w a) → joined p ≡ pick (w / 2 ^ k % 2) (joined b) → s ≡ halves (plus (joined r) (joined p))
      → s ≡ halves (times (k + 1) w a)
  turn_sum r p s er ep es =
      let sum : joined r ≡ times k w a = ap joined er ∙ joined_halves (times k w a) in
      es ∙ ap halves (ap₂ plus sum (ep ∙ ap (pick (w / 2 ^ k % 2)) eb) ∙ sym (times_more k w a))

  pub turn_next : (d : List ℕ) → d ≡ halves (times_x (joined b)) → joined d ≡ power (k + 1) a
  turn_next d ed = ap joined ed ∙ joined_halves (times_x (joined b)) ∙ ap times_x eb ∙ sym (power_more k a)

-- the halves of the second factor, one after the other
pub product_turns : (a h l : ℕ) (s far t r : List ℕ) → l < 2 ^ 64
    → s ≡ halves (times 64 l a) → joined far ≡ power 64 a → t ≡ halves (times 64 h (joined far)) → r ≡ halves (plus (joined s) (joined t))
    → r ≡ halves (product a (h * 2 ^ 64 + l))
product_turns a h l s far t r g es ef et er =
    let low_half : joined s ≡ times 64 l a = ap joined es ∙ joined_halves (times 64 l a) in
    let high_half : joined t ≡ times 64 h (power 64 a) = ap joined et ∙ joined_halves (times 64 h (joined far)) ∙ ap (times 64 h) ef in
    er ∙ ap halves (ap₂ plus low_half high_half ∙ product_halves a h l g)
