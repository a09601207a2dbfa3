-- The table of R17.1 holds: one statement. Assumes nothing.
use Prim.Native.Nat.{ℕ, ◌+◌}
use mathlib.Core.Path.{◌≡◌, refl, ◌∙◌}
use native.Mathlib.Omega.{arith}
use lib.ListN.{length}
use Rattle.wire.specs.Number.{digits, number_from}
use Rattle.varint.specs.Varint.{varint, sevens, varint_at, varint_from, later_from, ending}
use Rattle.wire.specs.Every.{every}
use Rattle.text.specs.Text.{base64, standard64, zbase32, zooko32, text_of, characters, filling, read_text, values, kept, skipped, place, read_values, leftover}
use Rattle.frame.proofs.Lengths.{layout_length_short}
use Rattle.promises.specs.Examples.{frame_has, Holds, All, table}

-- INDEX and TOTAL take a byte each in every frame that the rules allow
frame_length : (n k : ℕ) → 18 + length (varint n) + n ≡ k → Holds (frame_has n k)
frame_length n k e kind id index total contents a l =
    layout_length_short kind id index total contents a.eight (omega (arith, a.below, a.pages)) (omega (arith, a.pages)) ∙ rw (l, e)

pub examples : All table
unfolding varint sevens varint_at varint_from later_from ending base64 standard64 zbase32 zooko32 text_of characters filling digits number_from read_text values kept skipped place every read_values leftover
examples = (
  (refl, refl),
  (
    (refl, refl),
    (
      (refl, refl),
      (
        (refl, refl),
        (
          refl,
          (
            (refl, refl),
            (
              refl,
              (
                (refl, refl),
                (
                  (refl, refl),
                  (
                    refl,
                    (
                      frame_length 0 19 refl,
                      (
                        frame_length 480 500 refl,
                        tt,
                      ),
                    ),
                  ),
                ),
              ),
            ),
          ),
        ),
      ),
    ),
  ),
)
