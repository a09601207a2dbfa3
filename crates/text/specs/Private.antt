-- What the parts of the code answer, for the contracts of private functions: nothing here is
-- promised to a caller.
use Rattle.std.specs.Prelude.{ℕ, Option, Some, None, ◌+◌, ◌-◌, ◌*◌, ◌/◌, ◌%◌, ◌^◌, ◌<◌, ◌≡◌, ◌⊎◌, List, [], ◌∷◌, ltb, leb, eqb, length, get_or}
use Rattle.wire.specs.Answer.{choose}
use Rattle.wire.specs.Number.{digits, number}
use Rattle.wire.specs.Every.{within}
use Rattle.text.specs.Text.{Form, base64, zbase32, skipped, value, values, leftover}
use Rattle.text.specs.declared.read.Seen.{Seen}
use Rattle.text.specs.declared.read.Judged.{Judged}
use Rattle.text.specs.declared.write.Source.{Source}

-- the two widths, and the form of each
abbrev pub Narrow : ℕ → Type 0
Narrow w = (w ≡ 5) ⊎ (w ≡ 6)

unfoldable pub form_of : ℕ → Form
form_of w = choose (eqb w 6) base64 zbase32

-- what a byte is in a text: 255 where it is skipped, 254 where it is not allowed, else its value
unfoldable pub sort : Form → ℕ → ℕ
sort f c = choose (skipped f c) 255 (choose (ltb (value f c) (2 ^ f.width)) (value f c) 254)

abbrev pub Sorted : ℕ → List ℕ → Type 0
Sorted w table = (c : ℕ) → c < 256 → get_or table c 0 ≡ sort (form_of w) c

-- reading: one value more, and one character more
unfoldable pub fed : ℕ → Seen → ℕ → Seen
fed w s v =
    choose (ltb (s.count + w) 8)
    (record { bits = s.bits * 2 ^ w + v; count = s.count + w; made = s.made; byte = None })
    (record { bits = (s.bits * 2 ^ w + v) % 2 ^ (s.count + w - 8); count = s.count + w - 8; made = s.made + 1; byte = Some ((s.bits * 2 ^ w + v) / 2 ^ (s.count + w - 8)) })

unfoldable pub stepped : ℕ → Seen → ℕ → Option Seen
stepped w s c =
    choose (skipped (form_of w) c) (Some (record { bits = s.bits; count = s.count; made = s.made; byte = None }))
    (choose (ltb (value (form_of w) c) (2 ^ w)) (Some (fed w s (value (form_of w) c))) None)

-- the byte that a character made, if it made one
abbrev pub emitted : Option ℕ → List ℕ
emitted (Some b) = b ∷ []
emitted None = []

-- the bytes of a text whose characters are all allowed
unfoldable pub decoded : ℕ → List ℕ → List ℕ
decoded w cs =
    digits 256 (w * length (values (form_of w) cs) / 8) (number (2 ^ w) (values (form_of w) cs) / 2 ^ leftover (form_of w) (length (values (form_of w) cs)))

unfoldable pub judged : ℕ → List ℕ → Option Judged
judged w cs =
    choose (within (2 ^ w) (values (form_of w) cs))
    (Some (record { bits = number (2 ^ w) (values (form_of w) cs) % 2 ^ leftover (form_of w) (length (values (form_of w) cs)); count = leftover (form_of w) (length (values (form_of w) cs)); made = w * length (values (form_of w) cs) / 8 }))
    None

-- writing: one byte more where the bits do not make a character
unfoldable pub refilled : ℕ → List ℕ → Source → Source
refilled w bs s =
    choose (leb w s.count) s (record { bits = s.bits * 2 ^ 8 + get_or bs s.next 0; count = s.count + 8; next = s.next + 1 })
