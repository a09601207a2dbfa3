-- The examples that are proved, as one table: R17.1.
use Rattle.std.specs.Prelude.{ℕ, ◌≡◌, List, [], ◌∷◌, length}
use Rattle.wire.specs.Answer.{done, refused, got}
use Rattle.varint.specs.Varint.{varint, varint_at}
use Rattle.text.specs.Text.{Form, base64, zbase32, read_text, text_of}
use Rattle.frame.specs.Layout.{layout}
use Rattle.frame.specs.Allowed.{Allowed}

pub data Example : Type 0 where
  -- a number is these bytes; these bytes are refused
  varint_is : ℕ → List ℕ → Example
  varint_refused : List ℕ → ℕ → Example
  -- bytes are this text; this text is refused
  text_is : Form → List ℕ → List ℕ → Example
  text_refused : Form → List ℕ → ℕ → Example
  -- a frame with so many bytes of data has so many
  frame_has : ℕ → ℕ → Example

-- what an example says: written so, and read back
abbrev pub Holds : Example → Type 0
Holds (varint_is n bs) = (varint n ≡ bs) × (varint_at bs 0 ≡ got n (length bs))
Holds (varint_refused bs e) = varint_at bs 0 ≡ refused e
Holds (text_is f bs cs) = (text_of f bs ≡ cs) × (read_text f cs ≡ done bs)
Holds (text_refused f cs e) = read_text f cs ≡ refused e
Holds (frame_has n k) = (kind : ℕ) (id : List ℕ) (index total : ℕ) (contents : List ℕ) → Allowed kind id index total contents → length contents ≡ n
    → length (layout kind id index total contents) ≡ k

abbrev pub All : List Example → Type 0
All [] = Unit {0}
All (x ∷ xs) = Holds x × All xs

-- P1 to P12 (R17.1). P11 and P12 hold of every frame that the rules allow, so of "frame 0 of 1" and
-- of every page
abbrev pub table : List Example
table =
    varint_is 0 (0x00 ∷ [])
    ∷ varint_is 127 (0x7F ∷ [])
    ∷ varint_is 128 (0x80 ∷ 0x01 ∷ [])
    ∷ varint_is 300 (0xAC ∷ 0x02 ∷ [])
    ∷ varint_refused (0x80 ∷ 0x00 ∷ []) 7
    ∷ text_is base64 (0x41 ∷ 0x50 ∷ []) (0x51 ∷ 0x56 ∷ 0x41 ∷ [])
    ∷ text_refused base64 (0x51 ∷ 0x56 ∷ 0x42 ∷ []) 2
    ∷ text_is zbase32 (0x41 ∷ 0x50 ∷ []) (0x65 ∷ 0x66 ∷ 0x65 ∷ 0x79 ∷ [])
    ∷ text_is zbase32 (0xFF ∷ []) (0x39 ∷ 0x68 ∷ [])
    ∷ text_refused zbase32 (0x39 ∷ 0x39 ∷ []) 2
    ∷ frame_has 0 19
    ∷ frame_has 480 500
    ∷ []
