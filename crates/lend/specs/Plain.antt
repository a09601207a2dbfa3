-- Bytes as they may be shown to a person.
use Rattle.std.specs.Prelude.{ℕ, ltb, leb}
use Rattle.wire.specs.Answer.{choose}

-- only ASCII that prints is shown as it is: a terminal could take any other byte for an order
unfoldable pub plain_byte : ℕ → ℕ
plain_byte b = choose (ltb b 0x20) 0x3f (choose (leb b 0x7e) b 0x3f)
