-- Worked examples of the order of refusals in `type` and of the rule over `share` and `length`.
-- Each is computed. Assumes nothing.
use mathlib.Core.Path.{◌≡◌, refl}
use mathlib.Core.List.{[], ◌∷◌, ◌++◌}
use Rattle.wire.specs.Answer.{refused, got}
use Rattle.wire.specs.Number.{digits, number_from}
use Rattle.lend.specs.Same.{same}
use Rattle.cbor.specs.Form.{info_of, width_of, head_of, string_of}
use Rattle.cbor.specs.Item.{one_at, big_endian_at, argument_at, kind_of, head_at, number_at, contents_at, name_at, key_at, string_at, string_field_at}
use Rattle.wire.specs.Ascii.{ascii}
use Rattle.shard.specs.Shard.{passphrase, signing_seed, known, padded, kind_at}

-- For the reader: a length other than 10 and 12 is 19 though the contents are missing; then a cut
-- is 3, and other contents are 19
kinds : (kind_at (string_of 3 (ascii "type") ++ (0x6B ∷ [])) 0 ≡ refused 19)
    × (kind_at (string_of 3 (ascii "type") ++ (0x69 ∷ [])) 0 ≡ refused 19)
    × (kind_at (string_of 3 (ascii "type") ++ (0x78 ∷ 0x0C ∷ [])) 0 ≡ refused 18)
    × (kind_at (string_of 3 (ascii "type") ++ (0x4A ∷ [])) 0 ≡ refused 18)
    × (kind_at (string_of 3 (ascii "type") ++ (0x6A ∷ 0x71 ∷ [])) 0 ≡ refused 3)
    × (kind_at (string_of 3 (ascii "type") ++ (0x6A ∷ 0x71 ∷ 97 ∷ 115 ∷ 115 ∷ 112 ∷ 104 ∷ 114 ∷ 97 ∷ 115 ∷ 101 ∷ [])) 0 ≡ refused 19)
    × (kind_at (string_of 3 (ascii "type") ++ string_of 3 passphrase) 0 ≡ got (record { start = 6; len = 10 }) 16)
    × (kind_at (string_of 3 (ascii "type") ++ string_of 3 signing_seed) 0 ≡ got (record { start = 6; len = 12 }) 18)
unfolding kind_at known same string_of head_of info_of width_of digits key_at one_at name_at number_at head_at kind_of argument_at big_endian_at number_from contents_at
kinds = (refl, refl, refl, refl, refl, refl, refl, refl)

-- For the reader: a share above 224 bytes is 19 at once, one of 224 has to be there
shares : (string_field_at (string_of 3 (ascii "share") ++ (0x58 ∷ 240 ∷ [])) 0 (ascii "share") 2 0 224 19 ≡ refused 19)
    × (string_field_at (string_of 3 (ascii "share") ++ (0x58 ∷ 224 ∷ [])) 0 (ascii "share") 2 0 224 19 ≡ refused 3)
unfolding string_field_at string_at same string_of head_of info_of width_of digits key_at one_at name_at number_at head_at kind_of argument_at big_endian_at number_from contents_at
shares = (refl, refl)

-- For the reader: a length is padded to whole blocks of 16
blocks : (padded 1 ≡ 16) × (padded 16 ≡ 16) × (padded 17 ≡ 32) × (padded 224 ≡ 224) × (padded 18446744073709551615 ≡ 18446744073709551616)
unfolding padded
blocks = (refl, refl, refl, refl, refl)
