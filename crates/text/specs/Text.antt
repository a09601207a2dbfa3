-- The two text forms: section 5 of docs/RULES.md.
use Rattle.std.specs.Prelude.{ℕ, suc, ◌+◌, ◌-◌, ◌*◌, ◌/◌, ◌%◌, ◌^◌, Bool, true, false, ◌&&◌, ◌||◌, List, [], ◌∷◌, map, leb, eqb, length, get_or}
use Rattle.wire.specs.Answer.{choose, Answer, done, refused, demand}
use Rattle.wire.specs.Ascii.{ascii}
use Rattle.wire.specs.Every.{within}
use Rattle.wire.specs.Number.{digits, number}

-- what a form has of its own: how many bits a character stands for; the characters of the values 0,
-- 1, 2, .. in that order; whether the dash is skipped; and which counts of characters no text has
pub record Form : Type 0 where
  pub width : ℕ
  pub alphabet : List ℕ
  pub dashes : Bool
  pub impossible : ℕ → Bool

-- RFC 4648, table 1 (R5.2)
unfoldable pub standard64 : List ℕ
standard64 = ascii "ABCDEFGHIJKLMNOPQRSTUVWXYZabcdefghijklmnopqrstuvwxyz0123456789+/"

-- the letters of z-base-32, without capitals (R5.3)
unfoldable pub zooko32 : List ℕ
zooko32 = ascii "ybndrfg8ejkmcpqxot1uwisza345h769"

-- without padding, so `=` is no character of it (R5.2); no text has 1 character modulo 4 (R5.6)
unfoldable pub base64 : Form
base64 = record { width = 6; alphabet = standard64; dashes = false; impossible = λ n. eqb (n % 4) 1 }

-- five bits a character (R5.3); no text has 1, 3 or 6 characters modulo 8 (R5.6)
unfoldable pub zbase32 : Form
zbase32 =
    record { width = 5; alphabet = zooko32; dashes = true; impossible = λ n. eqb (n % 8) 1 || (eqb (n % 8) 3 || eqb (n % 8) 6) }

-- what is skipped (R5.4): the space and the five controls from tab to carriage return, and the dash
-- in z-base-32
unfoldable pub skipped : Form → ℕ → Bool
skipped f c = (leb 0x09 c && leb c 0x0D) || (eqb c 0x20 || (f.dashes && eqb c 0x2D))

-- the characters that are not skipped
unfoldable pub kept : Form → List ℕ → List ℕ
kept f [] = []
kept f (c ∷ cs) = choose (skipped f c) (kept f cs) (c ∷ kept f cs)

-- a character's place in an alphabet, which is its value; one that is not allowed has the
-- alphabet's length
unfoldable pub place : ℕ → List ℕ → ℕ
place c [] = 0
place c (a ∷ more) = choose (eqb c a) 0 (suc (place c more))

abbrev pub value : Form → ℕ → ℕ
value f c = place c f.alphabet

unfoldable pub values : Form → List ℕ → List ℕ
values f cs = map (value f) (kept f cs)

-- n characters have so many bits left over after the last whole byte (R5.6)
unfoldable pub leftover : Form → ℕ → ℕ
leftover f n = f.width * n % 8

-- the values as one number, first bits first (R5.1); its last `leftover` bits are no part of a
-- byte, and must be zero: else 2, as for a count that no text has (R5.6). No values are no bytes
-- (R5.7)
unfoldable pub read_values : Form → List ℕ → Answer (List ℕ)
read_values f vs =
    choose (f.impossible (length vs)) (refused 2)
    (demand (eqb (number (2 ^ f.width) vs % 2 ^ leftover f (length vs)) 0) 2
    (done (digits 256 (f.width * length vs / 8) (number (2 ^ f.width) vs / 2 ^ leftover f (length vs)))))

-- a character that is not allowed, anywhere, comes before all else (R5.5)
unfoldable pub read_text : Form → List ℕ → Answer (List ℕ)
read_text f cs = demand (within (2 ^ f.width) (values f cs)) 1 (read_values f (values f cs))

-- the fewest characters that hold n bytes
unfoldable pub characters : Form → ℕ → ℕ
characters f n = (8 * n + (f.width - 1)) / f.width

-- the zero bits that fill the last character (R5.1)
unfoldable pub filling : Form → ℕ → ℕ
filling f n = f.width * characters f n - 8 * n

-- the character of a value; `value` leads back (R18.3): `inverse` of proofs/Forms.antt
abbrev pub letter : Form → ℕ → ℕ
letter f v = get_or f.alphabet v 0

-- the text of bytes: first bits first (R5.1), and nothing that is skipped (R5.4)
unfoldable pub text_of : Form → List ℕ → List ℕ
text_of f bs =
    map (letter f)
    (digits (2 ^ f.width) (characters f (length bs)) (number 256 bs * 2 ^ filling f (length bs)))
