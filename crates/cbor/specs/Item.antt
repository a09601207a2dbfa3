-- What stands at a position of the input: section 10 of docs/RULES.md. An item is judged from its
-- front, in the order of R10.3: what it is, by its first byte; whether its head is there, and the
-- shortest; its number or length; whether its contents are there; and those.
use Rattle.std.specs.Prelude.{ℕ, ◌+◌, ◌/◌, ◌%◌, Bool, ◌&&◌, List, length, get_or, take, drop, ltb, leb, eqb}
use Rattle.wire.specs.Answer.{choose, then, demand, Got, got}
use Rattle.wire.specs.Number.{number}
use Rattle.wire.specs.declared.Span.{Span}
use Rattle.lend.specs.Same.{same}
use Rattle.cbor.specs.Float.{finite, shortest, magnitude, widened_bits}
use Rattle.cbor.specs.Form.{info_of, width_of, first_of, bytes_of}
use Rattle.cbor.specs.declared.Head.{Head}
use Rattle.cbor.specs.declared.Width.{Width}
use Rattle.cbor.specs.declared.Width.TheVariants.{Half, Single, Double}

-- one byte of any value; 3 where none is left (R10.3)
abbrev pub byte_at : List ℕ → ℕ → Got ℕ
byte_at s at = demand (ltb at (length s)) 3 (got (get_or s at 0) (at + 1))

-- one byte, which has to be the wanted one: the head of a map, or a simple value; else 18 (R10.3)
unfoldable pub one_at : List ℕ → ℕ → ℕ → Got Unit
one_at s at wanted = then (byte_at s at) (λ (x, next). demand (eqb x wanted) 18 (got tt next))

-- the number in the next k bytes, the highest first; 3 where they are not all there (R10.3)
unfoldable pub big_endian_at : List ℕ → ℕ → ℕ → Got ℕ
big_endian_at s at k = demand (leb (at + k) (length s)) 3 (got (number 256 (take k (drop at s))) (at + k))

-- the number of a head, after its first byte
unfoldable pub argument_at : List ℕ → ℕ → ℕ → Got ℕ
argument_at s at info = choose (ltb info 24) (got info at) (big_endian_at s at (width_of info))

-- the kind of a major type: integers of either sign are one (R10.4)
unfoldable pub kind_of : ℕ → ℕ
kind_of major = choose (eqb major 1) 0 major

-- the head of an item of a kind: not reserved, not indefinite, and shortest; else 18 (R10.1, R10.3)
unfoldable pub head_at : List ℕ → ℕ → ℕ → Got Head
head_at s at kind =
    then (byte_at s at) (λ (x, p).
    demand (eqb (kind_of (x / 32)) kind) 18
    (demand (leb (x % 32) 27) 18
    (then (argument_at s p (x % 32)) (λ (n, next).
    demand (eqb (info_of n) (x % 32)) 18 (got (record { major = x / 32; n = n }) next)))))

-- a number, an array's count or a string's length, from least to most (R10.3); a negative number is
-- out of every such range (R10.4)
unfoldable pub number_at : (s : List ℕ) (at kind least most fault : ℕ) → Got ℕ
number_at s at kind least most fault =
    then (head_at s at kind) (λ (h, next).
    demand (eqb h.major kind) fault
    (demand (leb least h.n) fault
    (demand (leb h.n most) fault (got h.n next))))

-- where the contents of a string are; 3 where the input ends in them (R10.3)
unfoldable pub contents_at : List ℕ → ℕ → ℕ → Got Span
contents_at s at len = demand (leb (at + len) (length s)) 3 (got (record { start = at; len = len }) (at + len))

-- a byte string, or a text, of a length from least to most
unfoldable pub string_at : (s : List ℕ) (at kind least most fault : ℕ) → Got Span
string_at s at kind least most fault = then (number_at s at kind least most fault) (λ (len, next). contents_at s next len)

-- the contents of a key, which are compared with the name (R18.2): 3, then 18 (R10.3)
unfoldable pub name_at : List ℕ → ℕ → List ℕ → Got Unit
name_at s at name =
    demand (leb (at + length name) (length s)) 3
    (demand (same name (take (length name) (drop at s))) 18 (got tt (at + length name)))

-- a named key: a text of at most 23 bytes, whose head is one byte (R10.6)
unfoldable pub key_at : List ℕ → ℕ → List ℕ → Got Unit
key_at s at name = demand (ltb (length name) 24) 18 (then (one_at s at (96 + length name)) (λ (_, p). name_at s p name))

-- whether a float begins with this byte
unfoldable pub is_float : ℕ → Bool
is_float x = leb (first_of Half) x && leb x (first_of Double)

-- and its width
unfoldable pub width_by : ℕ → Width
width_by x = choose (eqb x (first_of Half)) Half (choose (eqb x (first_of Single)) Single Double)

-- a float after its first byte, by the 64 bits of its double: 3, then 19 where it is not finite,
-- then 18 where a shorter width has its value (R10.9)
unfoldable pub body_at : List ℕ → ℕ → Width → Got ℕ
body_at s at w =
    then (big_endian_at s at (bytes_of w)) (λ (bits, next).
    demand (finite w bits) 19
    (demand (eqb (first_of (shortest (magnitude Double (widened_bits w bits)))) (first_of w)) 18 (got (widened_bits w bits) next)))

-- the whole float; 18 for another first byte (R10.9)
unfoldable pub float_at : List ℕ → ℕ → Got ℕ
float_at s at = then (byte_at s at) (λ (x, p). demand (is_float x) 18 (body_at s p (width_by x)))

-- a key and a string
unfoldable pub string_field_at : (s : List ℕ) (at : ℕ) (name : List ℕ) (kind least most fault : ℕ) → Got Span
string_field_at s at name kind least most fault = then (key_at s at name) (λ (_, p). string_at s p kind least most fault)

-- a key and a number
unfoldable pub number_field_at : (s : List ℕ) (at : ℕ) (name : List ℕ) (least most : ℕ) → Got ℕ
number_field_at s at name least most = then (key_at s at name) (λ (_, p). number_at s p 0 least most 19)

-- a key and any value, by its first byte and its position
unfoldable pub any_field_at : (s : List ℕ) (at : ℕ) (name : List ℕ) → Got ℕ
any_field_at s at name = then (key_at s at name) (λ (_, a). then (byte_at s a) (λ (x, _). got x a))
