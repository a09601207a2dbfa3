-- What each writer does, over plain lists and numbers: r is the room from at on, as it was
-- computed. Assumes nothing.
use Prim.Native.Nat.{ℕ, ◌+◌, ◌-◌, ◌*◌, ◌^◌, ◌≤◌, ◌<◌}
use mathlib.Core.Path.{◌≡◌, refl, ap, ◌∙◌}
use mathlib.Core.Bool.{Bool, true, false, not}
use mathlib.Core.List.{List, [], ◌∷◌, ◌++◌}
use native.Mathlib.Omega.{arith}
use borrow.Author.Tests.{not-true, not-false}
use lib.ListN.{length, take, drop, length-append}
use mir.Syntax.{w64}
use mir.Val.{Fits}
use Rattle.std.specs.Prelude.{Ok, Err}
use Rattle.std.specs.Int.{to_be_bytes}
use Rattle.wire.specs.Over.{over}
use Rattle.wire.specs.Number.{big_endian}
use Rattle.wire.specs.Writing.{Written}
use Rattle.wire.specs.declared.Refusal.TheVariants.{OutOfRange, NoRoom}
use Rattle.wire.proofs.Writes.{written, no_room, denied}
use Rattle.wire.proofs.Digits.{length_digits}
use Rattle.wire.proofs.Overs.{over_append}
use Rattle.cbor.specs.Form.{info_of, width_of, head_of, head_size, string_of, first_of, bytes_of, float_as, float_of, float_verdict, string_field_of, number_field_of}
use Rattle.cbor.specs.Float.{finite, shortest, magnitude, narrowed_bits}
use Rattle.cbor.specs.declared.Width.{Width}
use Rattle.cbor.specs.declared.Width.TheVariants.{Double}
use Rattle.cbor.specs.Put.{Put}
use Rattle.cbor.proofs.Sizes.{length_head, length_float, length_string, size_some}
use Rattle.cbor.proofs.Storing.{lowest}
use Rattle.cbor.proofs.Runs.{past_fits, put_done, put_none, left_all, left_on, left_last, left_over_last}

pub float_long : (value k : ℕ) (w : Width) → w ≡ shortest (magnitude Double value) → k ≡ bytes_of w → 1 + k ≡ length (float_of value)
float_long value k w c f = omega (arith, length_float value, ap bytes_of c)

-- what is written as a first byte and a number is a head, or a float
module _ (at : ℕ) (x z : List ℕ) (next : ℕ) where
  pub head_done : (major n b k : ℕ) → b ≡ info_of n → k ≡ width_of (info_of n) → Put at ((major * 32 + b) ∷ big_endian k n) x z next → Put at (head_of major n) x z next
  unfolding head_of
  head_done major n b k g f p = rw (← f, ← g) p

  pub float_done : (value b k bits : ℕ) (w : Width) → w ≡ shortest (magnitude Double value) → b ≡ first_of w → k ≡ bytes_of w → bits ≡ narrowed_bits w value
      → Put at (b ∷ big_endian k bits) x z next → Put at (float_of value) x z next
  unfolding float_of float_as
  float_done value b k bits w c g f m p = rw (← c, ← g, ← f, ← m) p

module _ (at r : ℕ) (x : List ℕ) (e : r ≡ length x - at) where
  pub fixed_none : (bs : List ℕ) → r < length bs → Put at bs x x at
  fixed_none bs h = put_none at bs x (omega arith)

  pub fixed_done : (bs y : List ℕ) → length bs ≤ r → y ≡ over at bs x → Put at bs x y (at + length bs)
  fixed_done bs y h o = put_done at bs x y (at + length bs) (omega arith) o refl

  -- a first byte b, and k bytes of n
  module _ (b k n : ℕ) where
    pub number_none : r < 1 + k → Put at (b ∷ big_endian k n) x x at
    number_none h = put_none at (b ∷ big_endian k n) x (omega (arith, length_digits 256 k n))

    pub number_done : (y z bs : List ℕ) → k ≤ 8 → 1 + k ≤ r → y ≡ over at (b ∷ []) x → bs ≡ to_be_bytes w64 n → z ≡ over (at + 1) (take (8 - (8 - k)) (drop (8 - k) bs)) y
        → Put at (b ∷ big_endian k n) x z (at + 1 + k)
    number_done y z bs m h o f w =
        let c = length_digits 256 k n in
        let l : take (8 - (8 - k)) (drop (8 - k) bs) ≡ big_endian k n = ap (λ (l : List ℕ). take (8 - (8 - k)) (drop (8 - k) l)) f ∙ lowest k n m in
        put_done at (b ∷ big_endian k n) x z (at + 1 + k) (omega arith)
        (w ∙ ap (λ (l : List ℕ). over (at + 1) l y) l ∙ ap (over (at + 1) (big_endian k n)) o ∙ over_append at (b ∷ []) (big_endian k n) x (at + 1) refl (omega arith))
        (omega arith)

  module _ (major size : ℕ) (bs : List ℕ) (f : size ≡ head_size (length bs) + length bs) where
    pub string_none : r < size → Put at (string_of major bs) x x at
    string_none h = put_none at (string_of major bs) x (omega (arith, length_string major bs))

    module _ (h : size ≤ r) where
      string_room : at + length (string_of major bs) ≤ length x
      string_room = omega (arith, length_string major bs, size_some (length bs))

      module _ (p : ℕ) (y : List ℕ) (w : Put at (head_of major (length bs)) x y p) where
        pub string_done : (z : List ℕ) → z ≡ over p bs y → Put at (string_of major bs) x z (p + length bs)
        unfolding string_of
        string_done z o = left_over_last z (p + length bs) string_room (left_on (left_all at (head_of major (length bs) ++ bs) x string_room) w) o refl

        -- the position past the contents is within the output
        pub string_next : length x < 2 ^ 64 → Fits w64 (p + length bs)
        string_next l = record { fits = omega (arith, (string_done (over p bs y) refl).answer, past_fits at (string_of major bs) x string_room, string_room) }

  -- a key and a value: two writers' promises
  module _ (name : List ℕ) (a : ℕ) (f : a ≡ head_size (length name) + length name) where
    key_some : 1 ≤ a
    key_some = omega (arith, size_some (length name))

    module _ (rest : List ℕ) where
      key_none : r < a → Put at (string_of 3 name ++ rest) x x at
      key_none h = put_none at (string_of 3 name ++ rest) x (omega (arith, length-append (string_of 3 name) rest, length_string 3 name))

      key_none_later : r - a < length rest → Put at (string_of 3 name ++ rest) x x at
      key_none_later h = put_none at (string_of 3 name ++ rest) x (omega (arith, length-append (string_of 3 name) rest, length_string 3 name))

      key_done : a ≤ r → length rest ≤ r - a → (p q : ℕ) (y z : List ℕ) → Put at (string_of 3 name) x y p → Put p rest y z q → Put at (string_of 3 name ++ rest) x z q
      key_done h l p q y z v w =
          let k : at + length (string_of 3 name ++ rest) ≤ length x = omega (arith, length-append (string_of 3 name) rest, length_string 3 name, key_some) in
          left_last k (left_on (left_all at (string_of 3 name ++ rest) x k) v) w

    module _ (major : ℕ) (bs : List ℕ) where
      pub string_field_none : r < a → Put at (string_field_of name major bs) x x at
      unfolding string_field_of
      string_field_none = key_none (string_of major bs)

      module _ (b : ℕ) (g : b ≡ head_size (length bs) + length bs) where
        pub string_field_none_later : r - a < b → Put at (string_field_of name major bs) x x at
        unfolding string_field_of
        string_field_none_later h = key_none_later (string_of major bs) (omega (arith, length_string major bs))

        pub string_field_done : a ≤ r → b ≤ r - a → (p q : ℕ) (y z : List ℕ) → Put at (string_of 3 name) x y p → Put p (string_of major bs) y z q → Put at (string_field_of name major bs) x z q
        unfolding string_field_of
        string_field_done h l = key_done (string_of major bs) h (omega (arith, length_string major bs))

    module _ (n : ℕ) where
      pub number_field_none : r < a → Put at (number_field_of name n) x x at
      unfolding number_field_of
      number_field_none = key_none (head_of 0 n)

      module _ (b : ℕ) (g : b ≡ head_size n) where
        pub number_field_none_later : r - a < b → Put at (number_field_of name n) x x at
        unfolding number_field_of
        number_field_none_later h = key_none_later (head_of 0 n) (omega (arith, length_head 0 n))

        pub number_field_done : a ≤ r → b ≤ r - a → (p q : ℕ) (y z : List ℕ) → Put at (string_of 3 name) x y p → Put p (head_of 0 n) y z q → Put at (number_field_of name n) x z q
        unfolding number_field_of
        number_field_done h l = key_done (head_of 0 n) h (omega (arith, length_head 0 n))

-- a float alone: t says whether it is finite, len how long it is
module _ (value : ℕ) (out : List ℕ) (t : Bool) (e : t ≡ finite Double value) where
  pub alone_infinite : not t ≡ true → Written 0 (float_verdict value) out out (Err OutOfRange)
  unfolding float_verdict
  alone_infinite h = rw (← e, not-true t h) (denied 0 out OutOfRange)

  module _ (a : not t ≡ false) (len : ℕ) (f : len ≡ length (float_of value)) where
    pub alone_short : length out < len → Written 0 (float_verdict value) out out (Err NoRoom)
    unfolding float_verdict
    alone_short h = rw (← e, not-false t a) (no_room 0 out (float_of value) (omega arith))

    pub alone_done : len ≤ length out → (out' : List ℕ) (next : ℕ) → Put 0 (float_of value) out out' next → Written 0 (float_verdict value) out out' (Ok len)
    unfolding float_verdict
    alone_done h out' next p = rw (← e, not-false t a) (written 0 out (float_of value) out' len (omega arith) f p.output)
