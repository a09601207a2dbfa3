-- The writes of a shard's form in a row are one write, and each part has room. Assumes nothing.
use Prim.Native.Nat.{ℕ, ◌+◌, ◌≤◌}
use mathlib.Core.Path.{◌≡◌}
use mathlib.Core.List.{List, [], ◌∷◌, ◌++◌}
use native.Mathlib.Omega.{arith}
use lib.ListN.{length, length-append}
use Rattle.wire.specs.Over.{over}
use Rattle.cbor.specs.Form.{string_field_of, number_field_of}
use Rattle.wire.specs.Ascii.{ascii}
use Rattle.cbor.specs.Put.{Put}
use Rattle.cbor.proofs.Runs.{Left, left_all, left_on, left_last}
use Rattle.shard.specs.Shard.{content_of, quorum_of, rest_of, shard_of, shard_domain, signed_of}
use Rattle.shard.specs.declared.Quorum.{Quorum}

-- the first of what is left has room
room_first : {at p : ℕ} {all x y : List ℕ} (form rest : List ℕ) → Left at all x y p (form ++ rest) → p + length form ≤ length y
room_first form rest h = omega (arith, h.room, length-append form rest)

module _ (at a b c : ℕ) (x x₁ x₂ z : List ℕ) where
  pub content_run : (kind share : List ℕ) (len : ℕ) → at + length (content_of kind share len) ≤ length x → Put at (string_field_of (ascii "type") 3 kind) x x₁ a
      → Put a (string_field_of (ascii "share") 2 share) x₁ x₂ b → Put b (number_field_of (ascii "length") len) x₂ z c → Put at (content_of kind share len) x z c
  unfolding content_of
  content_run kind share len l w₁ w₂ w₃ = left_last l (left_on (left_on (left_all at (content_of kind share len) x l) w₁) w₂) w₃

  pub quorum_run : (q : Quorum) → at + length (quorum_of q) ≤ length x → Put at (number_field_of (ascii "threshold") q.threshold) x x₁ a
      → Put a (number_field_of (ascii "share_count") q.count) x₁ x₂ b → Put b (number_field_of (ascii "share_index") q.index) x₂ z c → Put at (quorum_of q) x z c
  unfolding quorum_of
  quorum_run q l w₁ w₂ w₃ = left_last l (left_on (left_on (left_all at (quorum_of q) x l) w₁) w₂) w₃

module _ (hash kind share : List ℕ) (len : ℕ) (q : Quorum) where
  module _ (at : ℕ) (x : List ℕ) (l : at + length (rest_of hash kind share len q) ≤ length x) (a : ℕ) (x₁ : List ℕ) (w₁ : Put at (string_field_of (ascii "hash") 2 hash) x x₁ a) where
    after_hash : Left at (rest_of hash kind share len q) x x₁ a (content_of kind share len ++ (number_field_of (ascii "version") 1 ++ quorum_of q))
    unfolding rest_of
    after_hash = left_on (left_all at (rest_of hash kind share len q) x l) w₁

    pub content_room : a + length (content_of kind share len) ≤ length x₁
    content_room = room_first (content_of kind share len) (number_field_of (ascii "version") 1 ++ quorum_of q) after_hash

    module _ (b c : ℕ) (x₂ x₃ : List ℕ) (w₂ : Put a (content_of kind share len) x₁ x₂ b) (w₃ : Put b (number_field_of (ascii "version") 1) x₂ x₃ c) where
      after_version : Left at (rest_of hash kind share len q) x x₃ c (quorum_of q)
      after_version = left_on (left_on after_hash w₂) w₃

      pub quorum_room : c + length (quorum_of q) ≤ length x₃
      quorum_room = after_version.room

      pub rest_run : (d : ℕ) (z : List ℕ) → Put c (quorum_of q) x₃ z d → Put at (rest_of hash kind share len q) x z d
      rest_run d z w₄ = left_last l after_version w₄

  module _ (public x : List ℕ) where
    module _ (sig : List ℕ) (l : length (shard_of public sig hash kind share len q) ≤ length x) (a b c : ℕ) (x₁ x₂ x₃ : List ℕ)
        (w₁ : Put 0 (0xAA ∷ []) x x₁ a) (w₂ : Put a (string_field_of (ascii "pub") 2 public) x₁ x₂ b) (w₃ : Put b (string_field_of (ascii "sig") 2 sig) x₂ x₃ c) where
      shard_fits : 0 + length (shard_of public sig hash kind share len q) ≤ length x
      shard_fits = omega arith

      after_sig : Left 0 (shard_of public sig hash kind share len q) x x₃ c (rest_of hash kind share len q)
      unfolding shard_of
      after_sig = left_on (left_on (left_on (left_all 0 (shard_of public sig hash kind share len q) x shard_fits) w₁) w₂) w₃

      pub shard_room : c + length (rest_of hash kind share len q) ≤ length x₃
      shard_room = after_sig.room

      pub shard_run : (d : ℕ) (z : List ℕ) → Put c (rest_of hash kind share len q) x₃ z d → z ≡ over 0 (shard_of public sig hash kind share len q) x
      shard_run d z w₄ = (left_last shard_fits after_sig w₄).output

    module _ (l : length (signed_of public hash kind share len q) ≤ length x) (a b c : ℕ) (x₁ x₂ x₃ : List ℕ) (w₁ : Put 0 shard_domain x x₁ a)
        (w₂ : Put a (0xA9 ∷ []) x₁ x₂ b) (w₃ : Put b (string_field_of (ascii "pub") 2 public) x₂ x₃ c) where
      signed_fits : 0 + length (signed_of public hash kind share len q) ≤ length x
      signed_fits = omega arith

      after_public : Left 0 (signed_of public hash kind share len q) x x₃ c (rest_of hash kind share len q)
      unfolding signed_of
      after_public = left_on (left_on (left_on (left_all 0 (signed_of public hash kind share len q) x signed_fits) w₁) w₂) w₃

      pub signed_room : c + length (rest_of hash kind share len q) ≤ length x₃
      signed_room = after_public.room

      pub signed_run : (d : ℕ) (z : List ℕ) → Put c (rest_of hash kind share len q) x₃ z d → z ≡ over 0 (signed_of public hash kind share len q) x
      signed_run d z w₄ = (left_last signed_fits after_public w₄).output
