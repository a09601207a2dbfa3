-- How long the payload and the signed bytes are: a payload of allowed values has at most 456 bytes,
-- and some have that many. Assumes nothing.
use Prim.Native.Nat.{ℕ, ◌+◌, ◌≤◌, ◌<◌}
use mathlib.Core.Path.{◌≡◌}
use mathlib.Core.Logic.{⊎_elim}
use mathlib.Core.List.{List, ◌++◌}
use native.Mathlib.Omega.{arith}
use lib.ListN.{length, length-append}
use Rattle.wire.proofs.Cases.{lt_or_le}
use Rattle.cbor.specs.Form.{head_size, string_field_of, number_field_of}
use Rattle.wire.specs.Ascii.{ascii}
use Rattle.cbor.proofs.Sizes.{size_one, size_two, size_most, length_string_field, length_number_field, length_field_two, length_number_field_one}
use Rattle.shard.specs.Shard.{signing_seed, padded, content_of, quorum_of, rest_of, shard_of, signed_of}
use Rattle.shard.specs.declared.Quorum.{Quorum}
use Rattle.shard.proofs.Allowed.{AllowedRest, Allowed, kind_most, length_most}

-- a key and a number
number_field_length : (name : List ℕ) (n : ℕ) → length name < 24 → length (number_field_of name n) ≡ 1 + length name + head_size n
number_field_length name n k = omega (arith, length_number_field name n, size_one (length name) k)

content_length : (kind share : List ℕ) (len : ℕ) → length kind ≤ 12 → length (content_of kind share len) ≡ 19 + length kind + head_size (length share) + length share + head_size len
unfolding content_of
content_length kind share len k =
    let K : List ℕ = string_field_of (ascii "type") 3 kind in
    let S : List ℕ = string_field_of (ascii "share") 2 share in
    let L : List ℕ = number_field_of (ascii "length") len in
    omega (
      arith,
      length-append K (S ++ L),
      length-append S L,
      length_string_field (ascii "type") 3 kind,
      length_string_field (ascii "share") 2 share,
      number_field_length (ascii "length") len (omega arith),
      size_one 4 (omega arith),
      size_one 5 (omega arith),
      size_one (length kind) (omega arith),
    )

quorum_length : (q : Quorum) → length (quorum_of q) ≡ 34 + head_size q.threshold + head_size q.count + head_size q.index
unfolding quorum_of
quorum_length q =
    let T : List ℕ = number_field_of (ascii "threshold") q.threshold in
    let C : List ℕ = number_field_of (ascii "share_count") q.count in
    let I : List ℕ = number_field_of (ascii "share_index") q.index in
    omega (
      arith,
      length-append T (C ++ I),
      length-append C I,
      number_field_length (ascii "threshold") q.threshold (omega arith),
      number_field_length (ascii "share_count") q.count (omega arith),
      number_field_length (ascii "share_index") q.index (omega arith),
    )

module _ (hash kind share : List ℕ) (len : ℕ) (q : Quorum) where
  pub rest_length : length hash ≡ 32 → length kind ≤ 12 → length (rest_of hash kind share len q)
      ≡ 101 + length kind + head_size (length share) + length share + (head_size len + head_size q.threshold + head_size q.count + head_size q.index)
  unfolding rest_of
  rest_length h k =
      let H : List ℕ = string_field_of (ascii "hash") 2 hash in
      let C : List ℕ = content_of kind share len in
      let N : List ℕ = number_field_of (ascii "version") 1 in
      let Q : List ℕ = quorum_of q in
      omega (
        arith,
        length-append H (C ++ (N ++ Q)),
        length-append C (N ++ Q),
        length-append N Q,
        length_field_two (ascii "hash") 2 hash (omega arith) (omega arith) (omega arith),
        content_length kind share len k,
        length_number_field_one (ascii "version") 1 (omega arith) (omega arith),
        quorum_length q,
      )

  module _ (public : List ℕ) (p : length public ≡ 32) where
    pub shard_length : (sig : List ℕ) → length sig ≡ 64 → length (shard_of public sig hash kind share len q) ≡ 109 + length (rest_of hash kind share len q)
    unfolding shard_of
    shard_length sig g =
        let P : List ℕ = string_field_of (ascii "pub") 2 public in
        let G : List ℕ = string_field_of (ascii "sig") 2 sig in
        let R : List ℕ = rest_of hash kind share len q in
        omega (
          arith,
          length-append P (G ++ R),
          length-append G R,
          length_field_two (ascii "pub") 2 public (omega arith) (omega arith) (omega arith),
          length_field_two (ascii "sig") 2 sig (omega arith) (omega arith) (omega arith),
        )

    pub signed_length : length (signed_of public hash kind share len q) ≡ 57 + length (rest_of hash kind share len q)
    unfolding signed_of
    signed_length =
        let P : List ℕ = string_field_of (ascii "pub") 2 public in
        let R : List ℕ = rest_of hash kind share len q in
        omega (arith, length-append P R, length_field_two (ascii "pub") 2 public (omega arith) (omega arith) (omega arith))

-- ---- as the code adds it up: each head is at most 9 bytes, so that no sum wraps

pub size_at : (r n : ℕ) → r ≡ head_size n → (r ≡ head_size n) × (r ≤ 9)
size_at r n e = (e, omega (arith, size_most n))

pub rest_size_at : (hash kind share : List ℕ) (len : ℕ) (q : Quorum) (a b c d e : ℕ) → length hash ≡ 32 → length kind ≤ 12 → length share ≤ 224
    → (a ≡ head_size len) × (a ≤ 9) → (b ≡ head_size q.threshold) × (b ≤ 9) → (c ≡ head_size q.count) × (c ≤ 9) → (d ≡ head_size q.index) × (d ≤ 9)
    → (e ≡ head_size (length share)) × (e ≤ 9)
    → (101 + length kind + e + length share + (a + b + c + d) ≡ length (rest_of hash kind share len q)) × (101 + length kind + e + length share + (a + b + c + d) ≤ 400)
rest_size_at hash kind share len q a b c d e h k s la lb lc ld le = (omega (arith, rest_length hash kind share len q h k), omega arith)

-- ---- the longest

size_small : (n : ℕ) → n < 256 → head_size n ≤ 2
size_small n h =
    ⊎_elim (λ (l : n < 24). omega (arith, size_one n l)) (λ (l : 24 ≤ n). omega (arith, size_two n l h)) (lt_or_le n 24)

pub rest_most : (hash kind share : List ℕ) (len : ℕ) (q : Quorum) → AllowedRest hash kind share len q → length (rest_of hash kind share len q) ≤ 347
rest_most hash kind share len q a =
    let c = a.content in
    let b = a.quorum in
    let k = kind_most kind c.type in
    let l = length_most kind share len c in
    omega (
      arith,
      rest_length hash kind share len q a.hash_long k,
      size_small (length share) (omega (arith, c.most)),
      size_small len (omega arith),
      size_small q.threshold (omega (arith, b.enough, b.most)),
      size_small q.count (omega (arith, b.most)),
      size_small q.index (omega (arith, b.last, b.most)),
    )

-- a page holds 480 bytes, so the payload of allowed values always fits one
pub shard_most : (public sig hash kind share : List ℕ) (len : ℕ) (q : Quorum) → Allowed public sig hash kind share len q → length (shard_of public sig hash kind share len q) ≤ 456
shard_most public sig hash kind share len q a =
    omega (arith, shard_length hash kind share len q public a.public_long sig a.sig_long, rest_most hash kind share len q a.rest)

-- For the reader: the bound is reached, wherever each value is as long as it can be
pub shard_longest : (public sig hash share : List ℕ) (len : ℕ) (q : Quorum) → Allowed public sig hash signing_seed share len q → length share ≡ 224 → 24 ≤ q.threshold → 24 ≤ q.index
    → length (shard_of public sig hash signing_seed share len q) ≡ 456
unfolding padded
shard_longest public sig hash share len q a s t i =
    let c = a.rest.content in
    let b = a.rest.quorum in
    let l = length_most signing_seed share len c in
    omega (
      arith,
      shard_length hash signing_seed share len q public a.public_long sig a.sig_long,
      rest_length hash signing_seed share len q a.rest.hash_long (omega arith),
      size_two (length share) (omega arith) (omega arith),
      size_two len (omega (arith, c.whole)) (omega arith),
      size_two q.threshold t (omega (arith, b.enough, b.most)),
      size_two q.count (omega (arith, b.enough)) (omega (arith, b.most)),
      size_two q.index i (omega (arith, b.last, b.most)),
    )
