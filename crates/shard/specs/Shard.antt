-- The shard payload and the bytes that get signed: section 11 of docs/RULES.md.
use Rattle.std.specs.Prelude.{ℕ, ◌+◌, ◌-◌, ◌*◌, ◌/◌, ◌^◌, Bool, ◌&&◌, ◌||◌, List, [], ◌∷◌, ◌++◌, eqb, leb, length}
use Rattle.wire.specs.Answer.{choose, Answer, done, refused, then, demand, Got, got}
use Rattle.wire.specs.Ascii.{ascii}
use Rattle.wire.specs.Sizes.{most_share}
use Rattle.wire.specs.declared.Span.{Span}
use Rattle.wire.specs.Span.{part_at}
use Rattle.lend.specs.Same.{same}
use Rattle.cbor.specs.Form.{string_field_of, number_field_of}
use Rattle.cbor.specs.Item.{key_at, number_at, contents_at, string_field_at, number_field_at}
use Rattle.auth.specs.Auth.{Claim, claim_at}
use Rattle.shard.specs.declared.Content.{Content}
use Rattle.shard.specs.declared.Quorum.{Quorum}

-- ---- the rules of the values

abbrev pub passphrase : List ℕ
passphrase = ascii "passphrase"

abbrev pub signing_seed : List ℕ
signing_seed = ascii "signing-seed"

-- the two kinds of secret that are shared (R11.4)
unfoldable pub known : List ℕ → Bool
known kind = same kind passphrase || same kind signing_seed

-- a share has whole blocks of 16 bytes, the fewest that hold the secret (R11.5)
unfoldable pub padded : ℕ → ℕ
padded len = (len + 15) / 16 * 16

-- ---- the payload, read

-- `type`: a text of 10 or 12 bytes, judged before its contents are looked at; then the contents
-- (R11.4)
unfoldable pub kind_at : List ℕ → ℕ → Got Span
kind_at s at =
    then (key_at s at (ascii "type")) (λ (_, a).
    then (number_at s a 3 10 12 19) (λ (len, b).
    choose (eqb len 11) (refused 19)
    (then (contents_at s b len) (λ (kind, next).
    demand (known (part_at s kind)) 19 (got kind next)))))

-- `type`; `share`, no longer than R3.7 says; `length`, 1 or more of what a head can hold, at which
-- the rule over it and the share is judged (R11.5, R10.5)
unfoldable pub content_at : List ℕ → ℕ → Got Content
content_at s at =
    then (kind_at s at) (λ (kind, a).
    then (string_field_at s a (ascii "share") 2 0 most_share 19) (λ (share, b).
    then (number_field_at s b (ascii "length") 1 (2 ^ 64 - 1)) (λ (len, next).
    demand (eqb share.len (padded len)) 19
    (got (record { kind = kind; share = share; length = len }) next))))

-- `threshold`, `share_count` and `share_index`, each 1 to 255: no more shares are needed than there
-- are, and this is one of them (R11.6); the later item is the one at fault (R10.5)
unfoldable pub quorum_at : List ℕ → ℕ → Got Quorum
quorum_at s at =
    then (number_field_at s at (ascii "threshold") 1 255) (λ (threshold, a).
    then (number_field_at s a (ascii "share_count") 1 255) (λ (count, b).
    demand (leb threshold count) 19
    (then (number_field_at s b (ascii "share_index") 1 255) (λ (index, next).
    demand (leb index count) 19
    (got (record { threshold = threshold; count = count; index = index }) next)))))

-- what a shard says: who signed it, what is shared, and which share of how many it is
pub record Shard : Type 0 where
  pub claim : Claim
  pub content : Content
  pub quorum : Quorum

-- behind the claim (R11.3); `version` is 1 (R11.2), and nothing comes after (R10.2)
unfoldable pub body_at : List ℕ → ℕ → Claim → Got Shard
body_at s at claim =
    then (content_at s at) (λ (content, a).
    then (number_field_at s a (ascii "version") 1 1) (λ (_, b).
    then (quorum_at s b) (λ (quorum, next).
    demand (eqb next (length s)) 3 (got (record { claim = claim; content = content; quorum = quorum }) next))))

-- head AA; `pub`, `sig` and `hash`; the rest (R11.3)
unfoldable pub shard_at : List ℕ → Got Shard
shard_at s = then (claim_at s 0xAA) (λ (claim, at). body_at s at claim)

-- ---- the payload, written

unfoldable pub content_of : List ℕ → List ℕ → ℕ → List ℕ
content_of kind share len = string_field_of (ascii "type") 3 kind ++ (string_field_of (ascii "share") 2 share ++ number_field_of (ascii "length") len)

unfoldable pub quorum_of : Quorum → List ℕ
quorum_of q =
    number_field_of (ascii "threshold") q.threshold ++ (number_field_of (ascii "share_count") q.count ++ number_field_of (ascii "share_index") q.index)

-- from `hash` on the payload and the signed bytes are the same
unfoldable pub rest_of : (hash kind share : List ℕ) (len : ℕ) (q : Quorum) → List ℕ
rest_of hash kind share len q = string_field_of (ascii "hash") 2 hash ++ (content_of kind share len ++ (number_field_of (ascii "version") 1 ++ quorum_of q))

-- all ten, in the order of R11.3
unfoldable pub shard_of : (public sig hash kind share : List ℕ) (len : ℕ) (q : Quorum) → List ℕ
shard_of public sig hash kind share len q =
    (0xAA ∷ []) ++ (string_field_of (ascii "pub") 2 public ++ (string_field_of (ascii "sig") 2 sig ++ rest_of hash kind share len q))

-- ---- what a writer judges

-- 1 to 255 (R11.6)
unfoldable pub small : ℕ → Bool
small n = leb 1 n && leb n 255

-- from `hash` on the payload and the signed bytes have the same values: the form is written where
-- they may be. One outside its range is 19, in the order of the keys (R10.7)
unfoldable pub rest_verdict : (hash kind share : List ℕ) (len : ℕ) (q : Quorum) (form : List ℕ) → Answer (List ℕ)
rest_verdict hash kind share len q form =
    demand (eqb (length hash) 32) 19
    (demand (known kind) 19
    (demand (leb (length share) most_share) 19
    (demand (leb 1 len) 19
    (demand (eqb (length share) (padded len)) 19
    (demand (small q.threshold) 19
    (demand (small q.count) 19
    (demand (leb q.threshold q.count) 19
    (demand (small q.index) 19
    (demand (leb q.index q.count) 19
    (done form))))))))))

-- the values may have any length (R11.8). There is no 9: the payload of values in their ranges has
-- at most 456 bytes (R11.9): `shard_most` of proofs/Lengths.antt, and Ticket 11
unfoldable pub shard_verdict : (public sig hash kind share : List ℕ) (len : ℕ) (q : Quorum) → Answer (List ℕ)
shard_verdict public sig hash kind share len q =
    demand (eqb (length public) 32) 19
    (demand (eqb (length sig) 64) 19
    (rest_verdict hash kind share len q (shard_of public sig hash kind share len q)))

-- ---- the bytes that get signed

-- what stands before the signed bytes (R11.7)
abbrev pub shard_domain : List ℕ
shard_domain = ascii "ETHERNITY-SHARD-V1"

-- the domain, then the map without `sig`, head A9 (R11.7)
unfoldable pub signed_of : (public hash kind share : List ℕ) (len : ℕ) (q : Quorum) → List ℕ
signed_of public hash kind share len q =
    shard_domain ++ ((0xA9 ∷ []) ++ (string_field_of (ascii "pub") 2 public ++ rest_of hash kind share len q))

-- the values are judged as by the writer, sig apart (R11.7)
unfoldable pub signed_verdict : (public hash kind share : List ℕ) (len : ℕ) (q : Quorum) → Answer (List ℕ)
signed_verdict public hash kind share len q =
    demand (eqb (length public) 32) 19
    (rest_verdict hash kind share len q (signed_of public hash kind share len q))
