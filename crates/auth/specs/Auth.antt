-- The auth payload and the bytes that get signed: section 11 of docs/RULES.md.
use Rattle.std.specs.Prelude.{ℕ, List, [], ◌∷◌, ◌++◌, eqb, length}
use Rattle.wire.specs.Answer.{Answer, done, then, demand, Got, got}
use Rattle.wire.specs.Ascii.{ascii}
use Rattle.cbor.specs.Form.{string_field_of, number_field_of}
use Rattle.cbor.specs.Item.{one_at, string_field_at, number_field_at}

-- who signed what: where pub, sig and hash start. They are 32, 64 and 32 bytes (R11.2)
pub record Claim : Type 0 where
  pub public : ℕ
  pub sig : ℕ
  pub hash : ℕ

-- what a payload begins with, a shard too: the head of its map, `pub`, `sig`, `hash`, each of its
-- own length, else 19 (R11.2)
unfoldable pub claim_at : List ℕ → ℕ → Got Claim
claim_at s map =
    then (one_at s 0 map) (λ (_, at).
    then (string_field_at s at (ascii "pub") 2 32 32 19) (λ (public, a).
    then (string_field_at s a (ascii "sig") 2 64 64 19) (λ (sig, b).
    then (string_field_at s b (ascii "hash") 2 32 32 19) (λ (hash, next).
    got (record { public = public.start; sig = sig.start; hash = hash.start }) next))))

-- head A4: the three and `version` (R11.1), which is 1 (R11.2), and nothing after (R10.2)
unfoldable pub auth_at : List ℕ → Got Claim
auth_at s =
    then (claim_at s 0xA4) (λ (claim, a).
    then (number_field_at s a (ascii "version") 1 1) (λ (_, next).
    demand (eqb next (length s)) 3 (got claim next)))

-- the same, written
unfoldable pub auth_of : List ℕ → List ℕ → List ℕ → List ℕ
auth_of public sig hash =
    (0xA4 ∷ [])
    ++ (string_field_of (ascii "pub") 2 public ++ (string_field_of (ascii "sig") 2 sig ++ (string_field_of (ascii "hash") 2 hash ++ number_field_of (ascii "version") 1)))

-- the values may have any length (R11.8); a wrong one is 19 (R11.2), in the order of the keys
-- (R10.7). There is no 9, since the payload has 157 bytes (R11.9): `auth_length` of
-- proofs/Lengths.antt, and Ticket 11
unfoldable pub auth_verdict : List ℕ → List ℕ → List ℕ → Answer (List ℕ)
auth_verdict public sig hash =
    demand (eqb (length public) 32) 19
    (demand (eqb (length sig) 64) 19
    (demand (eqb (length hash) 32) 19
    (done (auth_of public sig hash))))

-- what stands before the signed bytes (R11.7)
abbrev pub auth_domain : List ℕ
auth_domain = ascii "ETHERNITY-AUTH-V1"

-- signed bytes: the domain, then the map without `sig`, head A3 (R11.7)
unfoldable pub signed_of : List ℕ → List ℕ → List ℕ
signed_of public hash =
    auth_domain ++ ((0xA3 ∷ []) ++ (string_field_of (ascii "pub") 2 public ++ (string_field_of (ascii "hash") 2 hash ++ number_field_of (ascii "version") 1)))

-- the values are judged as by the writer, sig apart (R11.7)
unfoldable pub signed_verdict : List ℕ → List ℕ → Answer (List ℕ)
signed_verdict public hash =
    demand (eqb (length public) 32) 19
    (demand (eqb (length hash) 32) 19
    (done (signed_of public hash)))
