-- What is written reads back, and what is read was written: one payload for each claim.
-- Assumes nothing.
use Prim.Native.Nat.{ℕ, ◌<◌}
use mathlib.Core.Path.{◌≡◌, refl, sym, ap, ◌∙◌, subst}
use mathlib.Core.List.{List, [], ◌∷◌, ◌++◌}
use native.Mathlib.Omega.{arith}
use borrow.Author.Tests.{eq-eqb, eqb-true}
use lib.Dec.{eqb}
use lib.ListN.{length, take, drop}
use Rattle.wire.specs.Answer.{done, got}
use Rattle.wire.specs.Number.{Bytes}
use Rattle.wire.proofs.Cases.{passed, then_passed, got_next, got_value}
use Rattle.wire.proofs.Standing.{Stands, stands_whole, stands_all, stands_first, stands_second, stands_join, stands_as}
use Rattle.wire.specs.declared.Span.{Span}
use Rattle.wire.specs.Span.{part_at}
use Rattle.cbor.specs.Form.{string_field_of, number_field_of}
use Rattle.cbor.specs.Item.{one_at, string_field_at, number_field_at}
use Rattle.wire.specs.Ascii.{ascii}
use Rattle.cbor.proofs.Within.{string_field_within, number_field_within}
use Rattle.cbor.proofs.Written.{kind_bytes, one_back, string_field_back, number_field_back}
use Rattle.cbor.proofs.Only.{one_only, string_field_only, number_field_only}
use Rattle.auth.specs.Auth.{Claim, claim_at, auth_at, auth_of, auth_verdict}
use Rattle.auth.proofs.Verdicts.{auth_accepted, auth_accepts}

-- the claim's bytes at its places
pub record Claimed (s public sig hash : List ℕ) (v : Claim) : Type 0 where
  pub public_is : take 32 (drop v.public s) ≡ public
  pub sig_is : take 64 (drop v.sig s) ≡ sig
  pub hash_is : take 32 (drop v.hash s) ≡ hash

-- ---- what is written reads back

-- a field of k bytes
field_back : {s : List ℕ} {at next : ℕ} (k : ℕ) (name bs : List ℕ) → k < 256 → length name < 24 → length bs ≡ k → Stands s at (string_field_of name 2 bs) next
    → (v : Span) × (string_field_at s at name 2 k k 19 ≡ got v next) × (take k (drop v.start s) ≡ bs)
field_back {s} k name bs b c e h =
    let r = string_field_back 2 k k 19 kind_bytes bs (omega arith) (omega arith) (omega arith) name c h in
    let f = r.2 in
    (r.0, r.1, ap (λ (n : ℕ). take n (drop r.0.start s)) (sym (f.long ∙ e)) ∙ f.part)

module _ {s : List ℕ} (public sig hash : List ℕ) (p : length public ≡ 32) (g : length sig ≡ 64) (h : length hash ≡ 32) where
  -- the map's head and the three fields, one after the other
  pub claim_back : {at a b next : ℕ} (map : ℕ) → Stands s 0 (map ∷ []) at
      → Stands s at (string_field_of (ascii "pub") 2 public) a → Stands s a (string_field_of (ascii "sig") 2 sig) b → Stands s b (string_field_of (ascii "hash") 2 hash) next
      → (v : Claim) × (claim_at s map ≡ got v next) × Claimed s public sig hash v
  unfolding claim_at
  claim_back map h₀ h₁ h₂ h₃ =
      let r₁ = field_back 32 (ascii "pub") public (omega arith) (omega arith) p h₁ in
      let r₂ = field_back 64 (ascii "sig") sig (omega arith) (omega arith) g h₂ in
      let r₃ = field_back 32 (ascii "hash") hash (omega arith) (omega arith) h h₃ in (
        record { public = r₁.0.start; sig = r₂.0.start; hash = r₃.0.start },
        rw (one_back map h₀, r₁.1, r₂.1, r₃.1),
        record { public_is = r₁.2; sig_is = r₂.2; hash_is = r₃.2 },
      )

-- the whole payload
pub auth_back : (public sig hash : List ℕ) → length public ≡ 32 → length sig ≡ 64 → length hash ≡ 32
    → (v : Claim) × (auth_at (auth_of public sig hash) ≡ got v (length (auth_of public sig hash))) × Claimed (auth_of public sig hash) public sig hash v
unfolding auth_at auth_of
auth_back public sig hash p g h = go (auth_of public sig hash) (stands_whole (auth_of public sig hash))
  where
    P : List ℕ
    P = string_field_of (ascii "pub") 2 public

    G : List ℕ
    G = string_field_of (ascii "sig") 2 sig

    H : List ℕ
    H = string_field_of (ascii "hash") 2 hash

    N : List ℕ
    N = number_field_of (ascii "version") 1

    go : (s : List ℕ) → Stands s 0 ((0xA4 ∷ []) ++ (P ++ (G ++ (H ++ N)))) (length s) → (v : Claim) × (auth_at s ≡ got v (length s)) × Claimed s public sig hash v
    go s t₀ =
        let t₁ = stands_second (0xA4 ∷ []) (P ++ (G ++ (H ++ N))) t₀ in
        let t₂ = stands_second P (G ++ (H ++ N)) t₁ in
        let t₃ = stands_second G (H ++ N) t₂ in
        let c = claim_back public sig hash p g h 0xA4 (stands_first (0xA4 ∷ []) (P ++ (G ++ (H ++ N))) t₀)
        (stands_first P (G ++ (H ++ N)) t₁) (stands_first G (H ++ N) t₂) (stands_first H N t₃) in
        let n = number_field_back (ascii "version") 1 1 1 (omega arith) (omega arith) (omega arith) (omega arith) (stands_second H N t₃) in (
          c.0,
          rw (c.1, n, eq-eqb (length s) (length s) refl),
          c.2,
        )

-- whatever the writer accepts
pub auth_written_back : (public sig hash : List ℕ) {bs : List ℕ} → auth_verdict public sig hash ≡ done bs
    → (v : Claim) × (auth_at bs ≡ got v (length bs)) × Claimed bs public sig hash v
auth_written_back public sig hash h =
    let a = auth_accepts public sig hash h in
    subst (λ (s : List ℕ). (v : Claim) × (auth_at s ≡ got v (length s)) × Claimed s public sig hash v) a.3 (auth_back public sig hash a.0 a.1 a.2)

-- ---- what is read was written

-- a field of k bytes
field_only : {s : List ℕ} {at next : ℕ} (k : ℕ) (name : List ℕ) {v : Span} → Bytes s → string_field_at s at name 2 k k 19 ≡ got v next
    → Stands s at (string_field_of name 2 (take k (drop v.start s))) next × (length (take k (drop v.start s)) ≡ k)
field_only {s} {at} {next} k name {v} y e =
    let r = string_field_only name 2 k k 19 y e in
    let w = string_field_within s at name 2 k k 19 e in
    let l : v.len ≡ k = omega (arith, w.2, w.3) in
    let c : part_at s v ≡ take k (drop v.start s) = ap (λ (n : ℕ). take n (drop v.start s)) l in
    (stands_as (ap (string_field_of name 2) c) refl r.0, ap length (sym c) ∙ r.1 ∙ l)

-- the claim's bytes, as they stand in the input
module _ (s : List ℕ) (v : Claim) where
  abbrev pub public_in : List ℕ
  public_in = take 32 (drop v.public s)

  abbrev pub sig_in : List ℕ
  sig_in = take 64 (drop v.sig s)

  abbrev pub hash_in : List ℕ
  hash_in = take 32 (drop v.hash s)

  -- they have their lengths
  pub record Long : Type 0 where
    pub public_long : length public_in ≡ 32
    pub sig_long : length sig_in ≡ 64
    pub hash_long : length hash_in ≡ 32

-- the map's head and the three fields stand one after the other
pub record Three (s : List ℕ) (map : ℕ) (v : Claim) (next : ℕ) : Type 0 where
  pub after_head : ℕ
  pub after_public : ℕ
  pub after_sig : ℕ
  pub head_stands : Stands s 0 (map ∷ []) after_head
  pub public_stands : Stands s after_head (string_field_of (ascii "pub") 2 (public_in s v)) after_public
  pub sig_stands : Stands s after_public (string_field_of (ascii "sig") 2 (sig_in s v)) after_sig
  pub hash_stands : Stands s after_sig (string_field_of (ascii "hash") 2 (hash_in s v)) next

pub claim_only : {s : List ℕ} {next : ℕ} {v : Claim} (map : ℕ) → Bytes s → claim_at s map ≡ got v next → Three s map v next × Long s v
unfolding claim_at
claim_only {s} {next} {v} map y e =
    let t₀ = then_passed (one_at s 0 map) _ e in
    let t₁ = then_passed (string_field_at s t₀.1 (ascii "pub") 2 32 32 19) _ t₀.3 in
    let t₂ = then_passed (string_field_at s t₁.1 (ascii "sig") 2 64 64 19) _ t₁.3 in
    let t₃ = then_passed (string_field_at s t₂.1 (ascii "hash") 2 32 32 19) _ t₂.3 in
    let f : ◌≡◌ {A = Claim} (record { public = t₁.0.start; sig = t₂.0.start; hash = t₃.0.start }) v = got_value t₃.3 in
    let n : t₃.1 ≡ next = got_next t₃.3 in
    let r₁ = field_only 32 (ascii "pub") y t₁.2 in
    let r₂ = field_only 64 (ascii "sig") y t₂.2 in
    let r₃ = field_only 32 (ascii "hash") y t₃.2 in
    subst (λ (w : Claim). Three s map w next × Long s w) f (
      record { after_head = t₀.1; after_public = t₁.1; after_sig = t₂.1; head_stands = one_only map t₀.2; public_stands = r₁.0; sig_stands = r₂.0; hash_stands = stands_as refl n r₃.0 },
      record { public_long = r₁.1; sig_long = r₂.1; hash_long = r₃.1 },
    )

-- the whole payload
pub auth_only : {s : List ℕ} {v : Claim} {next : ℕ} → Bytes s → auth_at s ≡ got v next → (s ≡ auth_of (public_in s v) (sig_in s v) (hash_in s v)) × (next ≡ length s) × Long s v
unfolding auth_at auth_of
auth_only {s} {v} {next} y e =
    let t₁ = then_passed (claim_at s 0xA4) _ e in
    let t₂ = then_passed (number_field_at s t₁.1 (ascii "version") 1 1) _ t₁.3 in
    let u = passed (eqb t₂.1 (length s)) (got t₁.0 t₂.1) 3 t₂.3 in
    let f : t₁.0 ≡ v = got_value u.1 in
    let n : t₂.1 ≡ next = got_next u.1 in
    let l : t₂.1 ≡ length s = eqb-true t₂.1 (length s) u.0 in
    let c = claim_only 0xA4 y t₁.2 in
    let r = c.0 in
    let w = number_field_within s t₁.1 (ascii "version") 1 1 t₂.2 in
    let k : t₂.0 ≡ 1 = omega (arith, w.0, w.1) in
    let d : Stands s t₁.1 (number_field_of (ascii "version") 1) (length s) = stands_as (ap (number_field_of (ascii "version")) k) l (number_field_only (ascii "version") 1 1 y t₂.2) in
    subst (λ (w : Claim). (s ≡ auth_of (public_in s w) (sig_in s w) (hash_in s w)) × (next ≡ length s) × Long s w) f (
      stands_all (stands_join r.head_stands (stands_join r.public_stands (stands_join r.sig_stands (stands_join r.hash_stands d)))),
      sym n ∙ l,
      c.1,
    )

-- the writer gives the same bytes again
pub auth_again : {s : List ℕ} {v : Claim} {next : ℕ} → Bytes s → auth_at s ≡ got v next → auth_verdict (public_in s v) (sig_in s v) (hash_in s v) ≡ done s
auth_again {s} {v} y e =
    let r = auth_only y e in
    let l = r.2 in
    auth_accepted (public_in s v) (sig_in s v) (hash_in s v) l.public_long l.sig_long l.hash_long ∙ ap done (sym r.0)

-- For the reader: two inputs of bytes with one claim are one
pub auth_once : {s t : List ℕ} {v w : Claim} {i j : ℕ} → Bytes s → Bytes t → auth_at s ≡ got v i → auth_at t ≡ got w j
    → public_in s v ≡ public_in t w → sig_in s v ≡ sig_in t w → hash_in s v ≡ hash_in t w → s ≡ t
auth_once x y d e p g h = (auth_only x d).0 ∙ rw (p, g, h) (sym (auth_only y e).0)
