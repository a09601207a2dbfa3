-- What is written reads back, and what is read was written: one payload for each shard.
-- Assumes nothing.
use Prim.Native.Nat.{ℕ, ◌≤◌}
use mathlib.Core.Path.{◌≡◌, refl, sym, ap, ◌∙◌, subst}
use mathlib.Core.Logic.{⊎_elim}
use mathlib.Core.Bool.{true}
use mathlib.Core.List.{List, [], ◌∷◌, ◌++◌}
use native.Mathlib.Omega.{arith}
use borrow.Author.Tests.{eq-eqb, ne_eqb, le-leb, eqb-true, leb-true}
use lib.Dec.{eqb, leb}
use lib.ListN.{length, take, drop}
use Rattle.wire.specs.Answer.{done, got}
use Rattle.wire.specs.Number.{Bytes}
use Rattle.wire.proofs.Cases.{passed, escaped, then_passed, got_next, got_value}
use Rattle.wire.proofs.Standing.{Stands, stands_whole, stands_all, stands_first, stands_second, stands_join, stands_as}
use Rattle.wire.specs.declared.Span.{Span}
use Rattle.wire.specs.Span.{part_at}
use Rattle.cbor.specs.Form.{string_field_of, number_field_of}
use Rattle.cbor.specs.Item.{key_at, number_at, contents_at, string_at, string_field_at, number_field_at}
use Rattle.wire.specs.Ascii.{ascii}
use Rattle.cbor.proofs.Within.{contents_within, string_field_within, number_field_within}
use Rattle.cbor.proofs.Written.{Found, kind_bytes, kind_text, string_field_back, number_field_back}
use Rattle.cbor.proofs.Only.{string_field_only, number_field_only}
use Rattle.auth.specs.Auth.{Claim, claim_at}
use Rattle.auth.proofs.Rounds.{Claimed, claim_back, public_in, sig_in, hash_in, Long, Three, claim_only}
use Rattle.shard.specs.Shard.{known, padded, kind_at, content_at, quorum_at, Shard, body_at, shard_at, content_of, quorum_of, rest_of, shard_of, shard_verdict}
use Rattle.shard.specs.declared.Content.{Content}
use Rattle.shard.specs.declared.Quorum.{Quorum}
use Rattle.shard.proofs.Allowed.{Kind, AllowedContent, AllowedQuorum, Allowed, known_yes, known_passed, kind_long, length_most}
use Rattle.shard.proofs.Verdicts.{shard_accepted, shard_accepts, shard_written_most}

-- the bytes at a place
abbrev pub span_in : List ℕ → Span → List ℕ
span_in s p = take p.len (drop p.start s)

-- what stands at the places of a content
pub record Shared (s kind share : List ℕ) (len : ℕ) (v : Content) : Type 0 where
  pub kind_is : span_in s v.kind ≡ kind
  pub share_is : span_in s v.share ≡ share
  pub length_is : v.length ≡ len

-- what a shard that was read says
pub record Says (s public sig hash kind share : List ℕ) (len : ℕ) (q : Quorum) (v : Shard) : Type 0 where
  pub claim_is : Claimed s public sig hash v.claim
  pub content_is : Shared s kind share len v.content
  pub quorum_is : v.quorum ≡ q

-- ---- `type` is a text of 10 to 12 bytes, and more is asked of it

module _ (s : List ℕ) (at : ℕ) (v : Span) (next : ℕ) where
  kind_from : string_field_at s at (ascii "type") 3 10 12 19 ≡ got v next → (v.len ≡ 11 → ⊥) → known (part_at s v) ≡ true → kind_at s at ≡ got v next
  unfolding kind_at string_field_at string_at
  kind_from e n k =
      let t = then_passed (key_at s at (ascii "type")) _ e in
      let u = then_passed (number_at s t.1 3 10 12 19) _ t.3 in
      let l : v.len ≡ u.0 = (contents_within s u.1 u.0 u.3).0 in
      rw (t.2, u.2, ne_eqb u.0 11 (λ (z : u.0 ≡ 11). n (l ∙ z)), u.3, k)

  kind_string : kind_at s at ≡ got v next → (string_field_at s at (ascii "type") 3 10 12 19 ≡ got v next) × (known (part_at s v) ≡ true)
  unfolding kind_at string_field_at string_at
  kind_string e =
      let t = then_passed (key_at s at (ascii "type")) _ e in
      let u = then_passed (number_at s t.1 3 10 12 19) _ t.3 in
      let w = escaped (eqb u.0 11) _ 19 u.3 in
      let x = then_passed (contents_at s u.1 u.0) _ w.1 in
      let z = passed (known (part_at s x.0)) (got x.0 x.1) 19 x.3 in
      let f : x.0 ≡ v = got_value z.1 in
      (rw (t.2, u.2) (x.2 ∙ z.1), ap (λ (p : Span). known (part_at s p)) (sym f) ∙ z.0)

-- ---- what is written reads back

module _ {s : List ℕ} {at next : ℕ} where
  pub kind_back : (kind : List ℕ) → Kind kind → Stands s at (string_field_of (ascii "type") 3 kind) next → (v : Span) × (kind_at s at ≡ got v next) × Found s kind v
  kind_back kind k h =
      let l = kind_long kind k in
      let a : 10 ≤ length kind = ⊎_elim (λ (e : length kind ≡ 10). omega arith) (λ (e : length kind ≡ 12). omega arith) l in
      let b : length kind ≤ 12 = ⊎_elim (λ (e : length kind ≡ 10). omega arith) (λ (e : length kind ≡ 12). omega arith) l in
      let r = string_field_back 3 10 12 19 kind_text kind (omega arith) a b (ascii "type") (omega arith) h in
      let f = r.2 in
      let n : r.0.len ≡ 11 → ⊥ =
      λ (e : r.0.len ≡ 11). ⊎_elim (λ (m : length kind ≡ 10). omega (arith, f.long)) (λ (m : length kind ≡ 12). omega (arith, f.long)) l in
      (r.0, kind_from s at r.0 next r.1 n (ap known f.part ∙ known_yes kind k), f)

module _ {s : List ℕ} {at next : ℕ} where
  pub content_back : (kind share : List ℕ) (len : ℕ) → AllowedContent kind share len → Stands s at (content_of kind share len) next
      → (v : Content) × (content_at s at ≡ got v next) × Shared s kind share len v
  unfolding content_at content_of
  content_back kind share len a h =
      let K : List ℕ = string_field_of (ascii "type") 3 kind in
      let S : List ℕ = string_field_of (ascii "share") 2 share in
      let L : List ℕ = number_field_of (ascii "length") len in
      let m = length_most kind share len a in
      let h₂ = stands_second K (S ++ L) h in
      let k = kind_back kind a.type (stands_first K (S ++ L) h) in
      let r = string_field_back 2 0 224 19 kind_bytes share (omega (arith, a.most)) (omega arith) a.most (ascii "share") (omega arith) (stands_first S L h₂) in
      let n = number_field_back (ascii "length") 1 0xFFFFFFFFFFFFFFFF len (omega arith) (omega arith) a.least (omega arith) (stands_second S L h₂) in
      let f = k.2 in
      let g = r.2 in (
        record { kind = k.0; share = r.0; length = len },
        rw (k.1, r.1, n, eq-eqb r.0.len (padded len) (g.long ∙ a.whole)),
        record { kind_is = f.part; share_is = g.part; length_is = refl },
      )

  pub quorum_back : (q : Quorum) → AllowedQuorum q → Stands s at (quorum_of q) next → quorum_at s at ≡ got q next
  unfolding quorum_at quorum_of
  quorum_back q a h =
      let T : List ℕ = number_field_of (ascii "threshold") q.threshold in
      let C : List ℕ = number_field_of (ascii "share_count") q.count in
      let I : List ℕ = number_field_of (ascii "share_index") q.index in
      let e = a.enough in
      let m = a.most in
      let l = a.last in
      let o = a.some in
      let h₂ = stands_second T (C ++ I) h in
      let t = number_field_back (ascii "threshold") 1 255 q.threshold (omega arith) (omega arith) o (omega arith) (stands_first T (C ++ I) h) in
      let c = number_field_back (ascii "share_count") 1 255 q.count (omega arith) (omega arith) (omega arith) m (stands_first C I h₂) in
      let i = number_field_back (ascii "share_index") 1 255 q.index (omega arith) (omega arith) a.first (omega arith) (stands_second C I h₂) in
      rw (t, c, le-leb q.threshold q.count e, i, le-leb q.index q.count l)

-- the whole payload
pub shard_back : (public sig hash kind share : List ℕ) (len : ℕ) (q : Quorum) → Allowed public sig hash kind share len q
    → (v : Shard) × (shard_at (shard_of public sig hash kind share len q) ≡ got v (length (shard_of public sig hash kind share len q)))
    × Says (shard_of public sig hash kind share len q) public sig hash kind share len q v
unfolding shard_at body_at shard_of rest_of
shard_back public sig hash kind share len q a = go (shard_of public sig hash kind share len q) (stands_whole (shard_of public sig hash kind share len q))
  where
    P : List ℕ
    P = string_field_of (ascii "pub") 2 public

    G : List ℕ
    G = string_field_of (ascii "sig") 2 sig

    H : List ℕ
    H = string_field_of (ascii "hash") 2 hash

    C : List ℕ
    C = content_of kind share len

    N : List ℕ
    N = number_field_of (ascii "version") 1

    Q : List ℕ
    Q = quorum_of q

    go : (s : List ℕ) → Stands s 0 ((0xAA ∷ []) ++ (P ++ (G ++ (H ++ (C ++ (N ++ Q)))))) (length s)
        → (v : Shard) × (shard_at s ≡ got v (length s)) × Says s public sig hash kind share len q v
    go s t₀ =
        let t₁ = stands_second (0xAA ∷ []) (P ++ (G ++ (H ++ (C ++ (N ++ Q))))) t₀ in
        let t₂ = stands_second P (G ++ (H ++ (C ++ (N ++ Q)))) t₁ in
        let t₃ = stands_second G (H ++ (C ++ (N ++ Q))) t₂ in
        let t₄ = stands_second H (C ++ (N ++ Q)) t₃ in
        let t₅ = stands_second C (N ++ Q) t₄ in
        let m = claim_back public sig hash a.public_long a.sig_long a.rest.hash_long 0xAA (stands_first (0xAA ∷ []) (P ++ (G ++ (H ++ (C ++ (N ++ Q))))) t₀)
        (stands_first P (G ++ (H ++ (C ++ (N ++ Q)))) t₁) (stands_first G (H ++ (C ++ (N ++ Q))) t₂) (stands_first H (C ++ (N ++ Q)) t₃) in
        let c = content_back kind share len a.rest.content (stands_first C (N ++ Q) t₄) in
        let n = number_field_back (ascii "version") 1 1 1 (omega arith) (omega arith) (omega arith) (omega arith) (stands_first N Q t₅) in
        let b = quorum_back q a.rest.quorum (stands_second N Q t₅) in (
          record { claim = m.0; content = c.0; quorum = q },
          rw (m.1, c.1, n, b, eq-eqb (length s) (length s) refl),
          record { claim_is = m.2; content_is = c.2; quorum_is = refl },
        )

-- whatever the writer accepts
pub shard_written_back : (public sig hash kind share : List ℕ) (len : ℕ) (q : Quorum) {bs : List ℕ} → shard_verdict public sig hash kind share len q ≡ done bs
    → (v : Shard) × (shard_at bs ≡ got v (length bs)) × Says bs public sig hash kind share len q v
shard_written_back public sig hash kind share len q h =
    let a = shard_accepts hash kind share len q public sig h in
    subst (λ (s : List ℕ). (v : Shard) × (shard_at s ≡ got v (length s)) × Says s public sig hash kind share len q v) a.1 (shard_back public sig hash kind share len q a.0)

-- ---- what is read was written

pub kind_only : {s : List ℕ} {at next : ℕ} → Bytes s → {v : Span} → kind_at s at ≡ got v next → Stands s at (string_field_of (ascii "type") 3 (part_at s v)) next × Kind (part_at s v)
kind_only {s} {at} {next} y {v} e =
    let k = kind_string s at v next e in
    ((string_field_only (ascii "type") 3 10 12 19 y k.0).0, known_passed (part_at s v) k.1)

module _ {s : List ℕ} {at next : ℕ} (y : Bytes s) where
  pub content_only : {v : Content} → content_at s at ≡ got v next
      → Stands s at (content_of (span_in s v.kind) (span_in s v.share) v.length) next × AllowedContent (span_in s v.kind) (span_in s v.share) v.length
  unfolding content_at content_of
  content_only {v} e =
      let t₁ = then_passed (kind_at s at) _ e in
      let t₂ = then_passed (string_field_at s t₁.1 (ascii "share") 2 0 224 19) _ t₁.3 in
      let t₃ = then_passed (number_field_at s t₂.1 (ascii "length") 1 0xFFFFFFFFFFFFFFFF) _ t₂.3 in
      let u = passed (eqb t₂.0.len (padded t₃.0)) (got (record { kind = t₁.0; share = t₂.0; length = t₃.0 }) t₃.1) 19 t₃.3 in
      let f : ◌≡◌ {A = Content} (record { kind = t₁.0; share = t₂.0; length = t₃.0 }) v = got_value u.1 in
      let n : t₃.1 ≡ next = got_next u.1 in
      let r₁ = kind_only y t₁.2 in
      let r₂ = string_field_only (ascii "share") 2 0 224 19 y t₂.2 in
      let r₃ = number_field_only (ascii "length") 1 0xFFFFFFFFFFFFFFFF y t₃.2 in
      let b = string_field_within s t₁.1 (ascii "share") 2 0 224 19 t₂.2 in
      subst (λ (w : Content). Stands s at (content_of (span_in s w.kind) (span_in s w.share) w.length) next × AllowedContent (span_in s w.kind) (span_in s w.share) w.length) f (
        stands_join r₁.0 (stands_join r₂.0 (stands_as refl n r₃)),
        record {
          type = r₁.1;
          most = omega (arith, r₂.1, b.3);
          least = (number_field_within s t₂.1 (ascii "length") 1 0xFFFFFFFFFFFFFFFF t₃.2).0;
          whole = r₂.1 ∙ eqb-true t₂.0.len (padded t₃.0) u.0;
        },
      )

  pub quorum_only : {q : Quorum} → quorum_at s at ≡ got q next → Stands s at (quorum_of q) next × AllowedQuorum q
  unfolding quorum_at quorum_of
  quorum_only {q} e =
      let t₁ = then_passed (number_field_at s at (ascii "threshold") 1 255) _ e in
      let t₂ = then_passed (number_field_at s t₁.1 (ascii "share_count") 1 255) _ t₁.3 in
      let u₂ = passed (leb t₁.0 t₂.0) _ 19 t₂.3 in
      let t₃ = then_passed (number_field_at s t₂.1 (ascii "share_index") 1 255) _ u₂.1 in
      let u₃ = passed (leb t₃.0 t₂.0) (got (record { threshold = t₁.0; count = t₂.0; index = t₃.0 }) t₃.1) 19 t₃.3 in
      let f : ◌≡◌ {A = Quorum} (record { threshold = t₁.0; count = t₂.0; index = t₃.0 }) q = got_value u₃.1 in
      let n : t₃.1 ≡ next = got_next u₃.1 in
      let r₁ = number_field_only (ascii "threshold") 1 255 y t₁.2 in
      let r₂ = number_field_only (ascii "share_count") 1 255 y t₂.2 in
      let r₃ = number_field_only (ascii "share_index") 1 255 y t₃.2 in
      subst (λ (w : Quorum). Stands s at (quorum_of w) next × AllowedQuorum w) f (
        stands_join r₁ (stands_join r₂ (stands_as refl n r₃)),
        record {
          some = (number_field_within s at (ascii "threshold") 1 255 t₁.2).0;
          enough = leb-true t₁.0 t₂.0 u₂.0;
          most = (number_field_within s t₁.1 (ascii "share_count") 1 255 t₂.2).1;
          first = (number_field_within s t₂.1 (ascii "share_index") 1 255 t₃.2).0;
          last = leb-true t₃.0 t₂.0 u₃.0;
        },
      )

-- a shard's values, as they stand in the input
module _ (s : List ℕ) (v : Shard) where
  abbrev pub kind_in : List ℕ
  kind_in = span_in s v.content.kind

  abbrev pub share_in : List ℕ
  share_in = span_in s v.content.share

  -- their payload
  abbrev pub form_in : List ℕ
  form_in = shard_of (public_in s v.claim) (sig_in s v.claim) (hash_in s v.claim) kind_in share_in v.content.length v.quorum

  abbrev pub AllowedIn : Type 0
  AllowedIn = Allowed (public_in s v.claim) (sig_in s v.claim) (hash_in s v.claim) kind_in share_in v.content.length v.quorum

-- behind the claim
body_only : {s : List ℕ} {at next : ℕ} {claim : Claim} {v : Shard} → Bytes s → body_at s at claim ≡ got v next
    → (v.claim ≡ claim) × (next ≡ length s)
    × Stands s at (content_of (kind_in s v) (share_in s v) v.content.length ++ (number_field_of (ascii "version") 1 ++ quorum_of v.quorum)) (length s)
    × AllowedContent (kind_in s v) (share_in s v) v.content.length × AllowedQuorum v.quorum
unfolding body_at
body_only {s} {at} {next} {claim} {v} y e =
    let t₁ = then_passed (content_at s at) _ e in
    let t₂ = then_passed (number_field_at s t₁.1 (ascii "version") 1 1) _ t₁.3 in
    let t₃ = then_passed (quorum_at s t₂.1) _ t₂.3 in
    let u = passed (eqb t₃.1 (length s)) (got (record { claim = claim; content = t₁.0; quorum = t₃.0 }) t₃.1) 3 t₃.3 in
    let f : ◌≡◌ {A = Shard} (record { claim = claim; content = t₁.0; quorum = t₃.0 }) v = got_value u.1 in
    let n : t₃.1 ≡ next = got_next u.1 in
    let l : t₃.1 ≡ length s = eqb-true t₃.1 (length s) u.0 in
    let r₁ = content_only y t₁.2 in
    let w = number_field_within s t₁.1 (ascii "version") 1 1 t₂.2 in
    let k : t₂.0 ≡ 1 = omega (arith, w.0, w.1) in
    let r₂ = stands_as (ap (number_field_of (ascii "version")) k) refl (number_field_only (ascii "version") 1 1 y t₂.2) in
    let r₃ = quorum_only y t₃.2 in
    subst (λ (w : Shard). (w.claim ≡ claim) × (next ≡ length s)
    × Stands s at (content_of (kind_in s w) (share_in s w) w.content.length ++ (number_field_of (ascii "version") 1 ++ quorum_of w.quorum)) (length s)
    × AllowedContent (kind_in s w) (share_in s w) w.content.length × AllowedQuorum w.quorum) f
    (refl, sym n ∙ l, stands_join r₁.0 (stands_join r₂ (stands_as refl l r₃.0)), r₁.1, r₃.1)

-- the whole payload
pub shard_only : {s : List ℕ} {v : Shard} {next : ℕ} → Bytes s → shard_at s ≡ got v next → (s ≡ form_in s v) × (next ≡ length s) × AllowedIn s v
unfolding shard_at shard_of rest_of
shard_only {s} {v} {next} y e =
    let t = then_passed (claim_at s 0xAA) _ e in
    let b = body_only y t.3 in
    let c : Three s 0xAA v.claim t.1 × Long s v.claim =
    subst (λ (w : Claim). Three s 0xAA w t.1 × Long s w) (sym b.0) (claim_only 0xAA y t.2) in
    let r = c.0 in
    let o = c.1 in (
      stands_all (stands_join r.head_stands (stands_join r.public_stands (stands_join r.sig_stands (stands_join r.hash_stands b.2)))),
      b.1,
      record {
        public_long = o.public_long;
        sig_long = o.sig_long;
        rest = record { hash_long = o.hash_long; content = b.3; quorum = b.4 };
      },
    )

-- the writer gives the same bytes again
pub shard_again : {s : List ℕ} {v : Shard} {next : ℕ} → Bytes s → shard_at s ≡ got v next
    → shard_verdict (public_in s v.claim) (sig_in s v.claim) (hash_in s v.claim) (kind_in s v) (share_in s v) v.content.length v.quorum ≡ done s
shard_again {s} {v} y e =
    let r = shard_only y e in
    shard_accepted (hash_in s v.claim) (kind_in s v) (share_in s v) v.content.length v.quorum (public_in s v.claim) (sig_in s v.claim) r.2 ∙ ap done (sym r.0)

-- For the reader: so what is read is no longer than what is written, and from 457 bytes on the
-- reader refuses
pub shard_read_most : (s : List ℕ) {v : Shard} {next : ℕ} → Bytes s → shard_at s ≡ got v next → length s ≤ 456
shard_read_most s {v} y e =
    shard_written_most (hash_in s v.claim) (kind_in s v) (share_in s v) v.content.length v.quorum (public_in s v.claim) (sig_in s v.claim) (shard_again y e)

-- For the reader: two inputs of bytes that say the same are one
pub shard_once : {s t public sig hash kind share : List ℕ} {len : ℕ} {q : Quorum} {v w : Shard} {i j : ℕ} → Bytes s → Bytes t → shard_at s ≡ got v i → shard_at t ≡ got w j
    → Says s public sig hash kind share len q v → Says t public sig hash kind share len q w → s ≡ t
shard_once {s} {t} {public} {sig} {hash} {kind} {share} {len} {q} {v} {w} x y d e g h = one x d g ∙ sym (one y e h)
  where
    one : {s : List ℕ} {v : Shard} {i : ℕ} → Bytes s → shard_at s ≡ got v i → Says s public sig hash kind share len q v → s ≡ shard_of public sig hash kind share len q
    one x d g =
        let a = g.claim_is in
        let b = g.content_is in
        (shard_only x d).0 ∙ rw (a.public_is, a.sig_is, a.hash_is, b.kind_is, b.share_is, b.length_is, g.quorum_is)
