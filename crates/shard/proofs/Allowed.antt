-- The values that R11.2 to R11.6 allow a shard, and the writer's tests that say so.
-- Assumes nothing.
use Prim.Native.Nat.{ℕ, ◌≤◌}
use mathlib.Core.Path.{◌≡◌, refl, sym, ◌∙◌}
use mathlib.Core.Logic.{◌⊎◌, inl, inr, ⊎_elim}
use mathlib.Core.Bool.{Bool, true, false, not, ◌&&◌, ◌||◌, false≢true}
use mathlib.Core.List.{List, []}
use native.Mathlib.Omega.{arith}
use borrow.Author.Tests.{le-leb, eq-eqb, leb-true, leb-false, eqb-true}
use lib.Dec.{leb, eqb}
use lib.ListN.{length}
use Rattle.wire.specs.Answer.{Answer, done, number_of, demand}
use Rattle.wire.proofs.Cases.{both_hold, said_yes, said_no}
use Rattle.lend.specs.Same.{same}
use Rattle.lend.proofs.Sames.{same_refl, same_eq}
use Rattle.shard.specs.Shard.{passphrase, signing_seed, known, padded, small, rest_verdict}
use Rattle.shard.specs.declared.Quorum.{Quorum}

abbrev pub Kind : List ℕ → Type 0
Kind kind = (kind ≡ passphrase) ⊎ (kind ≡ signing_seed)

pub record AllowedContent (kind share : List ℕ) (len : ℕ) : Type 0 where
  pub type : Kind kind
  pub most : length share ≤ 224
  pub least : 1 ≤ len
  pub whole : length share ≡ padded len

pub record AllowedQuorum (q : Quorum) : Type 0 where
  pub some : 1 ≤ q.threshold
  pub enough : q.threshold ≤ q.count
  pub most : q.count ≤ 255
  pub first : 1 ≤ q.index
  pub last : q.index ≤ q.count

pub record AllowedRest (hash kind share : List ℕ) (len : ℕ) (q : Quorum) : Type 0 where
  pub hash_long : length hash ≡ 32
  pub content : AllowedContent kind share len
  pub quorum : AllowedQuorum q

pub record Allowed (public sig hash kind share : List ℕ) (len : ℕ) (q : Quorum) : Type 0 where
  pub public_long : length public ≡ 32
  pub sig_long : length sig ≡ 64
  pub rest : AllowedRest hash kind share len q

-- ---- the rules from `hash` on as one test

unfoldable pub content_fits : List ℕ → List ℕ → ℕ → Bool
content_fits kind share len = known kind && (leb (length share) 224 && (leb 1 len && eqb (length share) (padded len)))

unfoldable pub quorum_fits : Quorum → Bool
quorum_fits q =
    small q.threshold && (small q.count && (leb q.threshold q.count && (small q.index && leb q.index q.count)))

unfoldable pub rest_fits : (hash kind share : List ℕ) (len : ℕ) (q : Quorum) → Bool
rest_fits hash kind share len q = eqb (length hash) 32 && (content_fits kind share len && quorum_fits q)

-- two rules in turn are one
both_demanded : {A : Type 0} (a b : Bool) (x : Answer A) → demand (a && b) 19 x ≡ demand a 19 (demand b 19 x)
both_demanded true b x = refl
both_demanded false b x = refl

-- ---- type

pub known_yes : (kind : List ℕ) → Kind kind → known kind ≡ true
unfolding known
known_yes kind (inl e) = rw (e, same_refl passphrase)
known_yes kind (inr e) = rw (e, same_refl signing_seed) (either (same signing_seed passphrase))
  where
    either : (t : Bool) → (t || true) ≡ true
    either true = refl
    either false = refl

pub known_passed : (kind : List ℕ) → known kind ≡ true → Kind kind
unfolding known
known_passed kind h = go (same kind passphrase) refl h
  where
    go : (t : Bool) → same kind passphrase ≡ t → (t || same kind signing_seed) ≡ true → Kind kind
    go true e h = inl (same_eq kind passphrase e)
    go false e h = inr (same_eq kind signing_seed h)

-- it has 10 or 12 bytes
pub kind_long : (kind : List ℕ) → Kind kind → (length kind ≡ 10) ⊎ (length kind ≡ 12)
kind_long kind (inl e) = inl (rw e refl)
kind_long kind (inr e) = inr (rw e refl)

pub kind_most : (kind : List ℕ) → Kind kind → length kind ≤ 12
kind_most kind k = ⊎_elim (λ (e : length kind ≡ 10). omega arith) (λ (e : length kind ≡ 12). omega arith) (kind_long kind k)

-- ---- what is shared

module _ (kind share : List ℕ) (len : ℕ) where
  pub content_yes : AllowedContent kind share len → content_fits kind share len ≡ true
  unfolding content_fits
  content_yes a =
      rw (known_yes kind a.type, le-leb (length share) 224 a.most, le-leb 1 len a.least) (eq-eqb (length share) (padded len) a.whole)

  pub content_passed : content_fits kind share len ≡ true → AllowedContent kind share len
  unfolding content_fits
  content_passed h =
      let a = both_hold (known kind) _ h in
      let b = both_hold (leb (length share) 224) _ a.1 in
      let c = both_hold (leb 1 len) _ b.1 in
      record {
        type = known_passed kind a.0;
        most = leb-true (length share) 224 b.0;
        least = leb-true 1 len c.0;
        whole = eqb-true (length share) (padded len) c.1;
      }

  -- the whole is no longer than a share may be
  pub length_most : AllowedContent kind share len → len ≤ 224
  unfolding padded
  length_most a = omega (arith, a.whole, a.most)

-- ---- which share of how many

module _ (n : ℕ) where
  pub small_yes : 1 ≤ n → n ≤ 255 → small n ≡ true
  unfolding small
  small_yes a b = rw (le-leb 1 n a) (le-leb n 255 b)

  pub small_passed : small n ≡ true → (1 ≤ n) × (n ≤ 255)
  unfolding small
  small_passed h = let a = both_hold (leb 1 n) (leb n 255) h in (leb-true 1 n a.0, leb-true n 255 a.1)

module _ (q : Quorum) where
  pub quorum_yes : AllowedQuorum q → quorum_fits q ≡ true
  unfolding quorum_fits
  quorum_yes a =
      rw (
        small_yes q.threshold a.some (omega (arith, a.enough, a.most)),
        small_yes q.count (omega (arith, a.some, a.enough)) a.most,
        le-leb q.threshold q.count a.enough,
        small_yes q.index a.first (omega (arith, a.last, a.most)),
      ) (le-leb q.index q.count a.last)

  pub quorum_passed : quorum_fits q ≡ true → AllowedQuorum q
  unfolding quorum_fits
  quorum_passed h =
      let a = both_hold (small q.threshold) _ h in
      let b = both_hold (small q.count) _ a.1 in
      let c = both_hold (leb q.threshold q.count) _ b.1 in
      let d = both_hold (small q.index) _ c.1 in
      record {
        some = (small_passed q.threshold a.0).0;
        enough = leb-true q.threshold q.count c.0;
        most = (small_passed q.count b.0).1;
        first = (small_passed q.index d.0).0;
        last = leb-true q.index q.count d.1;
      }

-- ---- from `hash` on

module _ (hash kind share : List ℕ) (len : ℕ) (q : Quorum) where
  pub rest_yes : AllowedRest hash kind share len q → rest_fits hash kind share len q ≡ true
  unfolding rest_fits
  rest_yes a = rw (eq-eqb (length hash) 32 a.hash_long, content_yes kind share len a.content) (quorum_yes q a.quorum)

  pub rest_passed : rest_fits hash kind share len q ≡ true → AllowedRest hash kind share len q
  unfolding rest_fits
  rest_passed h =
      let a = both_hold (eqb (length hash) 32) _ h in
      let b = both_hold (content_fits kind share len) (quorum_fits q) a.1 in
      record {
        hash_long = eqb-true (length hash) 32 a.0;
        content = content_passed kind share len b.0;
        quorum = quorum_passed q b.1;
      }

  pub rest_listed : (form : List ℕ) → rest_verdict hash kind share len q form ≡ demand (rest_fits hash kind share len q) 19 (done form)
  unfolding rest_verdict rest_fits content_fits quorum_fits
  rest_listed form = simp both_demanded

-- ---- what the code answers for it

module _ (hash kind share : List ℕ) (len : ℕ) (q : Quorum) where
  abbrev Told : Bool → Type 0
  Told r = r ≡ eqb (number_of (rest_verdict hash kind share len q [])) 0

  fits_told : Told (rest_fits hash kind share len q)
  fits_told = rw (rest_listed hash kind share len q []) (go (rest_fits hash kind share len q))
    where
      go : (t : Bool) → t ≡ eqb (number_of (demand {A = List ℕ} t 19 (done []))) 0
      go true = refl
      go false = refl

  pub told_fits : (r : Bool) → Told r → r ≡ rest_fits hash kind share len q
  told_fits r e = e ∙ sym fits_told

  -- a rule is broken
  pub rest_no : (AllowedRest hash kind share len q → ⊥) → Told false
  rest_no n = go (rest_fits hash kind share len q) refl
    where
      go : (t : Bool) → rest_fits hash kind share len q ≡ t → Told false
      go true e = absurd (n (rest_passed hash kind share len q e))
      go false e = sym e ∙ fits_told

  pub rest_unknown : (r : Bool) → r ≡ known kind → not r ≡ true → Told false
  rest_unknown r e h = rest_no (λ a. false≢true (sym (said_no r (known kind) e h) ∙ known_yes kind a.content.type))

  pub rest_unfilled : (r : Bool) → r ≡ eqb (length share) (padded len) → not r ≡ true → Told false
  rest_unfilled r e h = rest_no (λ a. false≢true (sym (said_no r _ e h) ∙ eq-eqb (length share) (padded len) a.content.whole))

  -- all that the code asks before its last test: what is at most `share_count` needs no bound of
  -- its own above
  pub rest_last : (k f : Bool) → length hash ≡ 32 → k ≡ known kind → not k ≡ false → length share ≤ 224 → 1 ≤ len
      → f ≡ eqb (length share) (padded len) → not f ≡ false
      → 1 ≤ q.threshold → q.threshold ≤ q.count → 1 ≤ q.index → q.index ≤ q.count → Told (leb q.count 255)
  rest_last k f h ke kh m l fe fh some enough first last = go (leb q.count 255) refl
    where
      content : AllowedContent kind share len
      content = record { type = known_passed kind (said_yes k _ ke kh); most = m; least = l; whole = eqb-true (length share) (padded len) (said_yes f _ fe fh) }

      go : (t : Bool) → leb q.count 255 ≡ t → Told t
      go true e =
          sym (rest_yes hash kind share len q (record {
            hash_long = h;
            content = content;
            quorum = record { some = some; enough = enough; most = leb-true q.count 255 e; first = first; last = last };
          })) ∙ fits_told
      go false e = rest_no (λ a. omega (arith, a.quorum.most, leb-false q.count 255 e))
