-- What the code has of slips: their payloads by their numbers, and what a payload says.
-- Assumes nothing.
use mathlib.Core.Path.{◌≡◌, refl, sym, ap, ap₂, ◌∙◌, subst}
use mathlib.Core.Bool.{Bool, true, false, false≢true, ◌&&◌}
use Rattle.std.specs.Result.{is_ok, result_unwrap_or}
use mathlib.Core.List.{List, [], ◌∷◌}
use Prim.Native.Nat.{ℕ, zero, suc, ◌*◌, ◌<◌, ◌≤◌, min}
use native.Mathlib.Nat.{le_of_suc-le-suc, not-suc-le-zero}
use native.Mathlib.Omega.{arith}
use lib.ListN.{length, get_or, take, drop}
use Rattle.wire.specs.Answer.{Answer, done, refused_at}
use Rattle.wire.specs.Number.{Bytes, number}
use Rattle.wire.specs.Span.{part_at}
use Rattle.lend.specs.Same.{same}
use Rattle.shard.specs.Shard.{Shard, shard_at}
use Rattle.shard.specs.Answer.{shard_told}
use Rattle.shard.specs.declared.Shard as read
use Rattle.std.specs.Prelude.{Result, Ok, Err}
use Rattle.wire.specs.declared.Refusal.{Refusal}
use Rattle.shard.proofs.Allowed.{length_most}
use Rattle.shard.proofs.Rounds.{shard_only}
use Rattle.field.specs.Element.{joined, halves, filled, block}
use Rattle.field.proofs.Elements.{joined_halves}
use Rattle.recover.specs.Recover.{slip_of, slips_at, block_of}
use Rattle.recover.specs.Private.{blank, is_done, reads, shard_from, shard_in, slip_in, said_shard}

-- ---- payloads

pub slip_at : (s starts lens : List ℕ) (i : ℕ) → i < length starts → i < length lens
    → part_at s (record { start = get_or starts i 0; len = get_or lens i 0 }) ≡ get_or (slips_at s starts lens) i []
unfolding slips_at
slip_at s [] lens i h k = absurd (not-suc-le-zero h)
slip_at s (a ∷ starts) [] i h k = absurd (not-suc-le-zero k)
slip_at s (a ∷ starts) (n ∷ lens) zero h k = refl
slip_at s (a ∷ starts) (n ∷ lens) (suc i) h k = slip_at s starts lens i (le_of_suc-le-suc h) (le_of_suc-le-suc k)

pub slips_long : (s starts lens : List ℕ) → length (slips_at s starts lens) ≡ min (length starts) (length lens)
unfolding slips_at
slips_long s [] lens = omega arith
slips_long s (a ∷ starts) [] = omega arith
slips_long s (a ∷ starts) (n ∷ lens) = omega (arith, slips_long s starts lens)

-- ---- what a payload says

module _ (s : List ℕ) where
  pub said_or : (r : Result read.Shard Refusal) (z : read.Shard) → shard_told r ≡ shard_at s → said_shard z ≡ blank → said_shard (result_unwrap_or r z) ≡ shard_in s
  unfolding shard_in
  said_or (Ok v) z h e = ap shard_from h
  said_or (Err n) z h e = e ∙ ap shard_from h

  pub reads_ok : (r : Result read.Shard Refusal) → shard_told r ≡ shard_at s → is_ok r ≡ reads s
  unfolding reads
  reads_ok (Ok v) h = ap is_done h
  reads_ok (Err n) h = ap is_done h

-- three tests, one after the other
pub all_three : (v : Bool) {p q t P Q R : Bool} → p ≡ P → p ≡ true → q ≡ Q → v ≡ q → v ≡ true → t ≡ R → t ≡ (P && (Q && R))
all_three v e f g h k l = rw (← e, f, ← g, ← h, k) l

pub one_first : (v : Bool) {p P : Bool} (Q : Bool) → p ≡ P → p ≡ false → v ≡ false → v ≡ (P && Q)
one_first v Q e f h = rw (← e, f) h

pub one_second : (v : Bool) {p q P Q : Bool} (R : Bool) → p ≡ P → p ≡ true → q ≡ Q → v ≡ q → v ≡ false → v ≡ (P && (Q && R))
one_second v R e f g h k = rw (← e, f, ← g, ← h, k)

pub not_both : {A : Type 0} (v p : Bool) → v ≡ p → p ≡ false → v ≡ true → A
not_both v p e f g = absurd (false≢true (sym (e ∙ f) ∙ g))

-- a comparison of what two calls lent back
pub compared : (r : Bool) (x y p q : List ℕ) → r ≡ same x y → x ≡ p → y ≡ q → r ≡ same p q
compared r x y p q e h k = e ∙ ap₂ same h k

pub slip_said : (s : List ℕ) (v : Shard) → v ≡ shard_in s → slip_of s v ≡ slip_in s
unfolding slip_in
slip_said s v e = ap (slip_of s) e

pub index_said : (s : List ℕ) (v : Shard) → v ≡ shard_in s → v.quorum.index ≡ (slip_in s).index
unfolding slip_in slip_of
index_said s v e = ap (λ (u : Shard). u.quorum.index) e

-- the number of a slip is one of 0 to 255
pub index_small : (s : List ℕ) (v : Shard) → v ≡ shard_in s → Bytes s → v.quorum.index < 256
unfolding shard_in
index_small s v h y = subst (λ (u : Shard). u.quorum.index < 256) (sym h) (go (shard_at s) refl)
  where
    go : (a : Answer (Shard × ℕ)) → shard_at s ≡ a → (shard_from a).quorum.index < 256
    go (done (v, next)) e = let q = (shard_only y e).2.rest.quorum in omega (arith, q.last, q.most)
    go (refused_at n k) e = omega arith

-- what is needed of it, and how long its secret is: within what the rules allow
pub terms_said : (s : List ℕ) (v : Shard) → v ≡ shard_in s → Bytes s
    → (v.quorum.threshold ≡ (slip_in s).threshold) × (v.content.length ≡ (slip_in s).len) × (v.quorum.threshold ≤ 255) × (v.content.length ≤ 224)
unfolding slip_in slip_of shard_in
terms_said s v h y =
    let b = go (shard_at s) refl in (
      ap (λ (u : Shard). u.quorum.threshold) h,
      ap (λ (u : Shard). u.content.length) h,
      subst (λ (u : Shard). u.quorum.threshold ≤ 255) (sym h) b.0,
      subst (λ (u : Shard). u.content.length ≤ 224) (sym h) b.1,
    )
  where
    go : (a : Answer (Shard × ℕ)) → shard_at s ≡ a → ((shard_from a).quorum.threshold ≤ 255) × ((shard_from a).content.length ≤ 224)
    go (done (v, next)) e =
        let r = (shard_only y e).2.rest in
        (omega (arith, r.quorum.enough, r.quorum.most), length_most _ _ _ r.content)
    go (refused_at n k) e = (omega arith, omega arith)

-- ---- a block of its share

filled_take : (n : ℕ) (bs : List ℕ) → filled n (take n bs) ≡ filled n bs
unfolding filled
filled_take zero bs = refl
filled_take (suc n) [] = refl
filled_take (suc n) (b ∷ bs) = ap {B = List ℕ} (λ (l : List ℕ). b ∷ l) (filled_take n bs)

pub block_said : (s : List ℕ) (v : Shard) (k : ℕ) (share part r : List ℕ) → v ≡ shard_in s → share ≡ part_at s v.content.share
    → part ≡ take 16 (drop (k * 16) share) → r ≡ halves (block part) → joined r ≡ block_of k (slip_in s)
unfolding block block_of slip_in slip_of
block_said s v k share part r e f g h =
    ap joined h ∙ joined_halves (block part)
    ∙ ap block g ∙ ap (λ (l : List ℕ). number 256 l) (filled_take 16 (drop (k * 16) share))
    ∙ ap (λ (l : List ℕ). block (drop (k * 16) l)) (f ∙ ap (λ (u : Shard). part_at s u.content.share) e)
