-- Shares as the loops make them: a block behind the blocks before it, a share behind the shares
-- before it. Assumes nothing.
use mathlib.Core.Path.{◌≡◌, refl, sym, ap, ap₂, ◌∙◌}
use mathlib.Core.List.{List, ◌∷◌, ◌++◌, append-nil, append_assoc}
use Prim.Native.Nat.{ℕ, zero, suc, ◌+◌, ◌*◌, ◌<◌, ◌≤◌}
use native.Mathlib.Nat.{suc-mul, zero-mul, add_comm, add-zero, mul-le-mul_right}
use native.Mathlib.Omega.{arith}
use lib.ListN.{length, drop, length-append}
use lib.Seq.{drop-drop}
use Rattle.wire.specs.Number.{big_endian}
use Rattle.wire.proofs.Digits.{length_digits}
use Rattle.field.specs.Element.{block}
use Rattle.curve.specs.Curve.{value_at, blocks}
use Rattle.split.specs.Private.{block_of}
use Rattle.split.specs.Split.{share_of, shares_from}

further : (k m : ℕ) (l : List ℕ) → drop (k * m) (drop m l) ≡ drop (suc k * m) l
further k m l = drop-drop (k * m) m l ∙ ap (λ (n : ℕ). drop n l) (let e : m + k * m ≡ suc k * m = add_comm m (k * m) ∙ sym (suc-mul k m) in e)

pub share_snoc : (k more : ℕ) (secret cs : List ℕ) (i : ℕ) → share_of (suc k) more secret cs i ≡ share_of k more secret cs i ++ block_of k more secret cs i
unfolding share_of
share_snoc zero more secret cs i =
    append-nil (big_endian 16 (value_at (block secret ∷ blocks more cs) i))
    ∙ ap (λ (n : ℕ). big_endian 16 (value_at (block secret ∷ blocks more (drop n cs)) i)) (sym (zero-mul (more * 16)))
share_snoc (suc k) more secret cs i =
    ap (λ (l : List ℕ). big_endian 16 (value_at (block secret ∷ blocks more cs) i) ++ l)
    (share_snoc k more (drop 16 secret) (drop (more * 16) cs) i
    ∙ ap₂ (λ (s c : List ℕ). share_of k more (drop 16 secret) (drop (more * 16) cs) i ++ big_endian 16 (value_at (block s ∷ blocks more c) i))
    (further k 16 secret) (further k (more * 16) cs))
    ∙ sym (append_assoc (big_endian 16 (value_at (block secret ∷ blocks more cs) i)) (share_of k more (drop 16 secret) (drop (more * 16) cs) i) (block_of (suc k) more secret cs i))

pub length_share : (n more : ℕ) (secret cs : List ℕ) (i : ℕ) → length (share_of n more secret cs i) ≡ n * 16
unfolding share_of
length_share zero more secret cs i = refl
length_share (suc n) more secret cs i =
    let b = big_endian 16 (value_at (block secret ∷ blocks more cs) i) in
    let rest = share_of n more (drop 16 secret) (drop (more * 16) cs) i in
    omega (arith, length-append b rest, length_digits 256 16 (value_at (block secret ∷ blocks more cs) i), length_share n more (drop 16 secret) (drop (more * 16) cs) i)

pub shares_snoc : (c i n more : ℕ) (secret cs : List ℕ)
    → shares_from (suc c) i n more secret cs ≡ shares_from c i n more secret cs ++ share_of n more secret cs (i + c)
unfolding shares_from
shares_snoc zero i n more secret cs = append-nil (share_of n more secret cs i) ∙ ap (share_of n more secret cs) (sym (add-zero i))
shares_snoc (suc c) i n more secret cs =
    ap (λ (l : List ℕ). share_of n more secret cs i ++ l)
    (shares_snoc c (suc i) n more secret cs
    ∙ ap (λ (j : ℕ). shares_from c (suc i) n more secret cs ++ share_of n more secret cs j) (let e : suc i + c ≡ i + suc c = omega arith in e))
    ∙ sym (append_assoc (share_of n more secret cs i) (shares_from c (suc i) n more secret cs) (share_of n more secret cs (i + suc c)))

pub length_shares : (c i n more : ℕ) (secret cs : List ℕ) → length (shares_from c i n more secret cs) ≡ c * (n * 16)
unfolding shares_from
length_shares zero i n more secret cs = sym (zero-mul (n * 16))
length_shares (suc c) i n more secret cs =
    length-append (share_of n more secret cs i) (shares_from c (suc i) n more secret cs)
    ∙ ap₂ (λ (x y : ℕ). x + y) (length_share n more secret cs i) (length_shares c (suc i) n more secret cs)
    ∙ add_comm (n * 16) (c * (n * 16)) ∙ sym (suc-mul c (n * 16))

-- part k of n equal parts ends within the whole
pub part_fits : (k n m l : ℕ) → k < n → n * m ≤ l → k * m + m ≤ l
part_fits k n m l h f = omega (arith, suc-mul k m, mul-le-mul_right m h)
