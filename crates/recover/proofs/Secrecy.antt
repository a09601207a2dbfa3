-- Fewer shares than a secret needs say nothing of it: with every secret of that length they are
-- shares of one split, by one choice of coefficients. Assumes nothing.
use mathlib.Core.Path.{◌≡◌, refl, sym, ap, ap₂, ◌∙◌, subst}
use mathlib.Core.Bool.{true}
use mathlib.Core.List.{List, [], ◌∷◌, ◌++◌, map, append_assoc}
use Prim.Native.Nat.{ℕ, zero, suc, ◌+◌, ◌-◌, ◌*◌, ◌≤◌}
use native.Mathlib.Nat.{zero-mul, suc-mul, not-suc-le-zero}
use native.Mathlib.Omega.{arith}
use lib.Dec.{lit<}
use lib.ListN.{length, drop, length-append, length-drop}
use lib.Seq.{drop_at, drop-drop}
use borrow.Author.Tests.{le-leb, eq-eqb}
use Rattle.wire.specs.Answer.{done}
use Rattle.wire.specs.Number.{big_endian, Bytes}
use Rattle.wire.specs.Sizes.{most_share}
use Rattle.wire.proofs.Digits.{length_digits, digits_small, small_drop, bytes_none, bytes_append}
use Rattle.field.specs.Element.{block}
use Rattle.field.proofs.Sums.{apart}
use Rattle.field.proofs.Blocks.{block_good, block_of_bytes}
use Rattle.curve.specs.Curve.{value_at, blocks, through_at}
use Rattle.curve.proofs.Curves.{Good, Goods, GoodValues, Far, Apart, Through, good_value, through_first, through_them, coefficients, value_coefficients, length_coefficients, good_coefficients, one_curve}
use Rattle.split.specs.Split.{blocks_in, share_of, shares_of, quorum_allowed, split_verdict}
use Rattle.recover.specs.Recover.{distinct}
use Rattle.recover.specs.Claims.{Each, Given, Explains}
use Rattle.recover.proofs.Back.{each_as, block_parts, length_blocks, good_blocks, apart_places, each_on, as_many, good_points, value_at_none}

-- ---- the bytes of elements

abbrev bytes_of : List ℕ → List ℕ
bytes_of [] = []
bytes_of (e ∷ es) = big_endian 16 e ++ bytes_of es

length_bytes_of : (es : List ℕ) → length (bytes_of es) ≡ length es * 16
length_bytes_of [] = refl
length_bytes_of (e ∷ es) = omega (arith, length-append (big_endian 16 e) (bytes_of es), length_digits 256 16 e, length_bytes_of es)

bytes_bytes_of : (es : List ℕ) → Bytes (bytes_of es)
bytes_bytes_of [] = bytes_none
bytes_bytes_of (e ∷ es) = bytes_append (big_endian 16 e) (bytes_of es) (digits_small 256 16 e (lit< tt)) (bytes_bytes_of es)

blocks_bytes : (es rest : List ℕ) → Goods es → blocks (length es) (bytes_of es ++ rest) ≡ es
unfolding blocks
blocks_bytes [] rest g = refl
blocks_bytes (e ∷ es) rest g =
    ap (λ (l : List ℕ). block l ∷ blocks (length es) (drop 16 l)) (append_assoc (big_endian 16 e) (bytes_of es) rest)
    ∙ ap₂ (λ (x : ℕ) (l : List ℕ). x ∷ l) (block_of_bytes e (bytes_of es ++ rest) g.0)
    (ap (blocks (length es)) (drop_at (big_endian 16 e) (bytes_of es ++ rest) 16 (length_digits 256 16 e)) ∙ blocks_bytes es rest g.1)

bytes_blocks : (n : ℕ) (bs : List ℕ) → Bytes bs → n * 16 ≤ length bs → bytes_of (blocks n bs) ++ drop (n * 16) bs ≡ bs
unfolding blocks
bytes_blocks zero bs all h = refl
bytes_blocks (suc n) bs all h =
    let e : 16 + n * 16 ≡ suc n * 16 = omega arith in
    append_assoc (big_endian 16 (block bs)) (bytes_of (blocks n (drop 16 bs))) (drop (suc n * 16) bs)
    ∙ ap (λ (l : List ℕ). big_endian 16 (block bs) ++ l)
    (ap (λ (l : List ℕ). bytes_of (blocks n (drop 16 bs)) ++ l) (ap (λ (j : ℕ). drop j bs) (sym e) ∙ sym (drop-drop (n * 16) 16 bs))
    ∙ bytes_blocks n (drop 16 bs) (small_drop 256 16 bs all) (omega (arith, length-drop 16 bs)))
    ∙ block_parts bs all (omega arith)

-- ---- a curve by its value at 0 and its other coefficients

begins : (cs : List ℕ) (c : ℕ) → 1 ≤ length cs → value_at cs 0 ≡ c → cs ≡ c ∷ drop 1 cs
begins [] c h e = absurd (not-suc-le-zero h)
begins (d ∷ cs) c h e = ap (λ (x : ℕ). x ∷ cs) (sym (value_at_none d cs) ∙ e)

good_others : (cs : List ℕ) → Goods cs → Goods (drop 1 cs)
good_others [] g = tt
good_others (c ∷ cs) g = g.1

each_with : {A : Type 0} {P Q R : A → Type 0} → ((x : A) → P x → Q x → R x) → (xs : List A) → Each P xs → Each Q xs → Each R xs
each_with f [] p q = tt
each_with f (x ∷ xs) p q = (f x p.0 q.0, each_with f xs p.1 q.1)

no_bytes : (l : List ℕ) → length l ≡ 0 → [] ≡ l
no_bytes [] e = refl
no_bytes (x ∷ l) e = absurd (omega arith)

module _ {A : Type 0} (at : A → ℕ) where
  far_none : (value : A → ℕ) (xs : List A) → Each (λ x. (1 ≤ at x) × (at x ≤ 255)) xs → Far 0 (map (λ x. (at x, value x)) xs)
  far_none value [] b = tt
  far_none value (x ∷ xs) b =
      (apart (at x) 0 (omega (arith, b.0.1)) (lit< tt) (λ e. omega (arith, b.0.0)), far_none value xs b.1)

  -- with a point at 0
  apart_none : (c : ℕ) (value : A → ℕ) (xs : List A) → Each (λ x. (1 ≤ at x) × (at x ≤ 255)) xs → distinct (map at xs) ≡ true
      → Apart ((0, c) ∷ map (λ x. (at x, value x)) xs)
  apart_none c value xs b d =
      (far_none value xs b, apart_places at value xs (each_as (λ x h. omega (arith, h.1)) xs b) d)

  through_each : (value : A → ℕ) (f : ℕ → ℕ) (xs : List A) → Through f (length xs) (map (λ x. (at x, value x)) xs) → Each (λ x. f (at x) ≡ value x) xs
  through_each value f [] h = tt
  through_each value f (x ∷ xs) h = (h.0, through_each value f xs h.1)

-- ---- block by block, with any shares at some indices

module _ {A : Type 0} (at : A → ℕ) (xs : List A) (allowed : Each (λ x. (1 ≤ at x) × (at x ≤ 255)) xs) (d : distinct (map at xs) ≡ true) where
  -- one block: the curve of the secret's block that has these values
  record Curve (c : ℕ) (value : A → ℕ) (es : List ℕ) : Type 0 where
    good : Goods es
    long : length es ≡ length xs
    values : Each (λ x. value_at (c ∷ es) (at x) ≡ value x) xs

  curve_given : (c : ℕ) (value : A → ℕ) → Good c → Each (λ x. Good (value x)) xs → (es : List ℕ) × Curve c value es
  curve_given c value g gs =
      let ps : List (ℕ × ℕ) = (0, c) ∷ map (λ x. (at x, value x)) xs in
      let m = length xs in
      let cs = coefficients (suc m) ps in
      let far : Apart ps = apart_none at c value xs allowed d in
      let good : GoodValues ps = (g, good_points at value xs gs) in
      let long : length cs ≡ suc m = length_coefficients (suc m) ps (omega (arith, as_many at value xs)) in
      let first : cs ≡ c ∷ drop 1 cs =
      begins cs c (omega arith) (value_coefficients (suc m) ps 0 ∙ through_first m (0, c) (map (λ x. (at x, value x)) xs)) in (
        drop 1 cs,
        record {
          good = good_others cs (good_coefficients (suc m) ps good);
          long = length-drop 1 cs ∙ omega arith;
          values = each_as
              (λ x e. ap (λ (l : List ℕ). value_at l (at x)) (sym first) ∙ value_coefficients (suc m) ps (at x) ∙ e)
              xs (through_each at value (through_at (suc m) ps) xs (through_them (suc m) ps far good).1);
        },
      )

  record Choice (n : ℕ) (secret : List ℕ) (share : A → List ℕ) (cs : List ℕ) : Type 0 where
    bytes : Bytes cs
    long : length cs ≡ n * (length xs * 16)
    shares : Each (λ x. share_of n (length xs) secret cs (at x) ≡ share x) xs

  -- there are coefficients
  choice_by_blocks : (n : ℕ) (secret : List ℕ) (share : A → List ℕ) → Bytes secret → Each (λ x. Bytes (share x) × (length (share x) ≡ n * 16)) xs
      → (cs : List ℕ) × Choice n secret share cs
  unfolding share_of
  choice_by_blocks zero secret share all given =
      ([], record { bytes = bytes_none; long = sym (zero-mul (length xs * 16)); shares = each_as (λ x g. no_bytes (share x) g.1) xs given })
  choice_by_blocks (suc n) secret share all given =
      let (es, curve) = curve_given (block secret) (λ x. block (share x)) (block_good secret all) (each_as (λ x g. block_good (share x) g.0) xs given) in
      let (rest, next) = choice_by_blocks n (drop 16 secret) (λ x. drop 16 (share x)) (small_drop 256 16 secret all)
      (each_as (λ x g. (small_drop 256 16 (share x) g.0, length-drop 16 (share x) ∙ omega (arith, g.1))) xs given) in
      let first : blocks (length xs) (bytes_of es ++ rest) ≡ es =
      ap (λ (m : ℕ). blocks m (bytes_of es ++ rest)) (sym curve.long) ∙ blocks_bytes es rest curve.good in
      let length-es : length (bytes_of es) ≡ length xs * 16 = length_bytes_of es ∙ ap (λ (m : ℕ). m * 16) curve.long in
      let others : drop (length xs * 16) (bytes_of es ++ rest) ≡ rest = drop_at (bytes_of es) rest (length xs * 16) length-es in
      let parts : Each (λ x. (value_at (block secret ∷ es) (at x) ≡ block (share x)) × (share_of n (length xs) (drop 16 secret) rest (at x) ≡ drop 16 (share x))) xs =
      each_with (λ x v s. (v, s)) xs curve.values next.shares in (
        bytes_of es ++ rest,
        record {
          bytes = bytes_append (bytes_of es) rest (bytes_bytes_of es) next.bytes;
          long = length-append (bytes_of es) rest ∙ omega (arith, length-es, next.long, suc-mul n (length xs * 16));
          shares = each_with
              (λ x g p. ap₂ (λ (l m : List ℕ). big_endian 16 (value_at (block secret ∷ l) (at x)) ++ share_of n (length xs) (drop 16 secret) m (at x)) first others
              ∙ ap₂ (λ (v : ℕ) (l : List ℕ). big_endian 16 v ++ l) p.0 p.1
              ∙ block_parts (share x) g.0 (omega (arith, g.1)))
              xs given parts;
        },
      )

  -- and no others
  one_by_blocks : (n : ℕ) (secret cs ds : List ℕ) → Bytes secret → Bytes cs → Bytes ds → length cs ≡ n * (length xs * 16) → length ds ≡ n * (length xs * 16)
      → Each (λ x. share_of n (length xs) secret cs (at x) ≡ share_of n (length xs) secret ds (at x)) xs → cs ≡ ds
  unfolding share_of
  one_by_blocks zero secret cs ds all p q e f same = sym (no_bytes cs (e ∙ zero-mul (length xs * 16))) ∙ no_bytes ds (f ∙ zero-mul (length xs * 16))
  one_by_blocks (suc n) secret cs ds all p q e f same =
      let m = length xs in
      let c = block secret ∷ blocks m cs in
      let b = block secret ∷ blocks m ds in
      let gc : Goods c = (block_good secret all, good_blocks m cs p) in
      let gb : Goods b = (block_good secret all, good_blocks m ds q) in
      let values : Each (λ x. value_at c (at x) ≡ value_at b (at x)) xs =
      each_as (λ x s. sym (block_of_bytes (value_at c (at x)) _ (good_value c (at x) gc)) ∙ ap block s ∙ block_of_bytes (value_at b (at x)) _ (good_value b (at x) gb)) xs same in
      let ps : List (ℕ × ℕ) = (0, block secret) ∷ map (λ x. (at x, value_at c (at x))) xs in
      let curve : c ≡ b =
      one_curve c b ps (omega (arith, length_blocks m cs, as_many at (λ x. value_at c (at x)) xs)) (omega (arith, length_blocks m ds, as_many at (λ x. value_at c (at x)) xs))
      gc gb (apart_none at (block secret) (λ x. value_at c (at x)) xs allowed d)
      (sym (value_at_none (block secret) (blocks m cs)), each_on at (λ x. value_at c (at x)) c xs (each_as (λ x s. refl) xs same))
      (sym (value_at_none (block secret) (blocks m ds)), each_on at (λ x. value_at c (at x)) b xs values) in
      let rest : drop (m * 16) cs ≡ drop (m * 16) ds =
      one_by_blocks n (drop 16 secret) (drop (m * 16) cs) (drop (m * 16) ds) (small_drop 256 16 secret all) (small_drop 256 (m * 16) cs p) (small_drop 256 (m * 16) ds q)
      (length-drop (m * 16) cs ∙ omega (arith, suc-mul n (m * 16))) (length-drop (m * 16) ds ∙ omega (arith, suc-mul n (m * 16)))
      (each_as (λ x s. behind cs x ∙ ap (drop 16) s ∙ sym (behind ds x)) xs same) in
      sym (bytes_blocks m cs p (omega (arith, suc-mul n (m * 16))))
      ∙ ap₂ (λ (l r : List ℕ). bytes_of (drop 1 l) ++ r) curve rest
      ∙ bytes_blocks m ds q (omega (arith, suc-mul n (m * 16)))
    where
      behind : (l : List ℕ) (x : A) → share_of n (length xs) (drop 16 secret) (drop (length xs * 16) l) (at x)
          ≡ drop 16 (big_endian 16 (value_at (block secret ∷ blocks (length xs) l) (at x)) ++ share_of n (length xs) (drop 16 secret) (drop (length xs * 16) l) (at x))
      behind l x = sym (drop_at (big_endian 16 (value_at (block secret ∷ blocks (length xs) l) (at x))) _ 16 (length_digits 256 16 (value_at (block secret ∷ blocks (length xs) l) (at x))))

-- ---- the theorems

module _ (secret : List ℕ) (t : ℕ) (given : List (ℕ × List ℕ)) (all : Bytes secret) (fewer : suc (length given) ≡ t)
    (shares : Each (Given (length secret)) given) (d : distinct (map (λ g. g.0) given) ≡ true) where
  more : length given ≡ t - 1
  more = omega arith

  indices : Each (λ g. (1 ≤ g.0) × (g.0 ≤ 255)) given
  indices = each_as (λ g h. (h.first, h.last)) given shares

  -- one share less than a secret needs: whatever they are, every secret of that length has them,
  -- by some coefficients
  pub any_secret : (cs : List ℕ) × Explains secret t given cs
  any_secret =
      let (cs, c) = choice_by_blocks (λ g. g.0) given indices d (blocks_in (length secret)) secret (λ g. g.1) all (each_as (λ g h. (h.bytes, h.long)) given shares) in (
        cs,
        record {
          bytes = c.bytes;
          long = c.long ∙ ap (λ (m : ℕ). blocks_in (length secret) * (m * 16)) more;
          shares = subst (λ (m : ℕ). Each (λ g. share_of (blocks_in (length secret)) m secret cs g.0 ≡ g.1) given) more c.shares;
        },
      )

  -- and by no other coefficients
  pub one_choice : (cs ds : List ℕ) → Explains secret t given cs → Explains secret t given ds → cs ≡ ds
  one_choice cs ds p q =
      one_by_blocks (λ g. g.0) given indices d (blocks_in (length secret)) secret cs ds all p.bytes q.bytes
      (p.long ∙ ap (λ (m : ℕ). blocks_in (length secret) * (m * 16)) (sym more))
      (q.long ∙ ap (λ (m : ℕ). blocks_in (length secret) * (m * 16)) (sym more))
      (subst (λ (m : ℕ). Each (λ g. share_of (blocks_in (length secret)) m secret cs g.0 ≡ share_of (blocks_in (length secret)) m secret ds g.0) given) (sym more)
      (each_with (λ g e f. e ∙ sym f) given p.shares q.shares))

-- For the reader: they are coefficients that a split takes
pub explains_done : (secret : List ℕ) (t n : ℕ) (given : List (ℕ × List ℕ)) (cs : List ℕ) → quorum_allowed t n ≡ true → 1 ≤ length secret → length secret ≤ most_share
    → Explains secret t given cs → split_verdict secret t n cs ≡ done (shares_of secret t n cs)
unfolding split_verdict
explains_done secret t n given cs h l m e =
    rw (h, le-leb 1 (length secret) l, le-leb (length secret) most_share m, eq-eqb _ _ e.long)
