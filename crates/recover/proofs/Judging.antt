-- What is asked of all slips, as the loops ask it: slip by slip. Assumes nothing.
use mathlib.Core.Path.{◌≡◌, refl, sym, ap, ap₂, ◌∙◌}
use mathlib.Core.Bool.{Bool, true, false, not, ◌&&◌}
use mathlib.Core.List.{List, [], ◌∷◌, map}
use mathlib.Core.Logic.{⊎_elim}
use Prim.Native.Nat.{ℕ, zero, suc, ◌+◌, ◌<◌, ◌≤◌}
use native.Mathlib.Numerals.{add-one}
use borrow.Author.Tests.{eq-eqb, ne_eqb}
use lib.Dec.{eqb}
use lib.ListN.{length, get_or, drop, set, replicate, drop_of_length-le}
use lib.Seq.{drop-cons, get_or-set_same, get_or-set_other}
use Rattle.wire.specs.Answer.{Answer, done, refused, refused_at, then, Got, got}
use Rattle.wire.specs.Every.{every, without}
use Rattle.wire.proofs.Cases.{eq_or_ne}
use Rattle.wire.proofs.Everys.{every_on, every_stop, every_end}
use Rattle.shard.specs.Shard.{Shard, shard_at}
use Rattle.shard.specs.Answer.{shard_told}
use Rattle.shard.specs.declared.Shard as read
use Rattle.std.specs.Prelude.{Ok, Err}
use Rattle.std.specs.List.{list_all}
use Rattle.wire.specs.Refusal.{number}
use Rattle.wire.specs.declared.Refusal.{Refusal}
use Rattle.recover.specs.Recover.{Slip, slip_of, read_slips, alike, distinct}
use Rattle.recover.specs.Private.{slip_in, index_in, said_shard}

-- the library's test of a whole list is this one
pub all_every : {A : Type 0} (test : A → Bool) (xs : List A) → list_all test xs ≡ every test xs
unfolding every
all_every test [] = refl
all_every test (x ∷ xs) = ap (λ (b : Bool). test x && b) (all_every test xs)

-- ---- reading

-- all are read, whatever they say
abbrev pub past : List (List ℕ) → Answer Unit
past slips = then (read_slips slips) (λ vs. done tt)

module _ (s : List ℕ) (slips : List (List ℕ)) where
  reads_one : (v : Shard) (next : ℕ) → shard_at s ≡ got v next → past (s ∷ slips) ≡ past slips
  unfolding read_slips
  reads_one v next e =
      ap (λ (a : Got Shard). then (then a (λ (u, _). then (read_slips slips) (λ us. done (slip_of s u ∷ us)))) (λ vs. done tt)) e
      ∙ go (read_slips slips)
    where
      go : (a : Answer (List Slip)) → ◌≡◌ {A = Answer Unit} (then (then a (λ us. done (slip_of s v ∷ us))) (λ vs. done (tt {0}))) (then a (λ vs. done (tt {0})))
      go (done us) = refl
      go (refused_at e k) = refl

  refuses_one : (e : ℕ) → shard_at s ≡ refused e → past (s ∷ slips) ≡ refused e
  unfolding read_slips
  refuses_one e h = ap (λ (a : Got Shard). then (then a (λ (u, _). then (read_slips slips) (λ us. done (slip_of s u ∷ us)))) (λ vs. done tt)) h

-- payload i, and those behind it
module _ (slips : List (List ℕ)) (i : ℕ) (l : i < length slips) (p : List ℕ) (e : p ≡ get_or slips i []) where
  here : drop i slips ≡ p ∷ drop (i + 1) slips
  here = drop-cons slips i [] l ∙ ap₂ {C = List (List ℕ)} (λ (x : List ℕ) (k : ℕ). x ∷ drop k slips) (sym e) (sym (add-one i))

module _ (slips : List (List ℕ)) (i : ℕ) (l : i < length slips) (p : List ℕ) (e : p ≡ get_or slips i []) (whole : past slips ≡ past (drop i slips)) where
  pub read_on : (v : read.Shard) → shard_told (Ok v) ≡ shard_at p → past slips ≡ past (drop (i + 1) slips)
  read_on v t = whole ∙ ap past (here slips i l p e) ∙ reads_one p (drop (i + 1) slips) (said_shard v) v.next (sym t)

  pub read_refused : (r : Refusal) → shard_told (Err r) ≡ shard_at p → ◌≡◌ {A = Answer Unit} (refused (number r)) (past slips)
  read_refused r t = sym (whole ∙ ap past (here slips i l p e) ∙ refuses_one p (drop (i + 1) slips) (number r) (sym t))

pub read_end : (slips : List (List ℕ)) (i : ℕ) → length slips ≤ i → past slips ≡ past (drop i slips) → done tt ≡ past slips
unfolding read_slips
read_end slips i h e = sym (e ∙ ap past (drop_of_length-le slips {i = i} h))

-- ---- as the first says

-- the payloads from i on
abbrev pub like_from : ℕ → List (List ℕ) → Bool
like_from i slips = every (λ p. alike (slip_in (get_or slips 0 [])) (slip_in p)) (drop i slips)

module _ (slips : List (List ℕ)) (i : ℕ) (l : i < length slips) (first p : List ℕ) (f : first ≡ get_or slips 0 []) (e : p ≡ get_or slips i [])
    (r : Bool) (t : r ≡ alike (slip_in first) (slip_in p)) (whole : like_from 1 slips ≡ like_from i slips) where
  judged : (b : Bool) → r ≡ b → alike (slip_in (get_or slips 0 [])) (slip_in (get_or slips i [])) ≡ b
  judged b k = ap₂ (λ (x y : List ℕ). alike (slip_in x) (slip_in y)) (sym f) (sym e) ∙ sym t ∙ k

  pub like_on : r ≡ true → like_from 1 slips ≡ like_from (i + 1) slips
  like_on k = whole ∙ every_on _ slips i [] l (judged true k)

  pub like_stop : r ≡ false → false ≡ like_from 1 slips
  like_stop k = sym (whole ∙ every_stop _ slips i [] l (judged false k))

pub like_end : (slips : List (List ℕ)) (i : ℕ) → length slips ≤ i → like_from 1 slips ≡ like_from i slips → true ≡ like_from 1 slips
like_end slips i h e = sym (e ∙ every_end _ slips i h)

-- ---- no number twice

-- none of these was seen, and none comes twice
abbrev pub fresh : List Bool → List ℕ → Bool
fresh seen xs = every (λ x. not (get_or seen x false)) xs && distinct xs

and_out : (a b c : Bool) → (a && (b && c)) ≡ ((a && b) && c)
and_out true b c = refl
and_out false b c = refl

and_mid : (p q a b : Bool) → ((p && q) && (a && b)) ≡ ((p && a) && (q && b))
and_mid true true a b = refl
and_mid true false true b = refl
and_mid true false false b = refl
and_mid false q a b = refl

module _ (seen : List Bool) (x : ℕ) (h : x < length seen) where
  marked_at : (y : ℕ) → not (get_or (set seen x true) y false) ≡ (not (get_or seen y false) && not (eqb y x))
  marked_at y =
      ⊎_elim
      (λ (e : y ≡ x).
      ap (λ (k : ℕ). not (get_or (set seen x true) k false)) e ∙ ap not (get_or-set_same seen x true false h)
      ∙ sym (ap (λ (b : Bool). not (get_or seen y false) && not b) (eq-eqb y x e) ∙ none (not (get_or seen y false))))
      (λ (d : y ≡ x → ⊥).
      ap not (get_or-set_other seen x y true false d)
      ∙ sym (ap (λ (b : Bool). not (get_or seen y false) && not b) (ne_eqb y x d) ∙ all (not (get_or seen y false))))
      (eq_or_ne y x)
    where
      none : (b : Bool) → (b && false) ≡ false
      none true = refl
      none false = refl

      all : (b : Bool) → (b && true) ≡ b
      all true = refl
      all false = refl

  marked : (xs : List ℕ) → every (λ y. not (get_or (set seen x true) y false)) xs ≡ (every (λ y. not (get_or seen y false)) xs && without x xs)
  unfolding every
  marked [] = refl
  marked (y ∷ ys) = ap₂ ◌&&◌ (marked_at y) (marked ys) ∙ and_mid (not (get_or seen y false)) (not (eqb y x)) (every (λ z. not (get_or seen z false)) ys) (without x ys)

  fresh_one : (xs : List ℕ) → get_or seen x false ≡ false → fresh seen (x ∷ xs) ≡ fresh (set seen x true) xs
  unfolding every distinct
  fresh_one xs e =
      ap (λ (b : Bool). (not b && every (λ y. not (get_or seen y false)) xs) && (without x xs && distinct xs)) e
      ∙ and_out (every (λ y. not (get_or seen y false)) xs) (without x xs) (distinct xs)
      ∙ ap (λ (b : Bool). b && distinct xs) (sym (marked xs))

seen_one : (seen : List Bool) (x : ℕ) (xs : List ℕ) → get_or seen x false ≡ true → fresh seen (x ∷ xs) ≡ false
unfolding every distinct
seen_one seen x xs d = ap (λ (b : Bool). (not b && every (λ y. not (get_or seen y false)) xs) && (without x xs && distinct xs)) d

module _ (seen : List Bool) (slips : List (List ℕ)) (i : ℕ) (l : i < length slips) (p : List ℕ) (e : p ≡ get_or slips i []) (x : ℕ) (t : x ≡ (slip_in p).index)
    (r : Bool) (whole : r ≡ fresh seen (map index_in (drop i slips))) where
  there : map index_in (drop i slips) ≡ x ∷ map index_in (drop (i + 1) slips)
  there = ap (map index_in) (here slips i l p e) ∙ ap (λ (y : ℕ). y ∷ map index_in (drop (i + 1) slips)) (sym t)

  pub fresh_on : x < length seen → get_or seen x false ≡ false → r ≡ fresh (set seen x true) (map index_in (drop (i + 1) slips))
  fresh_on k z = whole ∙ ap (fresh seen) there ∙ fresh_one seen x k (map index_in (drop (i + 1) slips)) z

  pub fresh_stop : get_or seen x false ≡ true → false ≡ r
  fresh_stop z = sym (whole ∙ ap (fresh seen) there ∙ seen_one seen x (map index_in (drop (i + 1) slips)) z)

none_seen : (n y : ℕ) → ◌≡◌ {A = Bool} (get_or (replicate n false) y false) false
none_seen zero y = refl
none_seen (suc n) zero = refl
none_seen (suc n) (suc y) = none_seen n y

pub fresh_start : (n : ℕ) (xs : List ℕ) → distinct xs ≡ fresh (replicate n false) xs
unfolding every
fresh_start n xs = ap (λ (b : Bool). b && distinct xs) (sym (go xs))
  where
    go : (ys : List ℕ) → every (λ y. not (get_or (replicate n false) y false)) ys ≡ true
    go [] = refl
    go (y ∷ ys) = ap₂ ◌&&◌ (ap not (none_seen n y)) (go ys)

pub fresh_end : (seen : List Bool) (slips : List (List ℕ)) (i : ℕ) → length slips ≤ i → (r : Bool) → r ≡ fresh seen (map index_in (drop i slips)) → true ≡ r
unfolding every distinct
fresh_end seen slips i h r e = sym (e ∙ ap (λ (l : List (List ℕ)). fresh seen (map index_in l)) (drop_of_length-le slips {i = i} h))
