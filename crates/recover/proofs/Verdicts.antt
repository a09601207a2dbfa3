-- What is answered, over plain lists: each judgement in turn, then the secret. Assumes nothing.
use mathlib.Core.Path.{◌≡◌, refl, sym, ap, ap₂, ◌∙◌, subst}
use mathlib.Core.Bool.{Bool, true, false, not, false≢true}
use mathlib.Core.List.{List, [], ◌∷◌, ◌++◌, map}
use Prim.Native.Nat.{ℕ, suc, ◌+◌, ◌-◌, ◌*◌, ◌<◌, ◌≤◌}
use native.Mathlib.Omega.{arith}
use borrow.Author.Tests.{le-leb, lt-leb}
use lib.Dec.{leb, eqb}
use lib.ListN.{length, get_or, take, drop, length-map, length-drop}
use lib.Seq.{take-append-le, drop-append-le, take_at}
use Rattle.wire.specs.Answer.{Answer, done, refused, refused_at, number_of, place_of, then, demand, Got, got}
use Rattle.wire.specs.Every.{every}
use Rattle.wire.specs.Over.{over}
use Rattle.wire.specs.Writing.{Written}
use Rattle.std.specs.Prelude.{Result, Err}
use Rattle.wire.specs.Refusal.{number}
use Rattle.wire.specs.declared.Refusal.{Refusal}
use Rattle.wire.specs.declared.Refusal.TheVariants.{TooFewSlips, UnlikeSlips, SlipTwice, OffTheCurve, BadPadding}
use Rattle.wire.proofs.Cases.{said_yes, said_no, not_done}
use Rattle.wire.proofs.Writes.{denied}
use Rattle.shard.specs.Shard.{Shard, shard_at}
use Rattle.split.specs.Split.{blocks_in}
use Rattle.recover.specs.Recover.{Slip, slip_of, read_slips, alike, distinct, on_curves, values_at0, unfilled, combined, recovered, holds, of_one_secret}
use Rattle.recover.specs.Private.{is_done, reads, shard_from, shard_in, slip_in, index_in, as_first}
use Rattle.recover.proofs.Judging.{past}
use Rattle.recover.proofs.Filling.{values_long, every_map}

-- ---- the secret and what fills its last block

pub over_front_of : (bs l : List ℕ) → length bs ≤ length l → over 0 bs l ≡ bs ++ drop (length bs) l
unfolding over
over_front_of bs l h = rw (le-leb (0 + length bs) (length l) (omega arith)) (ap (λ (n : ℕ). bs ++ drop n l) (let e : 0 + length bs ≡ length bs = omega arith in e))

-- what the slips say once they are alike and no number comes twice
abbrev pub fitted : ℕ → ℕ → List Slip → Answer (List ℕ)
fitted t len vs = demand (on_curves (blocks_in len) 0 t vs (drop t vs)) 29 (unfilled len (values_at0 (blocks_in len) 0 t vs))

module _ (t len : ℕ) (vs : List Slip) (r : Bool) (l l' : List ℕ) (most : len ≤ 224) (room : length l ≡ 224)
    (b : (r ≡ on_curves (blocks_in len) 0 t vs (drop t vs)) × (r ≡ true → l' ≡ over 0 (values_at0 (blocks_in len) 0 t vs) l)) where
  pub off_curve : (x : List ℕ) → not r ≡ true → Written 0 (fitted t len vs) x x (Err OffTheCurve)
  off_curve x h = rw (said_no r _ b.0 h) (denied 0 x OffTheCurve)

  module _ (h : not r ≡ false) where
    long : length (values_at0 (blocks_in len) 0 t vs) ≡ blocks_in len * 16
    long = values_long (blocks_in len) 0 t vs

    there : l' ≡ values_at0 (blocks_in len) 0 t vs ++ drop (length (values_at0 (blocks_in len) 0 t vs)) l
    there = b.1 (said_yes r r refl h) ∙ over_front_of (values_at0 (blocks_in len) 0 t vs) l (omega (arith, long))

    behind : take (blocks_in len * 16 - len) (drop len l') ≡ drop len (values_at0 (blocks_in len) 0 t vs)
    behind =
        ap (λ (z : List ℕ). take (blocks_in len * 16 - len) (drop len z)) there
        ∙ ap (take (blocks_in len * 16 - len)) (drop-append-le len (values_at0 (blocks_in len) 0 t vs) _ (omega (arith, long)))
        ∙ take_at (drop len (values_at0 (blocks_in len) 0 t vs)) _ (blocks_in len * 16 - len) (omega (arith, long, length-drop len (values_at0 (blocks_in len) 0 t vs)))

    front : take (len - 0) (drop 0 l') ≡ take len (values_at0 (blocks_in len) 0 t vs)
    front =
        ap (λ (j : ℕ). take j l') (let e : len - 0 ≡ len = omega arith in e)
        ∙ ap (take len) there ∙ take-append-le len (values_at0 (blocks_in len) 0 t vs) _ (omega (arith, long))

    module _ (z : Bool) (e : z ≡ every (λ a. eqb a 0) (take (blocks_in len * 16 - len) (drop len l'))) where
      zeros : (v : Bool) → z ≡ v → every (λ a. eqb a 0) (drop len (values_at0 (blocks_in len) 0 t vs)) ≡ v
      zeros v k = ap (every (λ a. eqb a 0)) (sym behind) ∙ sym e ∙ k

      pub not_filled : (x : List ℕ) → not z ≡ true → Written 0 (fitted t len vs) x x (Err BadPadding)
      unfolding unfilled
      not_filled x k = rw (sym b.0 ∙ said_yes r r refl h, zeros false (said_no z z refl k)) (denied 0 x BadPadding)

      pub secret_given : not z ≡ false → (x x' : List ℕ) (w : Result ℕ Refusal) → Written 0 (done (take (len - 0) (drop 0 l'))) x x' w → Written 0 (fitted t len vs) x x' w
      unfolding unfilled
      secret_given k x x' w g =
          rw (sym b.0 ∙ said_yes r r refl h, zeros true (said_yes z z refl k)) (subst (λ (y : List ℕ). Written 0 (done y) x x' w) front g)

-- ---- slips that were read

indexes_read : (ps : List (List ℕ)) → map index_in ps ≡ map (λ w. w.index) (map slip_in ps)
indexes_read [] = refl
indexes_read (p ∷ ps) = ap {B = List ℕ} (λ (l : List ℕ). index_in p ∷ l) (indexes_read ps)

module _ (slips : List (List ℕ)) (n : ℕ) (q : n ≡ length slips) (some : 0 < length slips) (t len : ℕ) (f : t ≡ (slip_in (get_or slips 0 [])).threshold) (g : len ≡ (slip_in (get_or slips 0 [])).len) where
  in_turn : combined (map slip_in slips) ≡ demand (leb t n) 26 (demand (as_first slips) 27 (demand (distinct (map index_in slips)) 28 (fitted t len (map slip_in slips))))
  unfolding combined
  in_turn = go slips (sym q) f g
    where
      go : (ps : List (List ℕ)) → length ps ≡ n → t ≡ (slip_in (get_or ps 0 [])).threshold → len ≡ (slip_in (get_or ps 0 [])).len
          → combined (map slip_in ps) ≡ demand (leb t n) 26 (demand (as_first ps) 27 (demand (distinct (map index_in ps)) 28 (fitted t len (map slip_in ps))))
      go [] e u v = absurd (omega arith)
      go (p ∷ ps) e u v =
          sym (ap₂ (λ (a b : ℕ). demand (leb a n) 26 (demand (as_first (p ∷ ps)) 27 (demand (distinct (map index_in (p ∷ ps))) 28 (fitted a b (map slip_in (p ∷ ps)))))) u v
          ∙ ap₂ (λ (a : ℕ) (b : Bool). demand (leb (slip_in p).threshold a) 26 (demand b 27 (demand (distinct (map index_in (p ∷ ps))) 28 (fitted (slip_in p).threshold (slip_in p).len (map slip_in (p ∷ ps))))))
          (sym e ∙ ap suc (sym (length-map ps slip_in))) (every_map (alike (slip_in p)) ps 0)
          ∙ ap (λ (xs : List ℕ). demand (leb (slip_in p).threshold (suc (length (map slip_in ps)))) 26 (demand (every (alike (slip_in p)) (map slip_in ps)) 27 (demand (distinct xs) 28 (fitted (slip_in p).threshold (slip_in p).len (map slip_in (p ∷ ps))))))
          (indexes_read (p ∷ ps)))

  pub too_few : (x : List ℕ) → n < t → Written 0 (combined (map slip_in slips)) x x (Err TooFewSlips)
  too_few x h = rw (in_turn, lt-leb t n h) (denied 0 x TooFewSlips)

  module _ (h : t ≤ n) (r : Bool) (e : r ≡ as_first slips) where
    pub of_two_secrets : (x : List ℕ) → not r ≡ true → Written 0 (combined (map slip_in slips)) x x (Err UnlikeSlips)
    of_two_secrets x k = rw (in_turn, le-leb t n h, said_no r _ e k) (denied 0 x UnlikeSlips)

    module _ (k : not r ≡ false) (d : Bool) (u : d ≡ distinct (map index_in slips)) where
      pub one_twice : (x : List ℕ) → not d ≡ true → Written 0 (combined (map slip_in slips)) x x (Err SlipTwice)
      one_twice x v = rw (in_turn, le-leb t n h, said_yes r _ e k, said_no d _ u v) (denied 0 x SlipTwice)

      pub as_fitted : not d ≡ false → (x x' : List ℕ) (w : Result ℕ Refusal) → Written 0 (fitted t len (map slip_in slips)) x x' w → Written 0 (combined (map slip_in slips)) x x' w
      as_fitted v x x' w z = rw (in_turn, le-leb t n h, said_yes r _ e k, said_yes d _ u v) z

-- ---- slips as they come

-- one more was read, and it makes no difference to whether all are
tail_past : (v : Slip) (a : Answer (List Slip)) → ◌≡◌ {A = Answer Unit} (then (then a (λ us. done (v ∷ us))) (λ vs. done (tt {0}))) (then a (λ vs. done (tt {0})))
tail_past v (done us) = refl
tail_past v (refused_at e k) = refl

slip_of_lem : (p : List ℕ) (v : Shard) (next : ℕ) → shard_at p ≡ got v next → slip_of p v ≡ slip_in p
unfolding slip_in shard_in
slip_of_lem p v next e = ap (slip_of p) (ap shard_from (sym e))

read_as : (slips : List (List ℕ)) → ◌≡◌ {A = Answer Unit} (done (tt {0})) (past slips) → read_slips slips ≡ done (map slip_in slips)
unfolding read_slips
read_as [] e = refl
read_as (p ∷ ps) e = go (read_as ps) (shard_at p) refl e
  where
    go : (◌≡◌ {A = Answer Unit} (done (tt {0})) (past ps) → read_slips ps ≡ done (map slip_in ps)) → (a : Got Shard) → shard_at p ≡ a
        → ◌≡◌ {A = Answer Unit} (done (tt {0})) (then (then a (λ (u, _). then (read_slips ps) (λ us. done (slip_of p u ∷ us)))) (λ vs. done (tt {0})))
        → then a (λ (u, _). then (read_slips ps) (λ us. done (slip_of p u ∷ us))) ≡ done (slip_in p ∷ map slip_in ps)
    go rest (done (u, next)) f h =
        ap (λ (b : Answer (List Slip)). then b (λ us. done (slip_of p u ∷ us))) (rest (h ∙ tail_past (slip_of p u) (read_slips ps)))
        ∙ ap (λ (v : Slip). done (v ∷ map slip_in ps)) (slip_of_lem p u next f)
    go rest (refused_at k l) f h = not_done (sym h)

module _ (slips given : List (List ℕ)) (g : slips ≡ given) where
  pub one_unread : (e : Refusal) → ◌≡◌ {A = Answer Unit} (refused (number e)) (past slips) → (r : Result ℕ Refusal) → r ≡ Err e → (x : List ℕ) → Written 0 (recovered given) x x r
  unfolding recovered
  one_unread e f r q x = rw (← g, q) (subst (λ (a : Answer (List ℕ)). Written 0 a x x (Err e)) (sym (go (read_slips slips) (sym f))) (denied 0 x e))
    where
      go : (a : Answer (List Slip)) → ◌≡◌ {A = Answer Unit} (then a (λ vs. done (tt {0}))) (refused (number e)) → then a combined ≡ refused (number e)
      go (done us) h = not_done (sym h)
      go (refused_at i j) h = ap (λ (z : Answer Unit). refused_at (number_of z) (place_of z)) h

  pub all_read_then : ◌≡◌ {A = Answer Unit} (done tt) (past slips) → (x x' : List ℕ) (w : Result ℕ Refusal) → Written 0 (combined (map slip_in slips)) x x' w → Written 0 (recovered given) x x' w
  unfolding recovered
  all_read_then f x x' w z =
      rw (← g) (subst (λ (a : Answer (List ℕ)). Written 0 a x x' w) (sym (ap (λ (a : Answer (List Slip)). then a combined) (read_as slips f))) z)

  pub no_slips : length slips < 1 → (x : List ℕ) → Written 0 (recovered given) x x (Err TooFewSlips)
  unfolding recovered read_slips combined
  no_slips h x = rw (← g) (go slips h)
    where
      go : (ps : List (List ℕ)) → length ps < 1 → Written 0 (recovered ps) x x (Err TooFewSlips)
      go [] h = denied 0 x TooFewSlips
      go (p ∷ ps) h = absurd (omega arith)

-- ---- two of one secret

module _ (a b : List ℕ) where
  pub first_unread : (r : Bool) → r ≡ reads a → r ≡ false → false ≡ of_one_secret a b
  unfolding of_one_secret reads
  first_unread r e h = sym (go (shard_at a) (sym e ∙ h))
    where
      go : (u : Got Shard) → is_done u ≡ false → holds (then u (λ (v, _). then (shard_at b) (λ (w, _). done (alike (slip_of a v) (slip_of b w))))) ≡ false
      go (done u) k = absurd (false≢true (sym k))
      go (refused_at e k) h = refl

  pub second_unread : (r : Bool) → r ≡ reads b → r ≡ false → false ≡ of_one_secret a b
  unfolding of_one_secret reads
  second_unread r e h = sym (go (shard_at a) (shard_at b) (sym e ∙ h))
    where
      go : (u w : Got Shard) → is_done w ≡ false → holds (then u (λ (v, _). then w (λ (x, _). done (alike (slip_of a v) (slip_of b x))))) ≡ false
      go u (done w) k = absurd (false≢true (sym k))
      go (done u) (refused_at e k) h = refl
      go (refused_at i j) (refused_at e k) h = refl

  pub both_said : (r : Bool) → r ≡ reads a → r ≡ true → (q : Bool) → q ≡ reads b → q ≡ true → (t : Bool) → t ≡ alike (slip_in a) (slip_in b) → t ≡ of_one_secret a b
  unfolding of_one_secret reads slip_in shard_in
  both_said r e h q f k t g = g ∙ sym (go (shard_at a) (shard_at b) (sym e ∙ h) (sym f ∙ k))
    where
      go : (u w : Got Shard) → is_done u ≡ true → is_done w ≡ true
          → holds (then u (λ (v, _). then w (λ (x, _). done (alike (slip_of a v) (slip_of b x))))) ≡ alike (slip_of a (shard_from u)) (slip_of b (shard_from w))
      go (done u) (done w) h k = refl
      go (done u) (refused_at i j) h k = absurd (false≢true k)
      go (refused_at i j) w h k = absurd (false≢true h)
