-- A text is its parts joined by slashes; which parts are names; and that the library's `split`
-- finds its parts. Assumes nothing.
use mathlib.Core.Path.{◌≡◌, refl, sym, ap, ◌∙◌}
use mathlib.Core.Logic.{◌⊎◌, inl, inr}
use mathlib.Core.Bool.{Bool, true, false, not, ◌&&◌, false≢true}
use mathlib.Core.List.{List, [], ◌∷◌, ◌++◌, append-nil}
use Prim.Native.Nat.{ℕ, ◌<◌}
use native.Mathlib.Omega.{arith}
use lib.Dec.{eqb}
use lib.ListN.{length}
use lib.Seq.{append_snoc}
use borrow.Author.Tests.{eq-eqb, ne_eqb, eqb-true, eqb-false, not-true}
use Rattle.std.specs.List.{list_all, slice_split, onto_first}
use Rattle.std.proofs.lemmas.List.Splits.{length-slice_split}
use Rattle.wire.proofs.Cases.{both_hold, eq_or_ne}
use Rattle.lend.specs.Same.{same}
use Rattle.lend.proofs.Sames.{pointwise_same}
use lib.Pointwise.{pointwise}
use Rattle.std.specs.Bool.{◌==◌}
use Rattle.wire.specs.Every.{every, without}
use Rattle.path.specs.Names.{slash, here, above, parts_after, parts, slashed, is_name}

-- ---- the part at hand

module _ (p : List ℕ) (b : ℕ) (s : List ℕ) where
  pub part_ends : b ≡ slash → parts_after p (b ∷ s) ≡ p ∷ parts s
  unfolding parts_after
  part_ends e = rw (eq-eqb b slash e)

  pub part_grows : (b ≡ slash → ⊥) → parts_after p (b ∷ s) ≡ parts_after (p ++ (b ∷ [])) s
  unfolding parts_after
  part_grows n = rw (ne_eqb b slash n)

-- what holds of a text's parts at its end, and before a byte if behind it, holds of every text's
-- parts
module _ (P : List ℕ → List ℕ → List (List ℕ) → Type 0)
    (done : (p : List ℕ) → P p [] (p ∷ []))
    (ended : (p s : List ℕ) → P [] s (parts s) → P p (slash ∷ s) (p ∷ parts s))
    (grew : (p : List ℕ) (b : ℕ) (s : List ℕ) → (b ≡ slash → ⊥) → P (p ++ (b ∷ [])) s (parts_after (p ++ (b ∷ [])) s)
    → P p (b ∷ s) (parts_after (p ++ (b ∷ [])) s))
  where
    of_parts : (p s : List ℕ) → P p s (parts_after p s)
    unfolding parts_after
    of_parts p [] = done p
    of_parts p (b ∷ s) = go (eq_or_ne b slash) (of_parts [] s) (of_parts (p ++ (b ∷ [])) s)
      where
        go : (b ≡ slash) ⊎ (b ≡ slash → ⊥) → P [] s (parts s) → P (p ++ (b ∷ [])) s (parts_after (p ++ (b ∷ [])) s) → P p (b ∷ s) (parts_after p (b ∷ s))
        go (inl e) x y = rw (part_ends p b s e, e) (ended p s x)
        go (inr n) x y = rw (part_grows p b s n) (grew p b s n y)

-- there is always a part
pub parts_some : (p s : List ℕ) → 0 < length (parts_after p s)
parts_some = of_parts (λ (p s : List ℕ) (ps : List (List ℕ)). 0 < length ps) (λ p. omega arith) (λ p s h. omega arith) (λ p b s n h. h)

-- ---- a text is its parts joined by slashes

slashed_more : (p : List ℕ) (ps : List (List ℕ)) → 0 < length ps → slashed (p ∷ ps) ≡ p ++ (slash ∷ slashed ps)
unfolding slashed
slashed_more p [] h = absurd (omega arith)
slashed_more p (q ∷ ps) h = refl

slashed_after : (p s : List ℕ) → slashed (parts_after p s) ≡ p ++ s
unfolding slashed
slashed_after =
    of_parts (λ (p s : List ℕ) (ps : List (List ℕ)). slashed ps ≡ p ++ s)
    (λ p. sym (append-nil p))
    (λ p s e. slashed_more p (parts s) (parts_some [] s) ∙ ap (λ (t : List ℕ). p ++ (slash ∷ t)) e)
    (λ p b s n e. e ∙ append_snoc p b s)

-- For the reader: a text is its parts joined by slashes
pub joined_parts : (s : List ℕ) → slashed (parts s) ≡ s
joined_parts s = slashed_after [] s

-- a slash between two texts: the parts of the one, then those of the other
pub parts_append : (s t : List ℕ) → parts (s ++ (slash ∷ t)) ≡ parts s ++ parts t
parts_append s t =
    of_parts (λ (p s : List ℕ) (ps : List (List ℕ)). parts_after p (s ++ (slash ∷ t)) ≡ ps ++ parts t)
    (λ p. part_ends p slash t refl)
    (λ p s e. part_ends p slash (s ++ (slash ∷ t)) refl ∙ ap (λ (l : List (List ℕ)). p ∷ l) e)
    (λ p b s n e. part_grows p b (s ++ (slash ∷ t)) n ∙ e)
    []
    s

-- a text without a slash is its only part
part_whole : (p s : List ℕ) → without slash s ≡ true → parts_after p s ≡ (p ++ s) ∷ []
unfolding parts_after every
part_whole p [] e = rw (append-nil p)
part_whole p (b ∷ s) e =
    let q = both_hold (not (eqb b slash)) (without slash s) e in
    let n = eqb-false b slash (not-true (eqb b slash) q.0) in
    part_grows p b s n ∙ part_whole (p ++ (b ∷ [])) s q.1 ∙ ap (λ (l : List ℕ). l ∷ []) (append_snoc p b s)

pub parts_joined : (p : List ℕ) (ps : List (List ℕ)) → every (without slash) (p ∷ ps) ≡ true → parts (slashed (p ∷ ps)) ≡ p ∷ ps
unfolding slashed every
parts_joined p [] e = part_whole [] p (both_hold (without slash p) true e).0
parts_joined p (q ∷ ps) e =
    let k = both_hold (without slash p) (every (without slash) (q ∷ ps)) e in
    parts_append p (slashed (q ∷ ps)) ∙ rw (part_whole [] p k.0, parts_joined q ps k.1)

-- ---- which parts are names, by the `==` of slices

pub name_empty : (p : List ℕ) → length p ≡ 0 → is_name p ≡ false
unfolding is_name same
name_empty [] h = refl
name_empty (a ∷ p) h = absurd (omega arith)

pub name_nothing : (p : List ℕ) → true ≡ (length p == 0) → false ≡ is_name p
name_nothing p h = sym (name_empty p (eqb-true (length p) 0 (sym h)))

name_some : (p : List ℕ) → false ≡ (length p == 0) → is_name p ≡ (not (pointwise eqb p here) && not (pointwise eqb p above))
unfolding is_name same
name_some [] h = absurd (false≢true h)
name_some (a ∷ p) h = rw (← pointwise_same (a ∷ p) here, ← pointwise_same (a ∷ p) above)

-- the tests one after another: l is `here` and m is `above`
module _ (p l : List ℕ) (v r : Bool) (some : false ≡ (length p == 0)) (e : l ≡ here) (f : r ≡ not (pointwise eqb p l)) (g : v ≡ r) where
  first : is_name p ≡ (v && not (pointwise eqb p above))
  first = rw (g, f, e) (name_some p some)

  pub name_here : v ≡ false → v ≡ is_name p
  name_here n = n ∙ sym (first ∙ rw n)

  pub name_above : (m : List ℕ) (z : Bool) → v ≡ true → m ≡ above → z ≡ not (pointwise eqb p m) → z ≡ is_name p
  name_above m z n i j = rw (j, i) (sym (first ∙ rw n))

-- ---- the library cuts a text at its slashes into its parts

-- p before the first of them
onto : List ℕ → List (List ℕ) → List (List ℕ)
onto p [] = []
onto p (q ∷ qs) = (p ++ q) ∷ qs

onto_nothing : (qs : List (List ℕ)) → onto [] qs ≡ qs
unfolding onto
onto_nothing [] = refl
onto_nothing (q ∷ qs) = refl

onto_grown : (p : List ℕ) (b : ℕ) (qs : List (List ℕ)) → 0 < length qs → onto (p ++ (b ∷ [])) qs ≡ onto p (onto_first b qs)
unfolding onto
onto_grown p b [] h = absurd (omega arith)
onto_grown p b (q ∷ qs) h = ap (λ (l : List ℕ). l ∷ qs) (append_snoc p b q)

cut_parts : (p s : List ℕ) → parts_after p s ≡ onto p (slice_split (λ b. eqb b slash) s)
unfolding parts_after onto
cut_parts p [] = rw (append-nil p)
cut_parts p (b ∷ s) = go (eq_or_ne b slash) (cut_parts [] s) (cut_parts (p ++ (b ∷ [])) s)
  where
    cut : List (List ℕ)
    cut = slice_split (λ b. eqb b slash) s

    go : (b ≡ slash) ⊎ (b ≡ slash → ⊥) → parts s ≡ onto [] cut → parts_after (p ++ (b ∷ [])) s ≡ onto (p ++ (b ∷ [])) cut
        → parts_after p (b ∷ s) ≡ onto p (slice_split (λ b. eqb b slash) (b ∷ s))
    go (inl e) x y = part_ends p b s e ∙ rw (eq-eqb b slash e, append-nil p) (ap (λ (l : List (List ℕ)). p ∷ l) (x ∙ onto_nothing cut))
    go (inr n) x y = part_grows p b s n ∙ y ∙ rw (ne_eqb b slash n) (onto_grown p b cut (omega (arith, length-slice_split (λ b. eqb b slash) s)))

pub cut_is_parts : (s : List ℕ) → slice_split (λ b. eqb b slash) s ≡ parts s
cut_is_parts s = sym (cut_parts [] s ∙ onto_nothing _)

-- `all` of the library is `every`
pub all_every : {A : Type 0} (test : A → Bool) (xs : List A) → list_all test xs ≡ every test xs
unfolding every
all_every test [] = refl
all_every test (x ∷ xs) = ap (λ (b : Bool). test x && b) (all_every test xs)
