-- Characters and counts, as the code tests them. Assumes nothing.
use Prim.Native.Nat.{ℕ, suc, ◌+◌, ◌≤◌, ◌<◌}
use mathlib.Core.Path.{◌≡◌, refl, sym, ap, ◌∙◌}
use mathlib.Core.Bool.{Bool, true, false, not, ◌&&◌, ◌||◌}
use mathlib.Core.List.{List, [], ◌∷◌, ◌++◌}
use native.Mathlib.Omega.{arith}
use borrow.Author.Tests.{le-leb, lt-leb}
use lib.Dec.{leb, eqb}
use native.Mathlib.Numerals.{add-one}
use lib.ListN.{length, get_or, take, drop, length-append}
use lib.Seq.{take-suc, take_all, take_at, length-take-le}
use Rattle.wire.specs.Answer.{choose, Answer, done, refused_at}
use Rattle.wire.specs.Refusal.{number, Placeless}
use Rattle.wire.specs.declared.Refusal.{Refusal}
use Rattle.wire.specs.declared.RefusedAt.{RefusedAt}
use Rattle.wire.specs.Every.{every}
use Rattle.wire.specs.Over.{over}
use Rattle.wire.proofs.Overs.{over_none, over_fits, length_over}
use Rattle.typed.specs.Typed.{feed, skipped, plain, is_letter, count_right, right, read_line}
use Rattle.typed.specs.Private.{typable, possible}
use Rattle.wire.proofs.Cases.{said_yes, said_no, both_hold}
use Rattle.typed.proofs.Cutting.{plain_append}
use Rattle.typed.proofs.Rows.{count_bounds}

and_no : (b : Bool) → (b && false) ≡ false
and_no true = refl
and_no false = refl

-- ---- a whole text

pub plain_most : (cs : List ℕ) → length (plain cs) ≤ length cs
unfolding plain
plain_most [] = omega arith
plain_most (c ∷ cs) = go (skipped c) (plain_most cs)
  where
    go : (t : Bool) → length (plain cs) ≤ length cs → length (choose t (plain cs) (c ∷ plain cs)) ≤ suc (length cs)
    go true h = omega arith
    go false h = omega arith

-- each character that is not skipped passes
pub every_plain : (test : ℕ → Bool) (cs : List ℕ) → every (λ c. skipped c || test c) cs ≡ every test (plain cs)
unfolding plain every
every_plain test [] = refl
every_plain test (c ∷ cs) = go (skipped c) (every_plain test cs)
  where
    go : (t : Bool) → every (λ c. skipped c || test c) cs ≡ every test (plain cs)
        → ((t || test c) && every (λ c. skipped c || test c) cs) ≡ every test (choose t (plain cs) (c ∷ plain cs))
    go true e = e
    go false e = ap (λ (b : Bool). test c && b) e

-- ---- one character more is kept

pub keep_none : (c n : ℕ) (kept : List ℕ) (r : Bool) → r ≡ skipped c → r ≡ true → (n ≡ n + length (plain (c ∷ []))) × (kept ≡ over n (plain (c ∷ [])) kept)
unfolding plain
keep_none c n kept r e t = rw (sym e ∙ t) (omega arith, sym (over_none n kept))

pub keep_one : (c n : ℕ) (kept x : List ℕ) (r : Bool) → r ≡ skipped c → r ≡ false → x ≡ over n (c ∷ []) kept
    → (n + 1 ≡ n + length (plain (c ∷ []))) × (x ≡ over n (plain (c ∷ [])) kept)
unfolding plain
keep_one c n kept x r e f q = rw (sym e ∙ f) (refl, q)

-- what stands in front once bytes were written behind n others
pub front_over : (n : ℕ) (bs l : List ℕ) → n + length bs ≤ length l → take (n + length bs) (over n bs l) ≡ take n l ++ bs
front_over n bs l h =
    rw (over_fits n bs l h)
    (take_at (take n l ++ bs) (drop (n + length bs) l) (n + length bs) (length-append (take n l) bs ∙ ap (λ (k : ℕ). k + length bs) (length-take-le n l (omega arith))))

-- the first i characters stand squeezed at the front of kept, as far as there is room
pub record Squeezed (text kept₀ kept : List ℕ) (n i : ℕ) : Type 0 where
  pub count : n ≡ length (plain (take i text))
  pub stands : n ≤ length kept → take n kept ≡ plain (take i text)
  pub same : length kept ≡ length kept₀

pub squeezed_none : (text kept : List ℕ) → Squeezed text kept kept 0 0
unfolding plain
squeezed_none text kept = record { count = refl; stands = λ h. refl; same = refl }

module _ (text kept₀ kept : List ℕ) (n i : ℕ) (s : Squeezed text kept₀ kept n i) (h : i < length text) where
  pub squeezed_few : n ≤ i
  squeezed_few = omega (arith, s.count, plain_most (take i text), length-take-le i text (omega arith))

  pub squeezed_next : (x : List ℕ) (m : ℕ) → m ≡ n + length (plain (get_or text i 0 ∷ [])) → x ≡ over n (plain (get_or text i 0 ∷ [])) kept
      → Squeezed text kept₀ x m (i + 1)
  squeezed_next x m e q =
      let c : ℕ = get_or text i 0 in
      let more : plain (take (i + 1) text) ≡ plain (take i text) ++ plain (c ∷ []) = rw (add-one, take-suc text i 0 h) (plain_append (take i text) (c ∷ [])) in
      let len : m ≡ length (plain (take (i + 1) text)) = e ∙ rw (s.count, more) (sym (length-append (plain (take i text)) (plain (c ∷ [])))) in
      let same : length x ≡ length kept = ap length q ∙ length_over n (plain (c ∷ [])) kept in
      record {
        count = len;
        stands = λ l. rw (q, e, more) (front_over n (plain (c ∷ [])) kept (omega arith) ∙ ap (λ (z : List ℕ). z ++ plain (c ∷ [])) (s.stands (omega arith)));
        same = same ∙ s.same;
      }

pub squeezed_all : (text kept₀ kept : List ℕ) (n i : ℕ) → Squeezed text kept₀ kept n i → length text ≤ i
    → (n ≡ length (plain text)) × (n ≤ length kept → take n kept ≡ plain text)
squeezed_all text kept₀ kept n i s h =
    let e : take i text ≡ text = take_all i text h in
    (s.count ∙ ap (λ (l : List ℕ). length (plain l)) e, λ l. s.stands l ∙ ap plain e)

-- ---- how many characters a line may have

module _ (last : Bool) (number n : ℕ) where
  pub no_line_zero : number < 1 → false ≡ possible last number n
  unfolding possible
  no_line_zero h = rw (lt-leb 1 number h)

  pub no_line_above : 20 < number → false ≡ possible last number n
  unfolding possible
  no_line_above h = rw (lt-leb number 20 h, and_no (leb 1 number))

  module _ (a : 1 ≤ number) (b : number ≤ 20) where
    numbered : possible last number n ≡ count_right last n
    unfolding possible
    numbered = rw (le-leb 1 number a, le-leb number 20 b)

    pub last_count : last ≡ true → (leb 3 n && leb n 42) ≡ possible last number n
    unfolding count_right
    last_count e = sym (numbered ∙ rw e)

    pub full_count : last ≡ false → eqb n 42 ≡ possible last number n
    unfolding count_right
    full_count e = sym (numbered ∙ rw e)

-- ---- one line by itself

-- whether a text may have all its characters, and whether a line may
pub every_text : (cs : List ℕ) → every (λ c. skipped c || typable true c) cs ≡ every (λ c. eqb c feed || is_letter c) (plain cs)
unfolding typable
every_text cs = every_plain (λ c. eqb c feed || is_letter c) cs

every_line : (cs : List ℕ) → every (λ c. skipped c || typable false c) cs ≡ every is_letter (plain cs)
unfolding typable
every_line cs = every_plain is_letter cs

-- a refusal that comes without a place
pub placed : {A : Type 0} (b : Refusal) (e : RefusedAt) → Placeless b e → (y : Answer A) → refused_at (number b) 0 ≡ y → refused_at (number e.why) e.place ≡ y
placed b e (p, q) y k = rw (p, q) k

module _ (last : Bool) (number : ℕ) (cs : List ℕ) (s : Bool) (spelt : s ≡ every (λ c. skipped c || typable false c) cs) where
  pub line_unspelt : not s ≡ true → refused_at 1 0 ≡ read_line last number cs
  unfolding read_line
  line_unspelt h = rw (sym (every_line cs), said_no s _ spelt h)

  module _ (good : not s ≡ false) (n : ℕ) (count : n ≡ length (plain cs)) (p : Bool) (e : p ≡ possible last number n) where
    pub line_impossible : not p ≡ true → refused_at 2 0 ≡ read_line last number cs
    unfolding read_line possible
    line_impossible h = rw (sym (every_line cs), said_yes s _ spelt good, ← count, said_no p _ e h)

    module _ (may : not p ≡ false) where
      pub line_bounds : (3 ≤ n) × (n ≤ 42)
      unfolding possible
      line_bounds = count_bounds last n (both_hold (leb 1 number && leb number 20) (count_right last n) (said_yes p _ e may)).1

      module _ (l : List ℕ) (stands : take n l ≡ plain cs) (r : Bool) (f : r ≡ right number (take n l)) where
        pub line_right : r ≡ true → done tt ≡ read_line last number cs
        unfolding read_line possible
        line_right h = rw (sym (every_line cs), said_yes s _ spelt good, ← count, said_yes p _ e may, ← stands, ← f, h)

        pub line_wrong : r ≡ false → refused_at 23 number ≡ read_line last number cs
        unfolding read_line possible
        line_wrong h = rw (sym (every_line cs), said_yes s _ spelt good, ← count, said_yes p _ e may, ← stands, ← f, h)
