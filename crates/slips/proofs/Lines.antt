-- One line of an input, found byte by byte, and the lines behind it. Assumes nothing.
use Prim.Native.Nat.{ℕ, suc, ◌+◌, ◌-◌, ◌≤◌, ◌<◌}
use mathlib.Core.Path.{◌≡◌, refl, sym, ap, ◌∙◌}
use mathlib.Core.Logic.{⊎_elim}
use mathlib.Core.Bool.{Bool, true, false}
use mathlib.Core.List.{List, [], ◌∷◌, ◌++◌, append-nil}
use native.Mathlib.Omega.{arith}
use borrow.Author.Tests.{eq-eqb, ne_eqb, lt-ltb, le-ltb}
use lib.Dec.{ltb, eqb}
use lib.ListN.{length, take, drop, length-drop, drop_of_length-le}
use lib.Seq.{drop-drop, length-take-le, take_all, append_snoc}
use Rattle.std.specs.Prelude.{Option, cond, ◌==◌}
use Rattle.std.specs.Option.{unwrap_or}
use Rattle.std.specs.List.{position, position_or_len, count_by}
use Rattle.std.proofs.lemmas.List.Recursion.{is_position_or_len, is_count_by}
use Rattle.wire.specs.Answer.{choose}
use Rattle.wire.proofs.Cases.{lt_or_le, eq_or_ne}
use Rattle.typed.specs.Typed.{feed, cut}
use Rattle.slips.specs.Standing.{lines_from, first_line, feeds}
use Rattle.slips.specs.Private.{behind}

eqb_sym : (a b : ℕ) → eqb a b ≡ eqb b a
eqb_sym a b = ⊎_elim (λ (e : a ≡ b). eq-eqb a b e ∙ sym (eq-eqb b a (sym e))) (λ (n : a ≡ b → ⊥). ne_eqb a b n ∙ sym (ne_eqb b a (λ (e : b ≡ a). n (sym e)))) (eq_or_ne a b)

-- how many bytes stand in front of the first line feed
pub line_length : List ℕ → ℕ
line_length [] = 0
line_length (c ∷ cs) = choose (eqb c feed) 0 (suc (line_length cs))

line_most : (cs : List ℕ) → line_length cs ≤ length cs
unfolding line_length
line_most [] = omega arith
line_most (c ∷ cs) = go (eqb c feed) (line_most cs)
  where
    go : (t : Bool) → line_length cs ≤ length cs → choose t 0 (suc (line_length cs)) ≤ suc (length cs)
    go true h = omega arith
    go false h = omega arith

-- a test that holds where another does
same_test : (m n i k : ℕ) → (m < n → i < k) → (n ≤ m → k ≤ i) → ltb i k ≡ ltb m n
same_test m n i k p q =
    ⊎_elim (λ h. lt-ltb i k (p h) ∙ sym (lt-ltb m n h)) (λ h. le-ltb i k (q h) ∙ sym (le-ltb m n h)) (lt_or_le m n)

-- the first line, and those behind it
cut_front : (line cs : List ℕ) → cut line cs ≡ (line ++ take (line_length cs) cs) ∷ choose (ltb (line_length cs) (length cs)) (cut [] (drop (suc (line_length cs)) cs)) []
unfolding cut line_length
cut_front line [] = ap (λ (l : List ℕ). l ∷ []) (sym (append-nil line))
cut_front line (c ∷ cs) = go (eqb c feed) (cut_front (line ++ (c ∷ [])) cs)
  where
    go : (t : Bool)
        → cut (line ++ (c ∷ [])) cs ≡ ((line ++ (c ∷ [])) ++ take (line_length cs) cs) ∷ choose (ltb (line_length cs) (length cs)) (cut [] (drop (suc (line_length cs)) cs)) []
        → choose t (line ∷ cut [] cs) (cut (line ++ (c ∷ [])) cs)
        ≡ (line ++ take (choose t 0 (suc (line_length cs))) (c ∷ cs))
        ∷ choose (ltb (choose t 0 (suc (line_length cs))) (suc (length cs))) (cut [] (drop (suc (choose t 0 (suc (line_length cs)))) (c ∷ cs))) []
    go true e = rw (append-nil line, lt-ltb 0 (suc (length cs)) (omega arith))
    go false e =
        e
        ∙ ap (λ (l : List ℕ). l ∷ choose (ltb (line_length cs) (length cs)) (cut [] (drop (suc (line_length cs)) cs)) []) (append_snoc line c (take (line_length cs) cs))
        ∙ ap (λ (b : Bool). (line ++ (c ∷ take (line_length cs) cs)) ∷ choose b (cut [] (drop (suc (line_length cs)) cs)) [])
        (sym (same_test (line_length cs) (length cs) (suc (line_length cs)) (suc (length cs)) (λ h. omega arith) (λ h. omega arith)))

first_length : (cs : List ℕ) → length (first_line (cut [] cs)) ≡ line_length cs
first_length cs = ap (λ (ls : List (List ℕ)). length (first_line ls)) (cut_front [] cs) ∙ length-take-le (line_length cs) cs (line_most cs)

-- ---- the end of a line, found as the first line feed

stands_before : (cs : List ℕ) → line_length cs ≡ position_or_len (λ c. feed == c) cs
unfolding line_length
stands_before = is_position_or_len line_length (λ c. feed == c) refl (λ c cs. rw (eqb_sym c feed) (go (eqb feed c) (line_length cs)))
  where
    go : (t : Bool) (n : ℕ) → choose t 0 (suc n) ≡ cond t 0 (1 + n)
    go true n = refl
    go false n = omega arith

place_or_all : (p : ℕ → Bool) (xs : List ℕ) → position_or_len p xs ≤ length xs → unwrap_or (position p xs) (length xs) ≡ position_or_len p xs
place_or_all p xs l = ⊎_elim (λ h. rw (lt-ltb (position_or_len p xs) (length xs) h)) (λ h. rw (le-ltb (position_or_len p xs) (length xs) h) (omega arith)) (lt_or_le (position_or_len p xs) (length xs))

module _ (s : List ℕ) (at : ℕ) where
  module _ (h : at < length s) (o : Option ℕ) (d : o ≡ position (λ c. feed == c) (take (length s - at) (drop at s))) (k : ℕ) (e : k ≡ unwrap_or o (length s - at)) where
    first_feed : k ≡ line_length (drop at s)
    first_feed =
        let m = length-drop at s in
        let t : take (length s - at) (drop at s) ≡ drop at s = take_all (length s - at) (drop at s) (omega arith) in
        let l = line_most (drop at s) in
        let f = stands_before (drop at s) in
        e
        ∙ ap (λ (r : Option ℕ). unwrap_or r (length s - at)) d
        ∙ ap (λ (xs : List ℕ). unwrap_or (position (λ c. feed == c) xs) (length s - at)) t
        ∙ ap (unwrap_or (position (λ c. feed == c) (drop at s))) (sym m)
        ∙ place_or_all (λ c. feed == c) (drop at s) (omega arith)
        ∙ sym f

    pub reached_feed : at + k ≡ at + length (first_line (lines_from s at))
    reached_feed = omega (arith, first_feed, first_length (drop at s))

  pub reached_end : length s ≤ at → at ≡ at + length (first_line (lines_from s at))
  unfolding line_length
  reached_end h =
      let z : line_length (drop at s) ≡ 0 = rw (drop_of_length-le s {i = at} h) refl in
      omega (arith, z, first_length (drop at s))

-- ---- the line that ends there

module _ (s : List ℕ) (from end : ℕ) (e : end ≡ from + length (first_line (lines_from s from))) where
  ends : end ≡ from + line_length (drop from s)
  ends = omega (arith, e, first_length (drop from s))

  pub line_behind : from ≤ end
  line_behind = omega (arith, e)

  module _ (h : from ≤ length s) where
    pub line_fits : end ≤ length s
    line_fits = omega (arith, ends, line_most (drop from s), length-drop from s)

    pub line_length_lem : length (take (end - from) (drop from s)) ≡ end - from
    line_length_lem = length-take-le (end - from) (drop from s) (omega (arith, line_fits, length-drop from s))

    -- the first line is what stands up to there
    pub lines_are : lines_from s from ≡ take (end - from) (drop from s) ∷ behind s end
    unfolding behind
    lines_are =
        let n : ℕ = line_length (drop from s) in
        let z : n ≡ end - from = omega (arith, ends) in
        let m : from + suc n ≡ end + 1 = omega (arith, ends) in
        let d : drop (suc n) (drop from s) ≡ drop (end + 1) s = drop-drop (suc n) from s ∙ ap (λ (k : ℕ). drop k s) m in
        let t : ltb n (length (drop from s)) ≡ ltb end (length s) =
        same_test end (length s) n (length (drop from s)) (λ l. omega (arith, ends, length-drop from s)) (λ l. omega (arith, ends, length-drop from s)) in
        cut_front [] (drop from s)
        ∙ ap (λ (k : ℕ). take k (drop from s) ∷ choose (ltb n (length (drop from s))) (cut [] (drop (suc n) (drop from s))) []) z
        ∙ ap (λ (b : Bool). take (end - from) (drop from s) ∷ choose b (cut [] (drop (suc n) (drop from s))) []) t
        ∙ ap (λ (r : List ℕ). take (end - from) (drop from s) ∷ choose (ltb end (length s)) (cut [] r) []) d

-- a line that begins behind an index of the input, and one that begins at such an index
module _ (s : List ℕ) (last stop : ℕ) (h : last < length s) (e : stop ≡ last + 1 + length (first_line (lines_from s (last + 1)))) where
  pub stop_fits : stop ≤ length s
  stop_fits = line_fits s (last + 1) stop e (omega arith)

pub end_fits : (s : List ℕ) (from end : ℕ) → from < length s → end ≡ from + length (first_line (lines_from s from)) → end ≤ length s
end_fits s from end h e = line_fits s from end e (omega arith)

module _ (s : List ℕ) (end : ℕ) where
  pub behind_some : end < length s → behind s end ≡ lines_from s (end + 1)
  unfolding behind
  behind_some h = rw (lt-ltb end (length s) h)

  pub behind_none : length s ≤ end → behind s end ≡ []
  unfolding behind
  behind_none h = rw (le-ltb end (length s) h)

-- ---- line feeds, counted

pub feeds_counted : (s : List ℕ) → feeds s ≡ count_by (λ c. c == feed) s
unfolding feeds
feeds_counted = is_count_by feeds (λ c. c == feed) refl (λ c cs. go (eqb c feed) (feeds cs))
  where
    go : (t : Bool) (n : ℕ) → choose t (suc n) n ≡ cond t (1 + n) n
    go true n = omega arith
    go false n = refl
