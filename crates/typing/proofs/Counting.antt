-- The counts of the lines, judged character by character. Assumes nothing.
use Prim.Native.Nat.{ℕ, suc, ◌+◌, ◌≤◌, ◌<◌}
use mathlib.Core.Path.{◌≡◌, refl, sym, ap, ◌∙◌}
use mathlib.Core.Bool.{Bool, true, false, not}
use mathlib.Core.List.{List, [], ◌∷◌, ◌++◌}
use native.Mathlib.Numerals.{add-one}
use native.Mathlib.Omega.{arith}
use borrow.Author.Tests.{eq-eqb, ne_eqb, lt-ltb, le-ltb, le-leb, lt-leb, eqb-true, eqb-false}
use lib.Dec.{leb, eqb}
use lib.ListN.{length, drop, get_or, drop_of_length-le, length-append}
use lib.Seq.{drop-cons}
use Rattle.wire.specs.Answer.{choose}
use Rattle.wire.proofs.Cases.{said_yes, said_no}
use Rattle.typed.specs.Typed.{feed, skipped, plain, cut, lines_of, count_right, none}
use Rattle.typing.specs.Typing.{count_fault}
use Rattle.typing.specs.Private.{stepped, ended}
use Rattle.typing.specs.declared.Fault.{Fault}
use Rattle.typing.specs.declared.Fault.TheVariants.{Count, Surplus, Whole}
use Rattle.typing.specs.declared.faults.At.{At}
use Rattle.std.specs.Prelude.{Result, Ok, Err}

abbrev pub onward : Result At Fault → (At → Fault) → Fault
onward (Ok a) f = f a
onward (Err fault) f = fault

-- what is wrong with the counts of what is left
pub count_from : At → List ℕ → Fault
count_from a [] = ended a
count_from a (c ∷ cs) = onward (stepped a c) (λ b. count_from b cs)

-- ---- one character, as the code tests it

module _ (n : ℕ) (last : Bool) where
  pub full_fits : last ≡ false → eqb n 42 ≡ count_right last n
  unfolding count_right
  full_fits e = rw e

  module _ (e : last ≡ true) where
    pub last_few : n < 3 → leb 3 n ≡ count_right last n
    unfolding count_right
    last_few h = rw (e, lt-leb 3 n h)

    pub last_fits : 3 ≤ n → leb n 42 ≡ count_right last n
    unfolding count_right
    last_fits h = rw (e, le-leb 3 n h)

module _ (a : At) (r : Bool) (e : r ≡ count_right false a.count) where
  pub close_wrong : not r ≡ true → Err (Count a.n a.count false) ≡ stepped a 10
  unfolding stepped
  close_wrong f = rw (said_no r (count_right false a.count) e f)

  module _ (t : not r ≡ false) where
    pub close_surplus : a.n ≡ 20 → Err Surplus ≡ stepped a 10
    unfolding stepped
    close_surplus q = rw (said_yes r (count_right false a.count) e t, eq-eqb a.n 20 q)

    pub close_on : (a.n ≡ 20 → ⊥) → Ok (record { n = a.n + 1; count = 0 }) ≡ stepped a 10
    unfolding stepped
    close_on q = rw (said_yes r (count_right false a.count) e t, ne_eqb a.n 20 q, add-one a.n)

module _ (a : At) (c : ℕ) where
  pub feed_closed : c ≡ feed → (s : Result At Fault) → s ≡ stepped a 10 → s ≡ stepped a c
  feed_closed e s q = rw e q

  module _ (n : c ≡ feed → ⊥) (r : Bool) (e : r ≡ skipped c) where
    pub feed_skipped : r ≡ true → Ok a ≡ stepped a c
    unfolding stepped
    feed_skipped t = rw (ne_eqb c feed n, sym e ∙ t)

    pub feed_counted : r ≡ false → Ok (record { n = a.n; count = a.count + 1 }) ≡ stepped a c
    unfolding stepped
    feed_counted f = rw (ne_eqb c feed n, sym e ∙ f, add-one a.count)

module _ (a : At) (r : Bool) (e : r ≡ count_right true a.count) where
  pub ended_right : r ≡ true → Whole 2 ≡ ended a
  unfolding ended
  ended_right t = rw (sym e ∙ t)

  pub ended_wrong : r ≡ false → Count a.n a.count true ≡ ended a
  unfolding ended
  ended_wrong f = rw (sym e ∙ f)

-- ---- a text has a line, and behind the 20th there is none

some_line : (line cs : List ℕ) → none (cut line cs) ≡ false
unfolding cut
some_line line [] = refl
some_line line (c ∷ cs) = go (eqb c feed) (some_line (line ++ (c ∷ [])) cs)
  where
    go : (t : Bool) → none (cut (line ++ (c ∷ [])) cs) ≡ false → none (choose t (line ∷ cut [] cs) (cut (line ++ (c ∷ [])) cs)) ≡ false
    go true e = refl
    go false e = e

line_above : (n : ℕ) (ls : List (List ℕ)) → 20 < n → none ls ≡ false → count_fault n ls ≡ Surplus
unfolding count_fault
line_above n [] h e = let z : ◌≡◌ {A = Bool} true false = e in cc
line_above n (l ∷ ls) h e = rw (lt-ltb 20 n h)

-- ---- the walk over characters is the one over lines

module _ (n : ℕ) (line : List ℕ) (c : ℕ) (cs : List ℕ) (h : n ≤ 20) where
  abbrev here : At
  here = record { n = n; count = length line }

  abbrev same : ℕ → List ℕ → Type 0
  same m l = count_from (record { n = m; count = length l }) cs ≡ count_fault m (cut l (plain cs))

  walk_feed : eqb c feed ≡ true → (n < 20 → same (suc n) []) → count_from here (c ∷ cs) ≡ count_fault n (cut line (plain (c ∷ cs)))
  unfolding count_from stepped count_fault plain cut skipped
  walk_feed e on =
      rw (eqb-true c feed e, le-ltb 20 n h, some_line [] (plain cs))
      (go (count_right false (length line)) (eqb n 20) refl)
    where
      go : (t u : Bool) → eqb n 20 ≡ u
          → onward (choose t (choose u (Err Surplus) (Ok (record { n = suc n; count = 0 }))) (Err (Count n (length line) false))) (λ b. count_from b cs)
          ≡ choose t (count_fault (suc n) (cut [] (plain cs))) (Count n (length line) false)
      go true true q = sym (line_above (suc n) (cut [] (plain cs)) (omega (arith, eqb-true n 20 q)) (some_line [] (plain cs)))
      go true false q = on (ne_below (eqb-false n 20 q))
        where
          ne_below : (n ≡ 20 → ⊥) → n < 20
          ne_below d = omega arith
      go false u q = refl

  walk_skip : eqb c feed ≡ false → skipped c ≡ true → same n line → count_from here (c ∷ cs) ≡ count_fault n (cut line (plain (c ∷ cs)))
  unfolding count_from stepped plain
  walk_skip e s on = rw (e, s) on

  kept : skipped c ≡ false → plain (c ∷ cs) ≡ c ∷ plain cs
  unfolding plain
  kept s = rw s

  longer : eqb c feed ≡ false → (ps : List ℕ) → cut line (c ∷ ps) ≡ cut (line ++ (c ∷ [])) ps
  unfolding cut
  longer e ps = rw e

  one_more : eqb c feed ≡ false → skipped c ≡ false → count_from here (c ∷ cs) ≡ count_from (record { n = n; count = suc (length line) }) cs
  unfolding count_from stepped
  one_more e s = rw (e, s)

  walk_count : eqb c feed ≡ false → skipped c ≡ false → same n (line ++ (c ∷ [])) → count_from here (c ∷ cs) ≡ count_fault n (cut line (plain (c ∷ cs)))
  walk_count e s on =
      let z : length (line ++ (c ∷ [])) ≡ suc (length line) = length-append line (c ∷ []) ∙ add-one (length line) in
      one_more e s ∙ (rw z at on) ∙ sym (ap (λ (ls : List (List ℕ)). count_fault n ls) (ap (cut line) (kept s) ∙ longer e (plain cs)))

counted_lines : (n : ℕ) (line cs : List ℕ) → n ≤ 20 → count_from (record { n = n; count = length line }) cs ≡ count_fault n (cut line (plain cs))
unfolding count_from ended count_fault plain cut
counted_lines n line [] h = rw (le-ltb 20 n h)
counted_lines n line (c ∷ cs) h = go (eqb c feed) (skipped c) refl refl (λ m l. counted_lines m l cs)
  where
    go : (t u : Bool) → eqb c feed ≡ t → skipped c ≡ u
        → ((m : ℕ) (l : List ℕ) → m ≤ 20 → count_from (record { n = m; count = length l }) cs ≡ count_fault m (cut l (plain cs)))
        → count_from (record { n = n; count = length line }) (c ∷ cs) ≡ count_fault n (cut line (plain (c ∷ cs)))
    go true u e s on = walk_feed n line c cs h e (λ l. on (suc n) [] (omega arith))
    go false true e s on = walk_skip n line c cs h e s (on n line h)
    go false false e s on = walk_count n line c cs h e s (on n (line ++ (c ∷ [])) h)

-- of a text that has at least one byte
counted_text : (cs : List ℕ) → 1 ≤ length cs → count_from (record { n = 1; count = 0 }) cs ≡ count_fault 1 (lines_of cs)
unfolding lines_of
counted_text [] h = absurd (omega arith)
counted_text (c ∷ cs) h = counted_lines 1 [] (c ∷ cs) (omega arith)

-- ---- one character after another

step_small : (a : At) (c : ℕ) (b : At) → a.n ≤ 20 → Ok b ≡ stepped a c → (b.n ≤ 20) × (b.count ≤ a.count + 1)
unfolding stepped
step_small a c b h e = go (eqb c feed) (count_right false a.count) (eqb a.n 20) (skipped c) refl e
  where
    go : (t u v w : Bool) → eqb a.n 20 ≡ v
        → Ok b ≡ choose t (choose u (choose v (Err Surplus) (Ok (record { n = suc a.n; count = 0 }))) (Err (Count a.n a.count false))) (choose w (Ok a) (Ok (record { n = a.n; count = suc a.count })))
        → (b.n ≤ 20) × (b.count ≤ a.count + 1)
    go true true true w q e = let z : ◌≡◌ {A = ℕ} 0 1 = cc in absurd (omega arith)
    go true true false w q e =
        let z : b ≡ record { n = suc a.n; count = 0 } = cc in
        let d = eqb-false a.n 20 q in
        rw z (omega arith, omega arith)
    go true false v w q e = let z : ◌≡◌ {A = ℕ} 0 1 = cc in absurd (omega arith)
    go false u v true q e = let z : b ≡ a = cc in rw z (h, omega arith)
    go false u v false q e = let z : b ≡ record { n = a.n; count = suc a.count } = cc in rw z (h, omega arith)

-- what is left decides
pub record Counting (text : List ℕ) (a : At) (i : ℕ) : Type 0 where
  pub lines : a.n ≤ 20
  pub few : a.count ≤ i
  pub rest : count_from (record { n = 1; count = 0 }) text ≡ count_from a (drop i text)

module _ (text : List ℕ) where
  pub counting_none : Counting text (record { n = 1; count = 0 }) 0
  counting_none = record { lines = omega arith; few = omega arith; rest = refl }

  module _ (a : At) (i : ℕ) (s : Counting text a i) where
    module _ (h : i < length text) (r : Result At Fault) (e : r ≡ stepped a (get_or text i 0)) where
      from_here : count_from (record { n = 1; count = 0 }) text ≡ onward r (λ b. count_from b (drop (suc i) text))
      unfolding count_from
      from_here = s.rest ∙ rw (drop-cons text i 0 h, ← e)

      pub count_found : (fault : Fault) → r ≡ Err fault → 1 ≤ length text → fault ≡ count_fault 1 (lines_of text)
      count_found fault q l = sym (sym (counted_text text l) ∙ from_here ∙ rw q)

      pub counting_on : (b : At) → r ≡ Ok b → Counting text b (i + 1)
      counting_on b q =
          let (l, m) = step_small a (get_or text i 0) b s.lines (sym q ∙ e) in
          record { lines = l; few = omega (arith, s.few); rest = from_here ∙ rw (q, add-one i) }

    pub counting_end : (r : Fault) → r ≡ ended a → length text ≤ i → 1 ≤ length text → r ≡ count_fault 1 (lines_of text)
    unfolding count_from
    counting_end r e h l = sym (sym (counted_text text l) ∙ s.rest ∙ rw (drop_of_length-le text {i = i} h, ← e))
