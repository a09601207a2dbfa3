-- Character by character, all lines are judged as the definition says it of the whole text.
-- Assumes nothing.
use Prim.Native.Nat.{ℕ, suc, ◌+◌, ◌≤◌, ◌<◌}
use mathlib.Core.Path.{◌≡◌, refl, sym, ap, ◌∙◌}
use mathlib.Core.Logic.{◌⊎◌, inl, inr}
use mathlib.Core.Bool.{Bool, true, false, ◌&&◌}
use mathlib.Core.List.{List, [], ◌∷◌, ◌++◌, append_assoc, append-nil}
use native.Mathlib.Omega.{arith}
use borrow.Author.Tests.{eq-eqb, ne_eqb, le-leb, lt-leb, lt-ltb, le-ltb, eqb-true}
use lib.Dec.{ltb, leb, eqb}
use lib.ListN.{length, length-append}
use Rattle.wire.specs.Answer.{choose, Answer, done, refused, refused_at, then, demand, demand_at}
use Rattle.wire.proofs.Cases.{lt_or_le, eq_or_ne}
use Rattle.wire.proofs.Both.{and_true}
use Rattle.typed.specs.Typed.{feed, skipped, plain, cut, none, count_right, counts_right, data_of, right, joined_from}
use Rattle.std.specs.Prelude.{Option, Some, None}
use Rattle.typed.specs.Private.{Held, wrong_after, closed, stepped, ran, start, unless, verdict, ending}
use Rattle.typed.proofs.Letters.{feed_unskipped}

-- ---- there is always a line, and one that is too long stays so

cut_some : (l t : List ℕ) → (1 ≤ length (cut l t)) × (none (cut l t) ≡ false)
unfolding cut
cut_some l [] = (omega arith, refl)
cut_some l (c ∷ t) = go (eqb c feed) (cut_some (l ++ (c ∷ [])) t)
  where
    go : (b : Bool) → (1 ≤ length (cut (l ++ (c ∷ [])) t)) × (none (cut (l ++ (c ∷ [])) t) ≡ false)
        → (1 ≤ length (choose b (l ∷ cut [] t) (cut (l ++ (c ∷ [])) t))) × (none (choose b (l ∷ cut [] t) (cut (l ++ (c ∷ [])) t)) ≡ false)
    go true h = (omega arith, refl)
    go false h = h

cut_long : (l t : List ℕ) → 42 < length l → counts_right (cut l t) ≡ false
unfolding cut counts_right count_right
cut_long l [] h = rw (lt-leb (length l) 42 h) (go (leb 3 (length l)))
  where
    go : (b : Bool) → ((b && false) && true) ≡ false
    go true = refl
    go false = refl
cut_long l (c ∷ t) h = go (eqb c feed) (cut_long (l ++ (c ∷ [])) t (omega (arith, length-append l (c ∷ []))))
  where
    go : (b : Bool) → counts_right (cut (l ++ (c ∷ [])) t) ≡ false → counts_right (choose b (l ∷ cut [] t) (cut (l ++ (c ∷ [])) t)) ≡ false
    go true e = rw ((cut_some [] t).1, ne_eqb (length l) 42 (λ q. omega (arith, q)))
    go false e = e

-- ---- what the lines before say, and what is still to come

carried : Held → Answer (List ℕ) → Answer (List ℕ)
carried h a = unless h.wrong (then a (λ rest. done (h.contents ++ rest)))

-- the verdict, h being all that was read and `lines` what is left
awaited : Held → List (List ℕ) → Answer (List ℕ)
awaited h lines = demand (leb (h.number + length lines) 21 && counts_right lines) 2 (carried h (joined_from h.number lines))

joining : (xs ys : List ℕ) (a : Answer (List ℕ)) → then a (λ rest. done (xs ++ ys ++ rest)) ≡ then (then a (λ rest. done (ys ++ rest))) (λ rest. done (xs ++ rest))
joining xs ys (done rest) = ap done (append_assoc xs ys rest)
joining xs ys (refused_at e k) = refl

carried_on : (h : Held) (a : Answer (List ℕ)) → carried (closed h) a ≡ carried h (demand_at (right h.number h.line) 23 h.number (then a (λ rest. done (data_of h.line ++ rest))))
unfolding carried closed wrong_after
carried_on h a = go h.wrong
  where
    all : Answer (List ℕ)
    all = then a (λ rest. done (h.contents ++ data_of h.line ++ rest))

    left : Bool → Answer (List ℕ)
    left u = then (choose u (then a (λ rest. done (data_of h.line ++ rest))) (refused_at 23 h.number)) (λ rest. done (h.contents ++ rest))

    none : (u : Bool) → unless (choose u None (Some h.number)) all ≡ left u
    none true = joining h.contents (data_of h.line) a
    none false = refl

    go : (w : Option ℕ) → unless (wrong_after h.number w h.line) all ≡ unless w (left (right h.number h.line))
    go (Some k) = refl
    go None = none (right h.number h.line)

-- ---- the end of the text, and of a line

no_and : (b : Bool) → (b && false) ≡ false
no_and true = refl
no_and false = refl

module _ (h : Held) (first : 1 ≤ h.number) where
  text_ends : h.number ≤ 20 → length h.line ≤ 42 → ending h ≡ awaited h (h.line ∷ [])
  unfolding ending verdict awaited carried counts_right count_right joined_from
  text_ends few short =
      rw (le-leb (h.number + 1) 21 (omega arith), le-leb (length h.line) 42 short, and_true (leb 3 (length h.line)), and_true (leb 3 (length h.line)))
      (ap (λ (a : Answer (List ℕ)). demand (leb 3 (length h.line)) 2 a) (last (closed h) ∙ carried_on h (done [])))
    where
      last : (k : Held) → unless k.wrong (done k.contents) ≡ unless k.wrong (done (k.contents ++ []))
      last k = rw (append-nil k.contents)

  module _ (lines : List (List ℕ)) (some : 1 ≤ length lines) (more : none lines ≡ false) where
    line_short : (length h.line ≡ 42 → ⊥) → refused 2 ≡ awaited h (h.line ∷ lines)
    unfolding awaited counts_right count_right
    line_short e = rw (more, ne_eqb (length h.line) 42 e, no_and (leb (h.number + suc (length lines)) 21))

    line_many : 20 ≤ h.number → refused 2 ≡ awaited h (h.line ∷ lines)
    unfolding awaited counts_right
    line_many e = rw (lt-leb (h.number + suc (length lines)) 21 (omega arith))

    line_full : length h.line ≡ 42 → awaited (closed h) lines ≡ awaited h (h.line ∷ lines)
    unfolding awaited counts_right count_right joined_from closed
    line_full e =
        let m : h.number + suc (length lines) ≡ suc h.number + length lines = omega arith in
        rw (more, eq-eqb (length h.line) 42 e, m)
        (ap (λ (a : Answer (List ℕ)). demand (leb (suc h.number + length lines) 21 && counts_right lines) 2 a) (carried_on h (joined_from (suc h.number) lines)))

-- ---- one character more

abbrev longer : Held → ℕ → Held
longer h c = record { number = h.number; wrong = h.wrong; line = h.line ++ (c ∷ []); contents = h.contents }

module _ (h : Held) (c : ℕ) (cs : List ℕ) where
  at_feed : eqb c feed ≡ true
      → (then (ran h (c ∷ cs)) ending ≡ then (then (demand (eqb (length h.line) 42) 2 (demand (ltb h.number 20) 2 (done (closed h)))) (λ k. ran k cs)) ending)
      × (cut h.line (plain (c ∷ cs)) ≡ h.line ∷ cut [] (plain cs))
  unfolding ran stepped plain cut
  at_feed e =
      let s : skipped c ≡ false = ap skipped (eqb-true c feed e) ∙ feed_unskipped in
      (rw e, rw (s, e))

  at_skipped : eqb c feed ≡ false → skipped c ≡ true → (then (ran h (c ∷ cs)) ending ≡ then (ran h cs) ending) × (cut h.line (plain (c ∷ cs)) ≡ cut h.line (plain cs))
  unfolding ran stepped plain
  at_skipped e s = (rw (e, s), rw s)

  at_other : eqb c feed ≡ false → skipped c ≡ false
      → (then (ran h (c ∷ cs)) ending ≡ then (then (demand (ltb (length h.line) 42) 2 (done (longer h c))) (λ k. ran k cs)) ending)
      × (cut h.line (plain (c ∷ cs)) ≡ cut (h.line ++ (c ∷ [])) (plain cs))
  unfolding ran stepped plain cut
  at_other e s = (rw (e, s), rw (s, e))

too_long : (h : Held) (lines : List (List ℕ)) → counts_right lines ≡ false → refused 2 ≡ awaited h lines
unfolding awaited
too_long h lines e = rw (e, no_and (leb (h.number + length lines) 21))

same_awaited : (h : Held) (c : ℕ) (lines : List (List ℕ)) → awaited (longer h c) lines ≡ awaited h lines
unfolding awaited carried
same_awaited h c lines = refl

-- ---- all of them

abbrev Judged : List ℕ → Type 0
Judged cs = (h : Held) → 1 ≤ h.number → h.number ≤ 20 → length h.line ≤ 42 → then (ran h cs) ending ≡ awaited h (cut h.line (plain cs))

run_none : Judged []
unfolding ran plain cut
run_none h first few short = text_ends h first few short

close_rest : (h : Held) (cs : List ℕ) → Judged cs → h.number < 20 → then (ran (closed h) cs) ending ≡ awaited (closed h) (cut [] (plain cs))
unfolding closed
close_rest h cs rest m = rest (closed h) (omega arith) (omega arith) (omega arith)

module _ (c : ℕ) (cs : List ℕ) (rest : Judged cs) (h : Held) (first : 1 ≤ h.number) (few : h.number ≤ 20) (short : length h.line ≤ 42) where
  run_feed : eqb c feed ≡ true → then (ran h (c ∷ cs)) ending ≡ awaited h (cut h.line (plain (c ∷ cs)))
  run_feed e =
      let p = at_feed h c cs e in
      let some = cut_some [] (plain cs) in
      p.0 ∙ go (eq_or_ne (length h.line) 42) (lt_or_le h.number 20) some ∙ ap (awaited h) (sym p.1)
    where
      go : (length h.line ≡ 42) ⊎ (length h.line ≡ 42 → ⊥) → (h.number < 20) ⊎ (20 ≤ h.number) → (1 ≤ length (cut [] (plain cs))) × (none (cut [] (plain cs)) ≡ false)
          → then (then (demand (eqb (length h.line) 42) 2 (demand (ltb h.number 20) 2 (done (closed h)))) (λ k. ran k cs)) ending ≡ awaited h (h.line ∷ cut [] (plain cs))
      go (inr n) q some = rw (ne_eqb (length h.line) 42 n) (line_short h first (cut [] (plain cs)) some.0 some.1 n)
      go (inl y) (inr m) some = rw (eq-eqb (length h.line) 42 y, le-ltb h.number 20 m) (line_many h first (cut [] (plain cs)) some.0 some.1 m)
      go (inl y) (inl m) some = rw (eq-eqb (length h.line) 42 y, lt-ltb h.number 20 m) (close_rest h cs rest m ∙ line_full h first (cut [] (plain cs)) some.0 some.1 y)

  run_other : eqb c feed ≡ false → skipped c ≡ false → then (ran h (c ∷ cs)) ending ≡ awaited h (cut h.line (plain (c ∷ cs)))
  run_other e s =
      let p = at_other h c cs e s in
      p.0 ∙ go (lt_or_le (length h.line) 42) ∙ ap (awaited h) (sym p.1)
    where
      go : (length h.line < 42) ⊎ (42 ≤ length h.line)
          → then (then (demand (ltb (length h.line) 42) 2 (done (longer h c))) (λ k. ran k cs)) ending ≡ awaited h (cut (h.line ++ (c ∷ [])) (plain cs))
      go (inl l) = rw (lt-ltb (length h.line) 42 l) (rest (longer h c) first few (omega (arith, length-append h.line (c ∷ []))) ∙ same_awaited h c (cut (h.line ++ (c ∷ [])) (plain cs)))
      go (inr l) = rw (le-ltb (length h.line) 42 l) (too_long h (cut (h.line ++ (c ∷ [])) (plain cs)) (cut_long (h.line ++ (c ∷ [])) (plain cs) (omega (arith, length-append h.line (c ∷ [])))))

  run_one : then (ran h (c ∷ cs)) ending ≡ awaited h (cut h.line (plain (c ∷ cs)))
  run_one = go (eqb c feed) refl (skipped c) refl
    where
      go : (t : Bool) → eqb c feed ≡ t → (s : Bool) → skipped c ≡ s → then (ran h (c ∷ cs)) ending ≡ awaited h (cut h.line (plain (c ∷ cs)))
      go true e s q = run_feed e
      go false e true q = let p = at_skipped h c cs e q in p.0 ∙ rest h first few short ∙ ap (awaited h) (sym p.1)
      go false e false q = run_other e q

run_judged : (cs : List ℕ) → Judged cs
run_judged [] = run_none
run_judged (c ∷ cs) = run_one c cs (run_judged cs)

-- from the first character on
pub run_lines : (cs : List ℕ)
    → then (ran (start 1) cs) ending ≡ demand (leb (length (cut [] (plain cs))) 20 && counts_right (cut [] (plain cs))) 2 (joined_from 1 (cut [] (plain cs)))
unfolding awaited carried
run_lines cs =
    run_judged cs (start 1) (omega arith) (omega arith) (omega arith)
    ∙ rw (one_more (length (cut [] (plain cs))), as_it_is (joined_from 1 (cut [] (plain cs))))
  where
    one_more : (n : ℕ) → leb (1 + n) 21 ≡ leb n 20
    one_more n = go (lt_or_le 20 n)
      where
        go : (20 < n) ⊎ (n ≤ 20) → leb (1 + n) 21 ≡ leb n 20
        go (inl l) = lt-leb (1 + n) 21 (omega arith) ∙ sym (lt-leb n 20 l)
        go (inr l) = le-leb (1 + n) 21 (omega arith) ∙ sym (le-leb n 20 l)

    as_it_is : (a : Answer (List ℕ)) → then a (λ rest. done ([] ++ rest)) ≡ a
    as_it_is (done x) = refl
    as_it_is (refused_at e k) = refl
