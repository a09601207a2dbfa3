-- What is known of a text's first characters, as the code has it: one character more, and the end
-- of a line. Assumes nothing.
use Prim.Native.Nat.{ℕ, ◌+◌, ◌-◌, ◌≤◌, ◌<◌}
use mathlib.Core.Path.{◌≡◌, refl, sym, ap, ◌∙◌, subst}
use mathlib.Core.Bool.{Bool, true, false, false≢true}
use mathlib.Core.List.{List, ◌++◌}
use native.Mathlib.Numerals.{add-one}
use native.Mathlib.Omega.{arith}
use borrow.Author.Tests.{eq-eqb, ne_eqb, le-leb, lt-leb, lt-ltb, le-ltb}
use lib.ListN.{length, get_or, set, take, drop, drop_of_length-le}
use lib.Seq.{take-take, take-suc-set, length-take-le, drop-cons}
use Rattle.std.specs.Prelude.{Option, Some, None, Result, Ok, Err}
use Rattle.std.specs.Option.{is_some}
use Rattle.std.specs.Result.{IsErr, IsErrAnd}
use Rattle.std.proofs.lemmas.Result.{err_from_is_err_and}
use Rattle.wire.specs.Refusal.{number, Placeless}
use Rattle.wire.specs.declared.RefusedAt.{RefusedAt}
use Rattle.wire.proofs.Answers.{err_is}
use Rattle.wire.specs.declared.Refusal.{Refusal}
use Rattle.wire.specs.Answer.{Answer, done, refused, refused_at, then}
use Rattle.wire.specs.Over.{over}
use Rattle.typed.specs.Typed.{skipped, data_of, right}
use Rattle.typed.specs.Private.{Held, held, Fits, wrong_after, closed, stepped, step_told, Going, ran, start, verdict, ending, gathered_told, Ample}
use Rattle.typed.specs.declared.lines.Typing.{Typing}
use Rattle.typed.proofs.Judging.{front_over}

-- ---- the first wrong line

module _ (n : ℕ) (wrong : Option ℕ) (l : List ℕ) where
  pub wrong_before : is_some wrong ≡ true → wrong ≡ wrong_after n wrong l
  unfolding wrong_after
  wrong_before h = go wrong h
    where
      go : (w : Option ℕ) → is_some w ≡ true → w ≡ wrong_after n w l
      go (Some k) h = refl
      go None h = absurd (false≢true h)

  pub none_wrong : is_some wrong ≡ false → wrong ≡ None
  none_wrong h = go wrong h
    where
      go : (w : Option ℕ) → is_some w ≡ false → w ≡ None
      go (Some k) h = absurd (false≢true (sym h))
      go None h = refl

  module _ (none : wrong ≡ None) (r : Bool) (e : r ≡ right n l) where
    pub wrong_none : r ≡ true → None ≡ wrong_after n wrong l
    unfolding wrong_after
    wrong_none h = rw (none, ← e, h)

    pub wrong_here : r ≡ false → Some n ≡ wrong_after n wrong l
    unfolding wrong_after
    wrong_here h = rw (none, ← e, h)

-- ---- the end of a line

same_held : {a b : ℕ} {c d : Option ℕ} {l m x y : List ℕ} → a ≡ b → c ≡ d → l ≡ m → x ≡ y
    → ◌≡◌ {A = Held} (record { number = a; wrong = c; line = l; contents = x }) (record { number = b; wrong = d; line = m; contents = y })
same_held p q r s = rw (p, q, r, s)

module _ (t : Typing) (line contents : List ℕ) (fit : Fits t) (size : length line ≡ 42) where
  line_length_lem : length (take t.at line) ≡ t.at
  line_length_lem = length-take-le t.at line (omega (arith, fit.short))

  -- the data is copied behind that of the lines before
  pub close_held : (x : List ℕ) (w : Option ℕ) → 2 ≤ t.at → length contents ≡ 800 → w ≡ wrong_after t.n t.wrong (take t.at line)
      → x ≡ over t.made (take (t.at - 2) line) contents
      → held (record { n = t.n + 1; at = 0; wrong = w; made = t.made + (t.at - 2) }) line x ≡ closed (held t line contents)
  unfolding held closed data_of
  close_held x w two room e q =
      let bs : List ℕ = take (t.at - 2) line in
      let len : length bs ≡ t.at - 2 = length-take-le (t.at - 2) line (omega (arith, fit.short)) in
      let d : bs ≡ take (length (take t.at line) - 2) (take t.at line) = rw line_length_lem (sym (take-take (t.at - 2) t.at line (omega arith))) in
      same_held (add-one t.n) e refl
      (ap (take (t.made + (t.at - 2))) q
      ∙ ap (λ (k : ℕ). take (t.made + k) (over t.made bs contents)) (sym len)
      ∙ front_over t.made bs contents (omega (arith, len, fit.short, fit.last, fit.made))
      ∙ ap (λ (z : List ℕ). take t.made contents ++ z) d)

  -- ---- one character more

  module _ (c : ℕ) where
    pub step_short : c ≡ 10 → t.at < 42 → refused 2 ≡ stepped (held t line contents) c
    unfolding stepped held
    step_short e h = rw (eq-eqb c 10 e, line_length_lem, ne_eqb t.at 42 (λ q. omega (arith, q)))

    pub step_many : c ≡ 10 → 42 ≤ t.at → 20 ≤ t.n → refused 2 ≡ stepped (held t line contents) c
    unfolding stepped held
    step_many e h m = rw (eq-eqb c 10 e, line_length_lem, eq-eqb t.at 42 (omega (arith, fit.short)), le-ltb t.n 20 m)

    pub step_close : (k : Held) → c ≡ 10 → 42 ≤ t.at → t.n < 20 → k ≡ closed (held t line contents) → done k ≡ stepped (held t line contents) c
    unfolding stepped held
    step_close k e h m q = rw (eq-eqb c 10 e, line_length_lem, eq-eqb t.at 42 (omega (arith, fit.short)), lt-ltb t.n 20 m) (ap done q)

    module _ (other : c ≡ 10 → ⊥) (r : Bool) (e : r ≡ skipped c) where
      pub step_skip : r ≡ true → done (held t line contents) ≡ stepped (held t line contents) c
      unfolding stepped
      step_skip h = rw (ne_eqb c 10 other, ← e, h)

      pub step_long : r ≡ false → 42 ≤ t.at → refused 2 ≡ stepped (held t line contents) c
      unfolding stepped held
      step_long h l = rw (ne_eqb c 10 other, ← e, h, line_length_lem, le-ltb t.at 42 l)

      pub step_on : r ≡ false → t.at < 42
          → done (held (record { n = t.n; at = t.at + 1; wrong = t.wrong; made = t.made }) (set line t.at c) contents) ≡ stepped (held t line contents) c
      unfolding stepped held
      step_on h l =
          rw (ne_eqb c 10 other, ← e, h, line_length_lem, lt-ltb t.at 42 l)
          (ap done (same_held refl refl (ap (λ (k : ℕ). take k (set line t.at c)) (add-one t.at) ∙ take-suc-set line t.at c (omega arith)) refl))

-- ---- all characters, from index i on

module _ (text : List ℕ) (i : ℕ) (h : Held) (more : i < length text) where
  ran_next : ran h (drop i text) ≡ then (stepped h (get_or text i 0)) (λ k. ran k (drop (i + 1) text))
  unfolding ran
  ran_next = ap (ran h) (drop-cons text i 0 more) ∙ ap (λ (j : ℕ). then (stepped h (get_or text i 0)) (λ k. ran k (drop j text))) (sym (add-one i))

  -- the step's answer r, with the buffers x and y that it left
  module _ (r : Result Typing Refusal) (x y : List ℕ) (e : step_told r x y ≡ stepped h (get_or text i 0)) where
    pub ran_stop : (b : Refusal) → r ≡ Err b → refused (number b) ≡ ran h (drop i text)
    ran_stop b q = sym (ran_next ∙ rw (sym e, q))

    pub ran_on : (t : Typing) → r ≡ Ok t → ran h (drop i text) ≡ ran (held t x y) (drop (i + 1) text)
    ran_on t q = ran_next ∙ rw (sym e, q)

-- what `?` hands on
pub stopped : (r : Result Typing Refusal) (b : Refusal) → IsErr r × IsErrAnd r (λ x. x ≡ b) → (x y : List ℕ) (a : Answer Held) → refused (number b) ≡ a → (step_told r x y ≡ a) × Going r
stopped r b h x y a k = rw (err_is r b h) (k, tt)

pub gather_stopped : (r : Result ℕ RefusedAt) (b : Refusal) → IsErr r × IsErrAnd r (Placeless b) → (x : List ℕ) (a : Answer (List ℕ)) → refused (number b) ≡ a → (gathered_told r x ≡ a) × Ample r
gather_stopped r b (h, k) x a q = let p = err_from_is_err_and r k in rw (p.1, p.2.0, p.2.1) (q, tt)

pub goes_on : (r : Result Typing Refusal) (t : Typing) → Going r → r ≡ Ok t → Fits t
goes_on r t g e = subst Going e g

pub ran_all : (text : List ℕ) (i : ℕ) (h : Held) → length text ≤ i → done h ≡ ran h (drop i text)
unfolding ran
ran_all text i h l = rw (drop_of_length-le text {i = i} l)

-- ---- and behind them the end of the last line

module _ (text : List ℕ) (r : Result Typing Refusal) (x y : List ℕ) (e : step_told r x y ≡ ran (start 1) text) where
  pub gather_stop : (b : Refusal) → r ≡ Err b → refused (number b) ≡ then (ran (start 1) text) ending
  gather_stop b q = rw (sym e, q)

  module _ (t : Typing) (q : r ≡ Ok t) (fit : Fits t) (size : length x ≡ 42) where
    pub gather_short : t.at < 3 → refused 2 ≡ then (ran (start 1) text) ending
    unfolding ending held
    gather_short h = rw (sym e, q, line_length_lem t x y fit size, lt-leb 3 t.at h)

    module _ (k : Typing) (z : List ℕ) (c : held k x z ≡ closed (held t x y)) (long : 3 ≤ t.at) where
      at_end : then (ran (start 1) text) ending ≡ verdict (held k x z)
      unfolding ending held
      at_end = rw (sym e, q, line_length_lem t x y fit size, le-leb 3 t.at long) (ap verdict (sym c))

      pub gather_wrong : (first : ℕ) → k.wrong ≡ Some first → refused_at 23 first ≡ then (ran (start 1) text) ending
      unfolding verdict held
      gather_wrong first n = sym (at_end ∙ rw n)

      pub gather_all : k.wrong ≡ None → done (take k.made z) ≡ then (ran (start 1) text) ending
      unfolding verdict held
      gather_all n = sym (at_end ∙ rw n)
