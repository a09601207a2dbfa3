-- A session reads lines: what it does byte by byte is what it does with each line in turn.
-- Assumes nothing.
use mathlib.Core.Path.{◌≡◌, refl, sym, ap, ◌∙◌}
use mathlib.Core.Bool.{Bool, true, false}
use mathlib.Core.Logic.{◌⊎◌, inl, inr, ⊎_elim}
use mathlib.Core.List.{List, [], ◌∷◌, ◌++◌, append_assoc, append-nil}
use Prim.Native.Nat.{ℕ, ◌+◌, ◌≤◌, ◌<◌}
use native.Mathlib.Numerals.{add-one}
use native.Mathlib.Omega.{arith}
use borrow.Author.Tests.{eq-eqb, ne_eqb, le-leb, lt-ltb, le-ltb}
use lib.Dec.{eqb}
use lib.ListN.{length, take, length-append}
use lib.Seq.{take-length, length-take-le, take-suc-set}
use Rattle.wire.specs.Answer.{choose, Answer, done, refused_at}
use Rattle.wire.specs.Over.{over}
use Rattle.wire.proofs.Cases.{lt_or_le, eq_or_ne}
use Rattle.wire.proofs.Overs.{length_over, set_over}
use Rattle.scan.specs.Id.{id_verdict}
use Rattle.scan.specs.Session.{scanned, At, line_of, started, ended, longer, next, fed, closed}
use Rattle.scan.specs.Input.{lines}
use Rattle.scan.proofs.Scans.{scan_long}
use Rattle.scan.proofs.Lines.{Single, single_none, single_snoc, lines_first, lines_last}

-- ---- a session without its line buffer

-- the phase, and the collection
abbrev pub stage : At → ℕ × List ℕ
stage s = (s.phase, s.collection)

-- a session whose line buffer holds exactly the line l
abbrev pub holding : ℕ × List ℕ → List ℕ → At
holding g l = record { phase = g.0; len = length l; line = l; collection = g.1 }

pub holding_line : (g : ℕ × List ℕ) (l : List ℕ) → line_of (holding g l) ≡ l
unfolding line_of
holding_line g l = rw (le-leb (length l) (length l) (omega arith), take-length l)

-- what the line l does, and what lines do one after another
unfoldable pub lined : ℕ × List ℕ → List ℕ → ℕ × List ℕ
lined g l = stage (ended (holding g l))

unfoldable pub lined_all : ℕ × List ℕ → List (List ℕ) → ℕ × List ℕ
lined_all g [] = g
lined_all g (l ∷ ls) = lined_all (lined g l) ls

-- ---- the line that has not ended

-- the bytes p of it that came: all are in the line buffer, or they are too many, and then only that
-- is known
abbrev Held : At → List ℕ → Type 0
Held s p = ((length p ≤ 1024) × (s.len ≡ length p) × (take s.len s.line ≡ p)) ⊎ ((1024 < length p) × (s.len ≡ 1025))

pub record Standing (s : At) (p : List ℕ) : Type 0 where
  pub room : 1025 ≤ length s.line
  pub single : Single p
  pub held : Held s p

pub stands_new : (s : At) → s.len ≡ 0 → 1025 ≤ length s.line → Standing s []
stands_new s e h = record { room = h; single = single_none; held = inl (omega arith, e, ap (λ (n : ℕ). take n s.line) e) }

-- ---- one byte more

module _ (s : At) (p : List ℕ) (b : ℕ) (w : Standing s p) where
  held_more : Held s p → Held (longer s b) (p ++ (b ∷ []))
  unfolding longer
  held_more (inl (l, e, t)) = rw (lt-ltb s.len 1025 (omega arith)) (go (lt_or_le (length p) 1024))
    where
      stands : take (s.len + 1) (over s.len (b ∷ []) s.line) ≡ p ++ (b ∷ [])
      stands =
          let h : s.len < length s.line = omega (arith, w.room) in
          rw (← set_over s.line s.len b h, add-one s.len, take-suc-set s.line s.len b h, t)

      go : (length p < 1024) ⊎ (1024 ≤ length p)
          → ((length (p ++ (b ∷ [])) ≤ 1024) × (s.len + 1 ≡ length (p ++ (b ∷ []))) × (take (s.len + 1) (over s.len (b ∷ []) s.line) ≡ p ++ (b ∷ [])))
          ⊎ ((1024 < length (p ++ (b ∷ []))) × (s.len + 1 ≡ 1025))
      go (inl h) = inl (omega (arith, length-append p (b ∷ [])), omega (arith, length-append p (b ∷ [])), stands)
      go (inr h) = inr (omega (arith, length-append p (b ∷ [])), omega arith)
  held_more (inr (l, e)) =
      rw (le-ltb s.len 1025 (omega arith)) (inr (omega (arith, length-append p (b ∷ [])), e))

  longer_stands : (b ≡ 10 → ⊥) → Standing (longer s b) (p ++ (b ∷ []))
  unfolding longer
  longer_stands h =
      record { room = omega (arith, w.room, length_over s.len (b ∷ []) s.line); single = single_snoc p b w.single h; held = held_more w.held }

-- ---- the line ends

module _ (s : At) (p : List ℕ) (w : Standing s p) where
  line_taken : s.len ≤ 1025 → line_of s ≡ take s.len s.line
  unfolding line_of
  line_taken h = rw (le-leb s.len (length s.line) (omega (arith, w.room)))

  -- what the line buffer holds of a line that is too long is too long as well
  line_held : (line_of s ≡ p) ⊎ ((1024 < length p) × (1024 < length (line_of s)))
  line_held = go w.held
    where
      go : Held s p → (line_of s ≡ p) ⊎ ((1024 < length p) × (1024 < length (line_of s)))
      go (inl (l, e, t)) = inl (line_taken (omega arith) ∙ t)
      go (inr (l, e)) =
          inr (l, rw (line_taken (omega arith)) (omega (arith, length-take-le s.len s.line (omega (arith, w.room)))))

  -- so it says no other id, and no other scan
  same_id : id_verdict (line_of s) ≡ id_verdict p
  unfolding id_verdict
  same_id = go line_held
    where
      go : (line_of s ≡ p) ⊎ ((1024 < length p) × (1024 < length (line_of s))) → id_verdict (line_of s) ≡ id_verdict p
      go (inl e) = ap id_verdict e
      go (inr (h, k)) = rw (ne_eqb (length (line_of s)) 16 (λ q. omega arith), ne_eqb (length p) 16 (λ q. omega arith))

  same_scan : scanned s.collection (line_of s) ≡ scanned s.collection p
  same_scan = go line_held
    where
      go : (line_of s ≡ p) ⊎ ((1024 < length p) × (1024 < length (line_of s))) → scanned s.collection (line_of s) ≡ scanned s.collection p
      go (inl e) = ap (scanned s.collection) e
      go (inr (h, k)) = sym (scan_long (line_of s) s.collection k) ∙ scan_long p s.collection h

  ended_lined : stage (ended s) ≡ lined (stage s) p
  unfolding ended lined
  ended_lined = rw (holding_line (stage s) p, same_id, same_scan) (go (eqb s.phase 0) (eqb s.phase 1) (id_verdict p))
    where
      go : (t u : Bool) (v : Answer (List ℕ))
          → stage
          (choose t (started s v)
          (choose u (record { phase = 1; len = 0; line = s.line; collection = scanned s.collection p })
          (record { phase = s.phase; len = 0; line = s.line; collection = s.collection })))
          ≡ stage
          (choose t (started (holding (stage s) p) v)
          (choose u (record { phase = 1; len = 0; line = p; collection = scanned s.collection p })
          (record { phase = s.phase; len = 0; line = p; collection = s.collection })))
      go true u (done id) = refl
      go true u (refused_at e place) = refl
      go false true v = refl
      go false false v = refl

  ended_stands : Standing (ended s) []
  unfolding ended
  ended_stands = go (eqb s.phase 0) (eqb s.phase 1) (id_verdict (line_of s))
    where
      go : (t u : Bool) (v : Answer (List ℕ))
          → Standing
          (choose t (started s v)
          (choose u (record { phase = 1; len = 0; line = s.line; collection = scanned s.collection (line_of s) })
          (record { phase = s.phase; len = 0; line = s.line; collection = s.collection })))
          []
      go true u (done id) = stands_new _ refl w.room
      go true u (refused_at e place) = stands_new _ refl w.room
      go false true v = stands_new _ refl w.room
      go false false v = stands_new _ refl w.room

-- ---- all bytes that are left, and the end

closed_lined : (s : At) (p : List ℕ) → Standing s p → stage (closed s) ≡ lined_all (stage s) (lines p)
unfolding closed lined_all lines
closed_lined s [] w = go w.held
  where
    go : Held s [] → stage (choose (eqb s.len 0) s (ended s)) ≡ stage s
    go (inl (l, e, t)) = rw (eq-eqb s.len 0 e)
    go (inr (l, e)) = absurd (omega arith)
closed_lined s (b ∷ p) w = rw (ne_eqb s.len 0 (go w.held), lines_last b p w.single) (ended_lined s (b ∷ p) w)
  where
    go : Held s (b ∷ p) → s.len ≡ 0 → ⊥
    go (inl (l, e, t)) z = omega arith
    go (inr (l, e)) z = omega arith

-- a session in the middle of its input stands for a line that has begun with p: with the rest xs to
-- come it does what the lines of both do
pub reads_lines : (xs : List ℕ) (s : At) (p : List ℕ) → Standing s p → stage (closed (fed s xs)) ≡ lined_all (stage s) (lines (p ++ xs))
unfolding fed next lined_all longer
reads_lines [] s p w = rw append-nil (closed_lined s p w)
reads_lines (b ∷ xs) s p w =
    ⊎_elim
    (λ e.
    let f : lines (p ++ b ∷ xs) ≡ p ∷ lines xs = rw e (lines_first p xs w.single) in
    rw (eq-eqb b 10 e, f) (reads_lines xs (ended s) [] (ended_stands s p w) ∙ ap (λ (g : ℕ × List ℕ). lined_all g (lines xs)) (ended_lined s p w)))
    (λ h.
    rw (ne_eqb b 10 h)
    (reads_lines xs (longer s b) (p ++ (b ∷ [])) (longer_stands s p b w h)
    ∙ ap (λ (l : List ℕ). lined_all (stage s) (lines l)) (append_assoc p (b ∷ []) xs)))
    (eq_or_ne b 10)
