-- The slips among the lines of an input, found line by line. Assumes nothing.
use Prim.Native.Nat.{ℕ, ◌+◌, ◌-◌, ◌≤◌, ◌<◌}
use mathlib.Core.Path.{◌≡◌, sym, ap, ◌∙◌}
use mathlib.Core.Bool.{Bool, true, false, not}
use mathlib.Core.List.{List, ◌∷◌}
use native.Mathlib.Omega.{arith}
use borrow.Author.Tests.{lt-ltb, le-ltb}
use lib.Dec.{ltb, leb}
use lib.ListN.{length, take, drop, drop_of_length-le}
use Rattle.std.specs.Prelude.{Option, Some, None}
use Rattle.wire.proofs.Cases.{said_yes, said_no}
use Rattle.typed.specs.Typed.{plain, cut}
use Rattle.slips.specs.Standing.{lines_from, first_line, is_typed, run_on, next_in, next_from}
use Rattle.slips.specs.Private.{behind}
use Rattle.slips.specs.declared.Slip.{Slip}
use Rattle.slips.proofs.Lines.{line_behind, line_fits, line_length_lem, lines_are, behind_some, behind_none}

-- ---- a typed line

module _ (l : List ℕ) (n : ℕ) (e : n ≡ length (plain l)) where
  pub typed_none : n ≤ 0 → ltb 0 n ≡ is_typed l
  unfolding is_typed
  typed_none h = rw (le-ltb 0 n h, le-ltb 0 (length (plain l)) (omega (arith, e)))

  pub typed_some : 0 < n → leb n 42 ≡ is_typed l
  unfolding is_typed
  typed_some h = rw (lt-ltb 0 (length (plain l)) (omega (arith, e)), e)

-- ---- the typed lines that follow each other

pub record Running (s : List ℕ) (end last : ℕ) : Type 0 where
  pub within : last ≤ length s
  pub rest : end + run_on (behind s end) ≡ last + run_on (behind s last)

module _ (s : List ℕ) (end : ℕ) where
  module _ (last : ℕ) (k : Running s end last) where
    module _ (h : last < length s) (stop : ℕ) (e : stop ≡ last + 1 + length (first_line (lines_from s (last + 1)))) where
      abbrev line : List ℕ
      line = take (stop - (last + 1)) (drop (last + 1) s)

      behind_are : behind s last ≡ line ∷ behind s stop
      behind_are = behind_some s last h ∙ lines_are s (last + 1) stop e (omega arith)

      module _ (r : Bool) (q : r ≡ is_typed line) where
        ended : not r ≡ true → run_on (behind s last) ≡ 0
        unfolding run_on
        ended f = rw (behind_are, said_no r (is_typed line) q f)

        pub run_ends : not r ≡ true → last ≡ end + run_on (behind s end)
        run_ends f = omega (arith, k.rest, ended f)

        more : not r ≡ false → run_on (behind s last) ≡ 1 + length line + run_on (behind s stop)
        unfolding run_on
        more t = rw (behind_are, said_yes r (is_typed line) q t)

        pub running_on : not r ≡ false → Running s end stop
        running_on t =
            record {
              within = line_fits s (last + 1) stop e (omega arith);
              rest = omega (arith, k.rest, more t, line_length_lem s (last + 1) stop e (omega arith), line_behind s (last + 1) stop e);
            }

    nothing : length s ≤ last → run_on (behind s last) ≡ 0
    unfolding run_on
    nothing h = rw (behind_none s last h)

    pub run_all : length s ≤ last → last ≡ end + run_on (behind s end)
    run_all h = omega (arith, k.rest, nothing h)

-- ---- the first slip

abbrev slip_at : (start len : ℕ) (typed : Bool) → Option Slip
slip_at start len typed = Some (record { start = start; len = len; typed = typed })

pub record Nexting (s : List ℕ) (at from : ℕ) : Type 0 where
  pub rest : next_from s at ≡ next_from s from

module _ (s : List ℕ) (at : ℕ) where
  module _ (from : ℕ) (k : Nexting s at from) where
    module _ (h : from < length s) (end : ℕ) (e : end ≡ from + length (first_line (lines_from s from))) where
      abbrev first : List ℕ
      first = take (end - from) (drop from s)

      from_line : next_from s at ≡ next_in from (first ∷ behind s end)
      unfolding next_from
      from_line = k.rest ∙ ap (next_in from) (lines_are s from end e (omega arith))

      long : length first ≡ end - from
      long = line_length_lem s from end e (omega arith)

      module _ (n : ℕ) (q : n ≡ length (plain first)) where
        pub next_scan : 42 < n → slip_at from (end - from) false ≡ next_from s at
        unfolding next_in
        next_scan l = sym (from_line ∙ rw (lt-ltb 42 (length (plain first)) (omega (arith, q)), long))

        module _ (few : n ≤ 42) where
          pub next_typed : (stop : ℕ) → 0 < n → stop ≡ end + run_on (behind s end) → slip_at from (stop - from) true ≡ next_from s at
          unfolding next_in
          next_typed stop l z =
              let m : length first + run_on (behind s end) ≡ stop - from = omega (arith, long, line_behind s from end e) in
              sym (from_line ∙ rw (le-ltb 42 (length (plain first)) (omega (arith, q)), lt-ltb 0 (length (plain first)) (omega (arith, q)), m))

          module _ (none : n ≤ 0) where
            passed : next_from s at ≡ next_in (end + 1) (behind s end)
            unfolding next_in
            passed =
                let m : from + length first + 1 ≡ end + 1 = omega (arith, long, line_behind s from end e) in
                from_line ∙ rw (le-ltb 42 (length (plain first)) (omega (arith, q)), le-ltb 0 (length (plain first)) (omega (arith, q)), m)

            pub next_last : length s ≤ end → None ≡ next_from s at
            unfolding next_in
            next_last z = sym (passed ∙ ap (next_in (end + 1)) (behind_none s end z))

            pub nexting_on : end < length s → Nexting s at (end + 1)
            unfolding next_from
            nexting_on z = record { rest = passed ∙ ap (next_in (end + 1)) (behind_some s end z) }

    no_line : length s ≤ from → next_from s from ≡ None
    unfolding next_from next_in cut plain
    no_line h = rw (drop_of_length-le s {i = from} h)

    pub next_end : length s ≤ from → None ≡ next_from s at
    next_end h = sym (k.rest ∙ no_line h)
