-- A walk along names alone stays below its start, from whatever depth it sets out. Assumes nothing.
use mathlib.Core.Path.{◌≡◌, refl}
use mathlib.Core.Bool.{true, false, not, ◌&&◌}
use mathlib.Core.List.{List, [], ◌∷◌}
use Prim.Native.Nat.{ℕ, ◌+◌, ◌<◌}
use native.Mathlib.Omega.{arith}
use lib.ListN.{length}
use borrow.Author.Tests.{lt-ltb, not-true}
use Rattle.wire.proofs.Cases.{both_hold}
use Rattle.lend.specs.Same.{same}
use Rattle.wire.specs.Every.{every}
use Rattle.path.specs.Names.{here, above, parts_after, parts, is_name, stays_below}

-- a name enters a folder
name_enters : (n : ℕ) (p : List ℕ) (ps : List (List ℕ)) → is_name p ≡ true → stays_below n (p ∷ ps) ≡ stays_below (n + 1) ps
unfolding is_name stays_below
name_enters n p ps e =
    let some = both_hold (not (same p [])) (not (same p here) && not (same p above)) e in
    let other = both_hold (not (same p here)) (not (same p above)) some.1 in
    rw (not-true (same p above) other.1, not-true (same p here) other.0, not-true (same p []) some.0)

pub names_stay : (n : ℕ) (ps : List (List ℕ)) → every is_name ps ≡ true → 0 < n + length ps → stays_below n ps ≡ true
unfolding every stays_below
names_stay n [] e h = lt-ltb 0 n (omega arith)
names_stay n (p ∷ ps) e h =
    let q = both_hold (is_name p) (every is_name ps) e in
    rw (name_enters n p ps q.0) (names_stay (n + 1) ps q.1 (omega arith))

-- the path of Ticket 6, `lists/../../pier`: the walk would leave its start at the third part
abbrev example : List ℕ
example =
    0x6C ∷ 0x69 ∷ 0x73 ∷ 0x74 ∷ 0x73 ∷ 0x2F ∷ 0x2E ∷ 0x2E ∷ 0x2F ∷ 0x2E ∷ 0x2E ∷ 0x2F ∷ 0x70 ∷ 0x69 ∷ 0x65 ∷ 0x72 ∷ []

-- For the reader: a walk can fail, so that it does not is worth a law
example_climbs_out : (stays_below 0 (parts example) ≡ false) × (stays_below 1 (parts example) ≡ true)
unfolding stays_below parts_after same
example_climbs_out = (refl, refl)
