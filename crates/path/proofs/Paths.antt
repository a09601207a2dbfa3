-- What every caller may know of an allowed path without looking into the rule. Assumes nothing.
use mathlib.Core.Path.{◌≡◌, refl, sym, subst, ap, ap₂, ◌∙◌}
use mathlib.Core.Bool.{Bool, true, false, not, ◌&&◌, false≢true}
use mathlib.Core.List.{List, [], ◌∷◌, ◌++◌}
use Prim.Native.Nat.{ℕ, ◌≤◌}
use native.Mathlib.Omega.{arith}
use lib.Dec.{leb, eqb, lit≤}
use lib.ListN.{length}
use borrow.Author.Tests.{leb-true, le-leb}
use Rattle.wire.specs.Number.{Bytes}
use Rattle.wire.proofs.Cases.{both_hold}
use Rattle.wire.specs.Every.{every, within, without}
use Rattle.path.specs.Utf8.{code_points}
use Rattle.path.specs.Order.{below}
use Rattle.path.specs.Names.{slash, parts_after, parts, slashed, is_name, stays_below}
use Rattle.path.specs.Path.{path_least, path_most, plain_text, path_allowed}
use Rattle.wire.proofs.Both.{tests}
use Rattle.wire.proofs.Everys.{every_fails}
use Rattle.path.proofs.Encoding.{within_more, utf8, utf8_decoded, decoded_utf8, utf8_bytes, utf8_below}
use Rattle.path.proofs.Names.{part_ends, parts_joined, parts_append, parts_some, name_empty}
use Rattle.path.proofs.Walks.{names_stay}

-- a text whose parts are names has a byte
some_byte : (s : List ℕ) → every is_name (parts s) ≡ true → path_least ≤ length s
unfolding parts_after every
some_byte [] e = absurd (false≢true (sym (ap (λ (t : Bool). t && true) (name_empty [] refl)) ∙ e))
some_byte (b ∷ s) e = omega arith

module _ (s : List ℕ) (ok : path_allowed s ≡ true) where
  tests_passed : (leb (length s) path_most ≡ true) × (plain_text s ≡ true) × (every is_name (parts s) ≡ true) × (without 0 s ≡ true)
  unfolding path_allowed
  tests_passed =
      let p = both_hold (leb (length s) path_most) _ ok in
      let q = both_hold (plain_text s) _ p.1 in
      let r = both_hold (every is_name (parts s)) (without 0 s) q.1 in
      (p.0, q.0, r.0, r.1)

  pub allowed_length : (path_least ≤ length s) × (length s ≤ path_most)
  allowed_length = (some_byte s tests_passed.2, leb-true (length s) path_most tests_passed.0)

  pub allowed_points : within 0x300 (code_points s) ≡ true
  unfolding plain_text
  allowed_points = tests_passed.1

  pub allowed_names : every is_name (parts s) ≡ true
  allowed_names = tests_passed.2

  -- For the reader: taken below any folder, an allowed path stays below it (n is 0), and so below
  -- any folder that lies n higher
  pub allowed_stays_below : (n : ℕ) → stays_below n (parts s) ≡ true
  allowed_stays_below n = names_stay n (parts s) allowed_names (omega (arith, parts_some [] s))

  small_points : within 0x800 (code_points s) ≡ true
  small_points = within_more 0x300 0x800 (lit≤ tt) (code_points s) allowed_points

  -- a path is the UTF-8 of its code points
  pub allowed_utf8 : utf8 (code_points s) ≡ s
  allowed_utf8 = utf8_decoded s small_points

  -- For the reader: so it is a sequence of bytes
  pub allowed_bytes : Bytes s
  allowed_bytes = subst (λ (l : List ℕ). Bytes l) allowed_utf8 (utf8_bytes (code_points s) small_points)

-- ---- which texts are allowed, and which are not

-- For the reader: names joined by slashes are a path, if they are plain and not too long
pub joined_allowed : (p : List ℕ) (ps : List (List ℕ)) → every (without slash) (p ∷ ps) ≡ true → every is_name (p ∷ ps) ≡ true
    → length (slashed (p ∷ ps)) ≤ path_most → plain_text (slashed (p ∷ ps)) ≡ true → without 0 (slashed (p ∷ ps)) ≡ true
    → path_allowed (slashed (p ∷ ps)) ≡ true
unfolding path_allowed
joined_allowed p ps apart names most plain zero =
    let these = ap (every is_name) (parts_joined p ps apart) ∙ names in
    rw (le-leb (length (slashed (p ∷ ps))) path_most most, plain, these, zero)

-- one part that is no name is enough to refuse a text, wherever it stands
pub part_refused : (s : List ℕ) (ps : List (List ℕ)) (q : List ℕ) (qs : List (List ℕ)) → parts s ≡ ps ++ (q ∷ qs) → is_name q ≡ false
    → path_allowed s ≡ false
unfolding path_allowed
part_refused s ps q qs e n =
    let names = ap (every is_name) e ∙ every_fails is_name ps q qs n in
    search tests

-- For the reader: a slash in front makes an empty part there,
pub leading_slash_refused : (s : List ℕ) → path_allowed (slash ∷ s) ≡ false
leading_slash_refused s = part_refused (slash ∷ s) [] [] (parts s) (part_ends [] slash s refl) (name_empty [] refl)

-- For the reader: and one at the end makes one at the end
pub trailing_slash_refused : (s : List ℕ) → path_allowed (s ++ (slash ∷ [])) ≡ false
unfolding parts_after
trailing_slash_refused s = part_refused (s ++ (slash ∷ [])) (parts s) [] [] (parts_append s []) (name_empty [] refl)

-- For the reader: one byte 00 is enough, wherever it stands
pub zero_refused : (s t : List ℕ) → path_allowed (s ++ (0 ∷ t)) ≡ false
unfolding path_allowed
zero_refused s t =
    let zero = every_fails (λ (c : ℕ). not (eqb c 0)) s 0 t refl in
    search tests

-- For the reader: every text of code points below U+0300 is plain, so the rule leaves no such text
-- out
pub plain_utf8 : (cs : List ℕ) → within 0x300 cs ≡ true → plain_text (utf8 cs) ≡ true
unfolding plain_text
plain_utf8 cs e = ap (within 0x300) (decoded_utf8 cs (within_more 0x300 0x800 (lit≤ tt) cs e)) ∙ e

-- For the reader: on paths the order by bytes is the order by code points
pub code_point_order : (a b : List ℕ) → path_allowed a ≡ true → path_allowed b ≡ true → below a b ≡ below (code_points a) (code_points b)
code_point_order a b p q =
    ap₂ below (sym (allowed_utf8 a p)) (sym (allowed_utf8 b q)) ∙ utf8_below (code_points a) (code_points b) (small_points a p) (small_points b q)
