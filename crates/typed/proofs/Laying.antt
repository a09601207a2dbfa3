-- Lines laid one behind the other. Assumes nothing.
use Prim.Native.Nat.{ℕ, zero, suc, ◌+◌, ◌-◌, ◌*◌, ◌≤◌, ◌<◌, min}
use mathlib.Core.Path.{◌≡◌, refl, sym, ap, ◌∙◌}
use mathlib.Core.Logic.{◌⊎◌, inl, inr}
use mathlib.Core.List.{List, [], ◌∷◌, ◌++◌, append_assoc, append-nil}
use native.Mathlib.Nat.{sub-zero}
use native.Mathlib.Numerals.{add-one}
use native.Mathlib.Omega.{arith}
use borrow.Author.Tests.{le-leb, lt-leb}
use lib.ListN.{length, take, drop, length-append, length-drop, drop_of_length-le}
use lib.Seq.{take_at, drop_at, take_all, drop-drop}
use Rattle.std.proofs.lemmas.List.{nil_from_length}
use Rattle.digits.specs.Private.{Laid}
use Rattle.digits.proofs.Laying.{laid_whole}
use Rattle.std.specs.Prelude.{Result, Ok, Err}
use Rattle.wire.specs.Answer.{Answer, done, Kept}
use Rattle.wire.specs.Over.{over}
use Rattle.wire.specs.Writing.{told, writing, Written}
use Rattle.wire.specs.declared.Refusal.{Refusal}
use Rattle.wire.specs.declared.Refusal.TheVariants.{TooLarge}
use Rattle.wire.proofs.Writes.{kept_fits, denied}
use Rattle.wire.proofs.Cases.{lt_or_le, not_done, done_value}
use Rattle.wire.proofs.Overs.{over_none, over_then, length_over, read_over}
use Rattle.text.specs.Text.{zbase32, text_of}
use Rattle.typed.specs.Typed.{check_letters, rows, with_check, numbered, fed, parted, typed_of, write_typed}
use Rattle.typed.proofs.Round.{text_length}
use Rattle.typed.proofs.Rows.{rows_none, rows_step, length_check}

-- ---- one line

pub line_laid : (at n : ℕ) (cs check l x z : List ℕ) → length cs ≤ 40 → at + length cs + 2 ≤ length l → check ≡ check_letters n cs
    → x ≡ over at cs l → z ≡ over (at + length cs) check x → Laid at 42 (with_check n cs) l z (at + length cs + 2)
line_laid at n cs check l x z short room e d f =
    let len = length_check n cs in
    let two : length (check_letters n cs) ≡ 2 = omega (arith, len, length-append cs (check_letters n cs)) in
    record {
      next = omega (arith, len);
      short = omega (arith, len);
      stands = over_then at (at + length cs) cs (check_letters n cs) l x z (f ∙ ap (λ (r : List ℕ). over (at + length cs) r x) e) d refl (omega (arith, two));
    }

-- ---- rows by their places

-- so many characters of a row as there are
module _ (l : List ℕ) where
  row_take : (k n : ℕ) → n ≡ min k (length l) → take n l ≡ take k l
  row_take k n e = go (lt_or_le (length l) k)
    where
      go : (length l < k) ⊎ (k ≤ length l) → take n l ≡ take k l
      go (inl h) = take_all n l (omega arith) ∙ sym (take_all k l (omega arith))
      go (inr h) = let q : n ≡ k = omega arith in ap (λ (m : ℕ). take m l) q

  row_drop : (k n : ℕ) → n ≡ min k (length l) → drop n l ≡ drop k l
  row_drop k n e = go (lt_or_le (length l) k)
    where
      go : (length l < k) ⊎ (k ≤ length l) → drop n l ≡ drop k l
      go (inl h) = drop_of_length-le l {i = n} (omega arith) ∙ sym (drop_of_length-le l {i = k} (omega arith))
      go (inr h) = let q : n ≡ k = omega arith in ap (λ (m : ℕ). drop m l) q

-- the row from index `from` on, which ends at `to`
module _ (cs : List ℕ) (from to : ℕ) (e : to ≡ from + min 40 (length cs - from)) where
  row_size : to - from ≡ min 40 (length (drop from cs))
  row_size = rw (length-drop from cs) (omega arith)

  row_is : take (to - from) (drop from cs) ≡ take 40 (drop from cs)
  row_is = row_take (drop from cs) 40 (to - from) row_size

  row_left : drop to cs ≡ drop 40 (drop from cs)
  row_left =
      let q : to ≡ from + (to - from) = omega arith in
      ap (λ (k : ℕ). drop k cs) q ∙ sym (drop-drop (to - from) from cs) ∙ row_drop (drop from cs) 40 (to - from) row_size

-- the row that comes off the front of what is left
module _ (l row left : List ℕ) (parts : l ≡ row ++ left) (size : length row ≡ min 40 (length l)) where
  row_first : row ≡ take 40 l
  row_first = sym (take_at row left (length row) refl) ∙ ap (λ (k : List ℕ). take (length row) k) (sym parts) ∙ row_take l 40 (length row) size

  row_behind : left ≡ drop 40 l
  row_behind = sym (drop_at row left (length row) refl) ∙ ap (λ (k : List ℕ). drop (length row) k) (sym parts) ∙ row_drop l 40 (length row) size

-- ---- all lines

shifted : (a l r : List ℕ) → a ++ (10 ∷ (l ++ r)) ≡ a ++ (10 ∷ []) ++ l ++ r
shifted a l r = sym (append_assoc (a ++ (10 ∷ [])) l r ∙ append_assoc a (10 ∷ []) (l ++ r))

-- from index start on stand the lines of the characters from `first` on, but for those that are
-- left
pub record Lined (cs out₀ : List ℕ) (first start : ℕ) (left : List ℕ) (at n : ℕ) (out : List ℕ) : Type 0 where
  pub laid : List ℕ
  pub stands : out ≡ over start laid out₀
  pub next : at ≡ start + length laid
  pub whole : fed (numbered 2 (rows 19 (drop first cs))) ≡ laid ++ fed (numbered (suc n) (rows (20 - n) left))
  pub full : 0 < length left → length left + 40 * n ≤ 800
  pub few : n ≤ 20
  pub short : at + 1 ≤ 43 * n

module _ (cs out₀ : List ℕ) (first start : ℕ) where
  pub lined_none : (left : List ℕ) → left ≡ drop first cs → length cs ≤ 800 → (first < length cs → first ≡ 40) → start + 1 ≤ 43 → Lined cs out₀ first start left start 1 out₀
  lined_none left d most e l =
      let s : length left ≡ length cs - first = ap length d ∙ length-drop first cs in
      record { laid = []; stands = sym (over_none start out₀); next = omega arith; whole = rw d refl; full = λ m. omega (arith, s, e (omega (arith, s))); few = omega arith; short = omega arith }

  module _ (left : List ℕ) (at n : ℕ) (out : List ℕ) (l : Lined cs out₀ first start left at n out) where
    pub lined_same : length out ≡ length out₀
    lined_same = ap length l.stands ∙ length_over start l.laid out₀

    module _ (more : 0 < length left) where
      pub lined_few : n < 20
      lined_few = omega (arith, l.full more)

      pub lined_room : at + 1 + 42 ≤ 859
      lined_room = omega (arith, lined_few, l.short)

      pub lined_next : (row rest : List ℕ) (x y : List ℕ) (end : ℕ) → 859 ≤ length out₀ → left ≡ row ++ rest → length row ≡ min 40 (length left)
          → x ≡ over at (10 ∷ []) out → Laid (at + 1) 42 (with_check (n + 1) row) x y end → Lined cs out₀ first start rest end (n + 1) y
      unfolding numbered fed
      lined_next row rest x y end room parts size q p =
          let r : row ≡ take 40 left = row_first left row rest parts size in
          let d : rest ≡ drop 40 left = row_behind left row rest parts size in
          let sum : length left ≡ length row + length rest = ap length parts ∙ length-append row rest in
          let k : 20 - n ≡ suc (20 - (n + 1)) = omega (arith, lined_few) in
          let line : List ℕ = with_check (n + 1) row in
          let x' : x ≡ over start (l.laid ++ (10 ∷ [])) out₀ = over_then start at l.laid (10 ∷ []) out₀ out x q l.stands l.next (omega (arith, lined_room)) in
          let m : at + 1 ≡ start + length (l.laid ++ (10 ∷ [])) = omega (arith, l.next, length-append l.laid (10 ∷ [])) in
          let y' : y ≡ over start (l.laid ++ (10 ∷ []) ++ line) out₀ = over_then start (at + 1) (l.laid ++ (10 ∷ [])) line out₀ x y p.stands x' m (omega (arith, lined_room, p.short)) in
          let more_lines : List ℕ = fed (numbered (suc (suc n)) (rows (20 - (n + 1)) (drop 40 left))) in
          let z : fed (numbered (suc n) (rows (20 - n) left)) ≡ 10 ∷ (with_check (suc n) (take 40 left) ++ more_lines) = rw (k, rows_step (20 - (n + 1)) left more) refl in
          record {
            laid = l.laid ++ (10 ∷ []) ++ line;
            stands = y';
            next = omega (arith, p.next, m, length-append (l.laid ++ (10 ∷ [])) line);
            whole = l.whole ∙ ap (λ (s : List ℕ). l.laid ++ s) z ∙ rw (d, r, add-one n) (shifted l.laid _ _);
            full = λ h. omega (arith, l.full more, sum, size);
            few = omega (arith, lined_few);
            short = omega (arith, p.next, p.short, l.short);
          }

    pub lined_end : length left ≡ 0 → Laid start 859 (fed (numbered 2 (rows 19 (drop first cs)))) out₀ out at × (at ≤ 859)
    unfolding numbered fed
    lined_end h =
        let e : fed (numbered 2 (rows 19 (drop first cs))) ≡ l.laid = l.whole ∙ none in
        (record { next = rw e l.next; short = rw e (omega (arith, l.next, l.short, l.few)); stands = rw e l.stands }, omega (arith, l.short, l.few))
      where
        none : l.laid ++ fed (numbered (suc n) (rows (20 - n) left)) ≡ l.laid
        none = rw (nil_from_length left h, rows_none (20 - n)) (append-nil l.laid)

-- the first line, and behind it the others
module _ (cs out : List ℕ) (room : 859 ≤ length out) (some : length cs ≡ 0 → ⊥) (first : ℕ) (e : first ≡ 0 + min 40 (length cs - 0)) where
  pub all_lined : (x y : List ℕ) (start end : ℕ) → Laid 0 42 (with_check 1 (take first cs)) out x start
      → Laid start 859 (fed (numbered 2 (rows 19 (drop first cs)))) x y end × (end ≤ 859) → Laid 0 859 (parted (numbered 1 (rows 20 cs))) out y end
  unfolding numbered parted
  all_lined x y start end p (q, l) =
      let r : take first cs ≡ take 40 cs = ap (λ (k : ℕ). take k cs) (sym (sub-zero first)) ∙ row_is cs 0 first e in
      let d : drop first cs ≡ drop 40 cs = row_left cs 0 first e in
      let a : List ℕ = with_check 1 (take first cs) in
      let b : List ℕ = fed (numbered 2 (rows 19 (drop first cs))) in
      let w : parted (numbered 1 (rows 20 cs)) ≡ a ++ b = ap (λ (ls : List (List ℕ)). parted (numbered 1 ls)) (rows_step 19 cs (positive (length cs) some)) ∙ rw (r, d) in
      let s : length (a ++ b) ≡ end = omega (arith, length-append a b, p.next, q.next) in
      record { next = rw w (omega (arith, s)); short = rw w (omega (arith, s)); stands = rw w (over_then 0 start a b out x y q.stands p.stands p.next (omega (arith, p.next, q.next))) }
    where
      positive : (n : ℕ) → (n ≡ 0 → ⊥) → 1 ≤ n
      positive zero z = absurd (z refl)
      positive (suc n) z = omega arith

pub none_lined : (cs out : List ℕ) → length cs ≡ 0 → Laid 0 859 (parted (numbered 1 (rows 20 cs))) out out 0
unfolding parted numbered rows
none_lined [] out e = record { next = refl; short = omega arith; stands = sym (over_none 0 out) }
none_lined (c ∷ cs) out e = absurd (omega arith)

-- ---- the lines of bytes

module _ (src chars₀ chars : List ℕ) (r : Result ℕ Refusal) (k : Written 0 (done (text_of zbase32 src)) chars₀ chars r) (few : length src ≤ 500) (size : length chars₀ ≡ 800) where
  fitting : (told r ≡ done (length (text_of zbase32 src))) × (chars ≡ over 0 (text_of zbase32 src) chars₀)
  fitting = kept_fits 0 (text_of zbase32 src) chars₀ chars (omega (arith, text_length src)) k

  pub never_refused : {P : Type 0} (e : Refusal) → r ≡ Err e → P
  never_refused e q = not_done (sym (ap told q) ∙ fitting.0)

  module _ (n : ℕ) (q : r ≡ Ok n) where
    count_is : n ≡ length (text_of zbase32 src)
    count_is = done_value (sym (ap told q) ∙ fitting.0)

    pub chars_few : n ≤ 800
    chars_few = omega (arith, count_is, text_length src)

    chars_are : take n chars ≡ text_of zbase32 src
    chars_are =
        let z : n ≡ length (text_of zbase32 src) = count_is in
        rw (z, fitting.1) (read_over 0 (text_of zbase32 src) chars₀ (omega (arith, text_length src)))

    pub whole_given : (aside x out out' : List ℕ) (end : ℕ) (a : Answer ℕ) → length aside ≡ 859
        → Laid 0 859 (parted (numbered 1 (rows 20 (take n chars)))) aside x end
        → Kept (writing 0 out (done (take end x))) out out' a → Kept (writing 0 out (done (typed_of src))) out out' a
    unfolding typed_of
    whole_given aside x out out' end a room p g =
        rw chars_are at (laid_whole 859 end (parted (numbered 1 (rows 20 (take n chars)))) aside x out out' a (omega arith) p (rw (sub-zero end) g))

pub too_many : (src out : List ℕ) → 500 < length src → Written 0 (write_typed src) out out (Err TooLarge)
unfolding write_typed
too_many src out h = rw (lt-leb (length src) 500 h) (denied 0 out TooLarge)

pub few_enough : (src out x : List ℕ) (r : Result ℕ Refusal) → length src ≤ 500 → Written 0 (done (typed_of src)) out x r → Written 0 (write_typed src) out x r
unfolding write_typed
few_enough src out x r h k = rw (le-leb (length src) 500 h) k
