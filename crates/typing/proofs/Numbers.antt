-- What is told goes with what the scan answers. Assumes nothing.
use Prim.Native.Nat.{ℕ, suc, ◌*◌, ◌/◌, ◌%◌, ◌^◌}
use mathlib.Core.Path.{◌≡◌, refl, sym, ap, ◌∙◌}
use mathlib.Core.Logic.{◌⊎◌, inl, inr}
use mathlib.Core.Bool.{Bool, true, false, ◌&&◌, ◌||◌}
use mathlib.Core.List.{List, [], ◌∷◌, ◌++◌}
use native.Mathlib.Omega.{arith}
use borrow.Author.Tests.{ne_eqb}
use lib.Dec.{leb, ltb, eqb}
use lib.ListN.{length}
use Rattle.wire.specs.Answer.{choose, Answer, done, refused_at, refused, then, number_of, Got}
use Rattle.wire.specs.Every.{every, within}
use Rattle.wire.specs.Number.{number, number_from, digits}
use Rattle.digits.specs.Decimal.{line_feed}
use Rattle.text.specs.Text.{base64, zbase32, text_of, read_text, read_values, values, kept, leftover}
use Rattle.typed.specs.Typed.{most_lines, feed, is_letter, plain, lines_of, count_right, none, counts_right, right, data_of, joined_from, read_typed}
use Rattle.frame.specs.Frame.{Frame, frame_of}
use Rattle.typing.specs.Typing.{scan_of, count_fault, frame_fault, fault_in, fault_of}
use Rattle.typing.specs.declared.Fault.{Fault}
use Rattle.typing.specs.declared.Fault.TheVariants.{Good, Nothing, Letter, Count, Surplus, Mistyped, Whole}

-- the number of R2.2 that a fault has: no lines are no bytes, and these no frame
abbrev pub number_in : Fault → ℕ
number_in Good = 0
number_in Nothing = number_of (frame_of [])
number_in (Letter line) = 1
number_in (Count line count last) = 2
number_in Surplus = 2
number_in (Mistyped line) = 23
number_in (Whole e) = e

-- ---- the reader answers 1, 2 or 23

abbrev Told : Answer (List ℕ) → Type 0
Told (done bs) = Unit
Told (refused_at e place) = (e ≡ 1) ⊎ ((e ≡ 2) ⊎ (e ≡ 23))

told_choose : (t : Bool) (v w : Answer (List ℕ)) → Told v → Told w → Told (choose t v w)
told_choose true v w p q = p
told_choose false v w p q = q

told_then : (v : Answer (List ℕ)) (f : List ℕ → Answer (List ℕ)) → Told v → ((bs : List ℕ) → Told (f bs)) → Told (then v f)
told_then (done bs) f p q = q bs
told_then (refused_at e place) f p q = p

values_told : (vs : List ℕ) → Told (read_values zbase32 vs)
unfolding read_values
values_told vs = go (zbase32.impossible (length vs)) (eqb (number (2 ^ zbase32.width) vs % 2 ^ leftover zbase32 (length vs)) 0)
  where
    go : (t u : Bool)
        → Told (choose t (refused 2) (choose u (done (digits 256 (zbase32.width * length vs / 8) (number (2 ^ zbase32.width) vs / 2 ^ leftover zbase32 (length vs)))) (refused 2)))
    go true u = inr (inl refl)
    go false true = tt
    go false false = inr (inl refl)

text_told : (cs : List ℕ) → Told (read_text zbase32 cs)
unfolding read_text
text_told cs = told_choose (within (2 ^ zbase32.width) (values zbase32 cs)) (read_values zbase32 (values zbase32 cs)) (refused 1) (values_told (values zbase32 cs)) (inl refl)

joined_told : (n : ℕ) (ls : List (List ℕ)) → Told (joined_from n ls)
unfolding joined_from
joined_told n [] = tt
joined_told n (l ∷ ls) =
    let more : List ℕ → Answer (List ℕ) = λ rest. done (data_of l ++ rest) in
    told_choose (right n l) (then (joined_from (suc n) ls) more) (refused_at 23 n) (told_then (joined_from (suc n) ls) more (joined_told (suc n) ls) (λ rest. tt)) (inr (inr refl))

read_told : (cs : List ℕ) → Told (read_typed cs)
unfolding read_typed
read_told cs =
    let counts : Bool = leb (length (lines_of cs)) most_lines && counts_right (lines_of cs) in
    let read : Answer (List ℕ) = then (joined_from 1 (lines_of cs)) (read_text zbase32) in
    told_choose (every (λ c. eqb c feed || is_letter c) (plain cs)) (choose counts read (refused 2)) (refused 1)
    (told_choose counts read (refused 2) (told_then (joined_from 1 (lines_of cs)) (read_text zbase32) (joined_told 1 (lines_of cs)) text_told) (inr (inl refl)))
    (inl refl)

-- ---- so the fault has its number

count_number : (n : ℕ) (ls : List (List ℕ)) → number_in (count_fault n ls) ≡ 2
unfolding count_fault
count_number n [] = refl
count_number n (l ∷ ls) = go (ltb most_lines n) (count_right (none ls) (length l)) (count_number (suc n) ls)
  where
    go : (t u : Bool) → number_in (count_fault (suc n) ls) ≡ 2
        → number_in (choose t Surplus (choose u (count_fault (suc n) ls) (Count n (length l) (none ls)))) ≡ 2
    go true u e = refl
    go false true e = e
    go false false e = refl

frame_number : (bs : List ℕ) (v : Got Frame) → number_of (then v (λ _. done (text_of base64 bs ++ line_feed))) ≡ number_in (frame_fault v)
frame_number bs (done f) = refl
frame_number bs (refused_at e place) = refl

fault_number : (cs : List ℕ) (v : Answer (List ℕ)) → Told v
    → number_of (then v (λ bs. then (frame_of bs) (λ _. done (text_of base64 bs ++ line_feed)))) ≡ number_in (fault_in cs v)
fault_number cs (done bs) p = frame_number bs (frame_of bs)
fault_number cs (refused_at e place) (inl p) = rw p
fault_number cs (refused_at e place) (inr (inl p)) = rw p (sym (count_number 1 (lines_of cs)))
fault_number cs (refused_at e place) (inr (inr p)) = rw p

nothing_read : read_typed [] ≡ done []
unfolding read_typed every plain lines_of counts_right joined_from read_text read_values values kept zbase32 leftover number_from digits
nothing_read = refl

refused_number : {A B : Type 0} (v : Answer A) (f : A → B) → number_of (then v (λ a. done (f a))) ≡ number_of v
refused_number (done a) f = refl
refused_number (refused_at e place) f = refl

nothing_number : number_of (scan_of []) ≡ number_of (frame_of [])
unfolding scan_of
nothing_number = rw nothing_read (refused_number (frame_of []) (λ _. text_of base64 [] ++ line_feed))

some_fault : (c : ℕ) (cs : List ℕ) → fault_of (c ∷ cs) ≡ fault_in (c ∷ cs) (read_typed (c ∷ cs))
unfolding fault_of
some_fault c cs = rw (ne_eqb (suc (length cs)) 0 (λ e. omega arith))

-- For the reader: what is told has the number that `typing::scan` answers, and 0 where it is done
pub told_number : (cs : List ℕ) → number_of (scan_of cs) ≡ number_in (fault_of cs)
unfolding scan_of fault_of
told_number [] = nothing_number
told_number (c ∷ cs) = fault_number (c ∷ cs) (read_typed (c ∷ cs)) (read_told (c ∷ cs)) ∙ ap number_in (sym (some_fault c cs))

-- ---- and the line of 23

frame_other : (v : Got Frame) (line : ℕ) → frame_fault v ≡ Mistyped line → ⊥
frame_other (done f) line e = let z : ◌≡◌ {A = ℕ} 0 1 = cc in absurd (omega arith)
frame_other (refused_at e place) line q = let z : ◌≡◌ {A = ℕ} 0 1 = cc in absurd (omega arith)

line_in_lem : (cs : List ℕ) (line : ℕ) (v : Answer (List ℕ)) → Told v → fault_in cs v ≡ Mistyped line → v ≡ refused_at 23 line
line_in_lem cs line (done bs) t q = absurd (frame_other (frame_of bs) line q)
line_in_lem cs line (refused_at e place) (inl p) q = let h = rw p at q in let z : ◌≡◌ {A = ℕ} 0 1 = cc in absurd (omega arith)
line_in_lem cs line (refused_at e place) (inr (inl p)) q = let h = ap number_in (rw p at q) in absurd (omega (arith, h, count_number 1 (lines_of cs)))
line_in_lem cs line (refused_at e place) (inr (inr p)) q = let h : Mistyped place ≡ Mistyped line = rw p at q in let z : place ≡ line = cc in rw (p, z)

-- For the reader: a line that is told as mistyped is the one that the reader names with 23
pub mistyped_line : (cs : List ℕ) (line : ℕ) → fault_of cs ≡ Mistyped line → read_typed cs ≡ refused_at 23 line
unfolding fault_of
mistyped_line [] line q = let z : ◌≡◌ {A = ℕ} 0 1 = cc in absurd (omega arith)
mistyped_line (c ∷ cs) line q = line_in_lem (c ∷ cs) line (read_typed (c ∷ cs)) (read_told (c ∷ cs)) (sym (some_fault c cs) ∙ q)
