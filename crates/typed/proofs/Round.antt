-- What is written is read, and what is read was written; and how long each is. Assumes nothing.
use Prim.Native.Nat.{ℕ, suc, ◌+◌, ◌*◌, ◌/◌, ◌^◌, ◌≤◌}
use mathlib.Core.Path.{◌≡◌, refl, sym, ap, ◌∙◌}
use mathlib.Core.Bool.{true}
use mathlib.Core.List.{List, [], ◌∷◌, map}
use native.Mathlib.Omega.{arith}
use lib.ListN.{length, length-map, length-drop}
use Rattle.wire.specs.Answer.{Answer, done, then}
use Rattle.wire.specs.Every.{every}
use Rattle.wire.specs.Number.{digits, number, Digits, Bytes}
use Rattle.wire.proofs.Both.{hold_both}
use Rattle.wire.proofs.Digits.{length_digits, digits_small}
use Rattle.text.specs.Text.{zbase32, characters, filling, letter, text_of, read_text}
use Rattle.text.proofs.Forms.{zbase32_lawful}
use Rattle.text.proofs.Round as text
use Rattle.typed.specs.Typed.{most_lines, plain, is_letter, lines_of, counts_right, read_typed, rows, numbered, fed, parted, typed_of}
use Rattle.typed.proofs.Letters.{letter_is, letters_kept}
use Rattle.typed.proofs.Cutting.{parted_fed, parted_lines, lines_parted, plain_lines, judged, read_lines, Passed, lines_passed, lines_judged}
use Rattle.typed.proofs.Rows.{lines_few, lines_letters, lines_counts, lines_joined, lines_back, joined_short, joined_letters, lines_short}

-- ---- the z-base-32 text of bytes

values_letters : (vs : List ℕ) → Digits 32 vs → every is_letter (map (letter zbase32) vs) ≡ true
unfolding every
values_letters [] small = refl
values_letters (v ∷ vs) small = hold_both _ _ (letter_is v (small 0)) (values_letters vs (λ i. small (suc i)))

pub text_letters : (bs : List ℕ) → every is_letter (text_of zbase32 bs) ≡ true
unfolding text_of zbase32
text_letters bs =
    let n : ℕ = number 256 bs * 2 ^ filling zbase32 (length bs) in
    values_letters (digits 32 (characters zbase32 (length bs)) n) (digits_small 32 (characters zbase32 (length bs)) n (omega arith))

pub text_length : (bs : List ℕ) → length (text_of zbase32 bs) ≡ (8 * length bs + 4) / 5
unfolding text_of characters zbase32
text_length bs = length-map (digits 32 _ _) (letter zbase32) ∙ length_digits 32 _ _

-- ---- written, then read

-- For the reader: a person who copies what was written is not refused, and types the bytes
pub read_written : (bs : List ℕ) → Bytes bs → length bs ≤ 500 → read_typed (typed_of bs) ≡ done bs
unfolding typed_of
read_written bs all h =
    let t : List ℕ = text_of zbase32 bs in
    let ls : List (List ℕ) = numbered 1 (rows most_lines t) in
    let fits : length t ≤ 800 = omega (arith, text_length bs) in
    let letters : every (every is_letter) ls ≡ true = lines_letters most_lines 1 t (text_letters bs) in
    let counts = lines_counts most_lines 1 t fits in
    let same : map plain ls ≡ ls = plain_lines ls letters in
    read_lines (parted ls)
    ∙ ap judged (lines_parted ls (ap (every (every is_letter)) same ∙ letters) (ap counts_right same ∙ counts) ∙ same)
    ∙ lines_judged ls letters (lines_few most_lines 1 t) counts
    ∙ ap (λ (a : Answer (List ℕ)). then a (read_text zbase32)) (lines_joined most_lines 1 t fits)
    ∙ text.read_written zbase32 zbase32_lawful bs all

-- ---- read, then written

-- For the reader: bytes have one form, but for what is skipped
pub written_read : (cs bs : List ℕ) → read_typed cs ≡ done bs → (plain cs ≡ typed_of bs) × Bytes bs × (length bs ≤ 500)
unfolding typed_of
written_read cs bs h =
    let ls : List (List ℕ) = lines_of cs in
    let p : Passed ls bs = lines_passed ls bs (sym (read_lines cs) ∙ h) in
    let d : List ℕ = p.contents in
    let w = text.written_read zbase32 zbase32_lawful d bs p.decoded in
    let e : d ≡ text_of zbase32 bs = sym (letters_kept d (joined_letters 1 ls d p.letters p.joined)) ∙ w.0 in
    let lines : numbered 1 (rows most_lines (text_of zbase32 bs)) ≡ ls = ap (λ (t : List ℕ). numbered 1 (rows most_lines t)) (sym e) ∙ lines_back most_lines 1 ls d p.few p.counts p.joined in
    (sym (ap parted lines ∙ parted_lines cs), w.1, omega (arith, p.few, joined_short 1 ls d p.counts p.joined, ap length e, text_length bs))

-- ---- lengths

-- For the reader: room of 859 bytes is enough for every text, which is 20 lines of 42 characters
-- and 19 line feeds
pub typed_short : (bs : List ℕ) → length bs ≤ 500 → length (typed_of bs) ≤ 859
unfolding typed_of
typed_short bs h =
    let t : List ℕ = text_of zbase32 bs in
    let ls : List (List ℕ) = numbered 1 (rows most_lines t) in
    omega (arith, ap length (parted_fed ls), length-drop 1 (fed ls), lines_short most_lines 1 t, text_length bs)

-- For the reader: room of 500 bytes is enough for what is read
pub read_short : (cs bs : List ℕ) → read_typed cs ≡ done bs → length bs ≤ 500
read_short cs bs h = (written_read cs bs h).2
