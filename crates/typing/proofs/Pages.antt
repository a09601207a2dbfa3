-- What the reader of typed lines says, as the scan and the fault have it. Assumes nothing.
use Prim.Native.Nat.{ℕ, suc, ◌-◌, ◌*◌, ◌≤◌}
use mathlib.Core.Path.{◌≡◌, refl, sym, ap, ◌∙◌}
use mathlib.Core.Logic.{⊎_elim}
use mathlib.Core.Bool.{Bool, true, false, ◌&&◌, ◌||◌}
use mathlib.Core.List.{List, [], ◌∷◌, ◌++◌}
use native.Mathlib.Omega.{arith}
use borrow.Author.Tests.{eq-eqb, ne_eqb, leb-true, eqb-true}
use lib.Dec.{leb, eqb}
use lib.ListN.{length, take, replicate, length-take, length-append, length-replicate}
use Rattle.wire.specs.Answer.{choose, Answer, done, refused_at, then}
use Rattle.wire.specs.Every.{every}
use Rattle.wire.specs.Writing.{writing}
use Rattle.wire.proofs.Cases.{passed, then_done, done_value, not_done, both_hold}
use Rattle.wire.proofs.Overs.{read_over}
use Rattle.wire.proofs.Writes.{Stood, done_stood, refused_why}
use Rattle.text.specs.Text.{zbase32, read_text}
use Rattle.text.proofs.Forms.{zbase32_lawful}
use Rattle.text.proofs.Round.{text_short}
use Rattle.typed.specs.Typed.{most_lines, feed, is_letter, plain, lines_of, count_right, none, counts_right, data_of, right, joined_from, read_typed, read_line, ReadLines}
use Rattle.std.specs.Prelude.{Result, Ok, Err}
use Rattle.std.specs.Result.{IsErr, IsErrAnd}
use Rattle.wire.specs.Reading.{told_at}
use Rattle.wire.specs.Refusal.{number}
use Rattle.wire.specs.declared.Refusal.{Refusal}
use Rattle.wire.specs.declared.Refusal.TheVariants.{BadCharacter, BadTextLength}
use Rattle.wire.specs.declared.RefusedAt.{RefusedAt}
use Rattle.wire.proofs.Answers.{err_is, number_injective}
use Rattle.frame.specs.Frame.{frame_of}
use Rattle.typing.specs.Typing.{scan_of, odd_line, count_fault, frame_fault, fault_of, line_fault}
use Rattle.typing.specs.Private.{framed}
use Rattle.typing.specs.declared.Fault.{Fault}
use Rattle.typing.specs.declared.Fault.TheVariants.{Good, Nothing, Letter, Count, Mistyped}

-- ---- lines that are read have at most 800 characters of data, and no more bytes

data_most : (l : List ℕ) (last : Bool) → count_right last (length l) ≡ true → length (data_of l) ≤ 40
unfolding count_right data_of
data_most l true h =
    let (a, b) = both_hold (leb 3 (length l)) (leb (length l) 42) h in
    rw (length-take (length l - 2) l) (omega (arith, leb-true (length l) 42 b))
data_most l false h = rw (length-take (length l - 2) l) (omega (arith, eqb-true (length l) 42 h))

joined_most : (n : ℕ) (ls : List (List ℕ)) (ds : List ℕ) → counts_right ls ≡ true → joined_from n ls ≡ done ds → length ds ≤ 40 * length ls
unfolding joined_from counts_right
joined_most n [] ds c e = omega (arith, ap length (done_value e))
joined_most n (l ∷ ls) ds c e =
    let (h, more) = both_hold (count_right (none ls) (length l)) (counts_right ls) c in
    let (t, q) = passed_at (right n l) (then (joined_from (suc n) ls) (λ rest. done (data_of l ++ rest))) 23 n e in
    let (rest, p, z) = then_done (joined_from (suc n) ls) (λ rest. done (data_of l ++ rest)) q in
    omega (arith, ap length (done_value z), length-append (data_of l) rest, data_most l (none ls) h, joined_most (suc n) ls rest more p)
  where
    passed_at : {v : List ℕ} (t : Bool) (x : Answer (List ℕ)) (e k : ℕ) → choose t x (refused_at e k) ≡ done v → (t ≡ true) × (x ≡ done v)
    passed_at true x e k h = (refl, h)
    passed_at false x e k h = not_done h

pub read_short : (cs bs : List ℕ) → read_typed cs ≡ done bs → length bs ≤ 800
unfolding read_typed
read_short cs bs e =
    let (t, q) = passed (every (λ c. eqb c feed || is_letter c) (plain cs)) _ 1 e in
    let (u, p) = passed (leb (length (lines_of cs)) most_lines && counts_right (lines_of cs)) _ 2 q in
    let (l, c) = both_hold (leb (length (lines_of cs)) most_lines) (counts_right (lines_of cs)) u in
    let (ds, j, z) = then_done (joined_from 1 (lines_of cs)) (read_text zbase32) p in
    omega (arith, leb-true (length (lines_of cs)) 20 l, joined_most 1 (lines_of cs) ds c j, text_short zbase32 zbase32_lawful ds bs z)

-- another refusal has another number
other : {b a : Refusal} → (b ≡ a → ⊥) → number b ≡ number a → ⊥
other {b} {a} n e = n (number_injective b a e)

-- ---- what the reader answered, with room for all of that

module _ (cs y : List ℕ) (r : Result ℕ RefusedAt) (w : ReadLines (read_typed cs) (replicate 800 0) y r) where
  module _ (n : ℕ) (q : r ≡ Ok n) where
    stood : Stood 0 (read_typed cs) (replicate 800 0) y n
    stood = done_stood 0 (read_typed cs) (replicate 800 0) y n (rw q at w)

    pub read_room : length y ≡ length (replicate {A = ℕ} 800 0) → n ≤ length y
    read_room l = omega (arith, stood.fits)

    read_fits : n ≤ 800
    read_fits = omega (arith, stood.fits, length-replicate {A = ℕ} 800 0)

    pub part_short : length (take n y) ≤ 800
    part_short = rw (length-take n y) (omega (arith, read_fits))

    read_is : read_typed cs ≡ done (take n y)
    read_is =
        let bs = stood.what in
        let z : n ≡ length bs = stood.count in
        let e : take n y ≡ bs =
        ap (λ (k : ℕ). take k y) z ∙ ap (λ (x : List ℕ). take (length bs) x) stood.stands
        ∙ read_over 0 bs (replicate 800 0) (omega (arith, stood.fits, stood.count)) in
        stood.meant ∙ ap (λ (b : List ℕ). done b) (sym e)

    pub scan_done : (out out' : List ℕ) (s : Result ℕ RefusedAt) → ReadLines (framed (take n y)) out out' s → ReadLines (scan_of cs) out out' s
    unfolding scan_of framed
    scan_done out out' s k = rw read_is k

    pub fault_read : (f : Fault) → (length cs ≡ 0 → ⊥) → f ≡ frame_fault (frame_of (take n y)) → f ≡ fault_of cs
    unfolding fault_of
    fault_read f h k = rw (ne_eqb (length cs) 0 h, read_is) k

  module _ (b : RefusedAt) (q : r ≡ Err b) where
    refused_is : read_typed cs ≡ refused_at (number b.why) b.place
    refused_is =
        ⊎_elim (λ p. p)
        (λ p. absurd (omega (arith, p.2, read_short cs p.0 p.1, length-replicate {A = ℕ} 800 0)))
        (refused_why 0 (read_typed cs) (replicate 800 0) y (number b.why) b.place (rw q at w))

    pub scan_refused : (out : List ℕ) (s : Result ℕ RefusedAt) → IsErr s × IsErrAnd s (λ x. x ≡ b) → ReadLines (scan_of cs) out out s
    unfolding scan_of writing
    scan_refused out s h = rw (err_is s b h, refused_is) (record { answer = refl; bytes = refl })

    module _ (h : length cs ≡ 0 → ⊥) where
      pub fault_letter : (n : ℕ) → b.why ≡ BadCharacter → n ≡ odd_line 1 cs → Letter n ≡ fault_of cs
      unfolding fault_of
      fault_letter n t k = rw (ne_eqb (length cs) 0 h, refused_is, t, k)

      pub fault_count : (f : Fault) → b.why ≡ BadTextLength → f ≡ count_fault 1 (lines_of cs) → f ≡ fault_of cs
      unfolding fault_of
      fault_count f t k = rw (ne_eqb (length cs) 0 h, refused_is, t) k

      pub fault_mistyped : (b.why ≡ BadCharacter → ⊥) → (b.why ≡ BadTextLength → ⊥) → Mistyped b.place ≡ fault_of cs
      unfolding fault_of
      fault_mistyped s t = rw (ne_eqb (length cs) 0 h, refused_is, ne_eqb (number b.why) 1 (other s), ne_eqb (number b.why) 2 (other t))

pub fault_nothing : (cs : List ℕ) → length cs ≡ 0 → Nothing ≡ fault_of cs
unfolding fault_of
fault_nothing cs h = rw (eq-eqb (length cs) 0 h)

-- ---- one line

module _ (n : ℕ) (cs : List ℕ) (r : Result Unit RefusedAt) (w : told_at r ≡ read_line true n cs) where
  pub line_right : (u : Unit) → r ≡ Ok u → Good ≡ line_fault n cs
  unfolding line_fault
  line_right u q = rw (← w, q)

  module _ (b : RefusedAt) (q : r ≡ Err b) where
    pub line_letter : b.why ≡ BadCharacter → Letter n ≡ line_fault n cs
    unfolding line_fault
    line_letter t = rw (← w, q, t)

    pub line_count : (k : ℕ) → b.why ≡ BadTextLength → k ≡ length (plain cs) → Count n k true ≡ line_fault n cs
    unfolding line_fault
    line_count k t p = rw (← w, q, t, p)

    pub line_mistyped : (b.why ≡ BadCharacter → ⊥) → (b.why ≡ BadTextLength → ⊥) → Mistyped b.place ≡ line_fault n cs
    unfolding line_fault
    line_mistyped s t = rw (← w, q, ne_eqb (number b.why) 1 (other s), ne_eqb (number b.why) 2 (other t))
