-- Laws of a write into a buffer. Assumes nothing.
use mathlib.Core.Path.{◌≡◌, refl, sym, ap, ◌∙◌}
use mathlib.Core.Logic.{⊎_elim}
use mathlib.Core.List.{List, [], ◌∷◌, ◌++◌, append_assoc, append-nil}
use Prim.Native.Nat.{ℕ, suc, ◌+◌, ◌≤◌, ◌<◌}
use native.Mathlib.Nat.{add_assoc, add-zero}
use native.Mathlib.Numerals.{add-one}
use native.Mathlib.Omega.{arith}
use borrow.Author.Tests.{le-leb, lt-leb}
use lib.ListN.{length, take, drop, set, get_or, length-append, length-drop, take-append-drop, drop_of_length-le}
use lib.Seq.{take-append-add, drop-append-add, take-suc, length-take-le, set_split, take_at, drop_at, drop-drop, take-add}
use Rattle.wire.specs.Over.{over}
use Rattle.wire.proofs.Cases.{lt_or_le}

-- where the bytes do not fit, nothing changes
pub over_out : (at : ℕ) (bs l : List ℕ) → length l < at + length bs → over at bs l ≡ l
unfolding over
over_out at bs l h = rw (lt-leb (at + length bs) (length l) h)

module _ (at : ℕ) (bs l : List ℕ) (fits : at + length bs ≤ length l) where
  pub over_fits : over at bs l ≡ take at l ++ bs ++ drop (at + length bs) l
  unfolding over
  over_fits = rw (le-leb (at + length bs) (length l) fits)

  head_length : length (take at l ++ bs) ≡ at + length bs
  head_length = length-append (take at l) bs ∙ ap (λ (k : ℕ). k + length bs) (length-take-le at l (omega arith))

  length_fits : length (over at bs l) ≡ length l
  length_fits = rw over_fits (simp (length-append, length-drop, length-take-le at l (omega arith)) (omega arith))

  pub take_over : take at (over at bs l) ≡ take at l
  take_over =
      rw over_fits
      (ap (take at) (append_assoc (take at l) bs (drop (at + length bs) l))
      ∙ take_at (take at l) (bs ++ drop (at + length bs) l) at (length-take-le at l (omega arith)))

  pub drop_over : drop (at + length bs) (over at bs l) ≡ drop (at + length bs) l
  drop_over = rw over_fits (drop_at (take at l ++ bs) (drop (at + length bs) l) (at + length bs) head_length)

  -- what was written is read back
  pub read_over : take (length bs) (drop at (over at bs l)) ≡ bs
  read_over =
      rw over_fits
      (ap (λ (r : List ℕ). take (length bs) (drop at r)) (append_assoc (take at l) bs (drop (at + length bs) l))
      ∙ ap (take (length bs)) (drop_at (take at l) (bs ++ drop (at + length bs) l) at (length-take-le at l (omega arith)))
      ∙ take_at bs (drop (at + length bs) l) (length bs) refl)

-- a write never changes a buffer's length
pub length_over : (at : ℕ) (bs l : List ℕ) → length (over at bs l) ≡ length l
length_over at bs l =
    ⊎_elim (λ out. ap length (over_out at bs l out)) (λ fits. length_fits at bs l fits) (lt_or_le (length l) (at + length bs))

-- a write of nothing
pub over_none : (at : ℕ) (l : List ℕ) → over at [] l ≡ l
over_none at l =
    ⊎_elim (λ out. over_out at [] l out) (λ fits. over_fits at [] l fits ∙ rw (append-nil (take at l), add-zero at) (take-append-drop at l))
    (lt_or_le (length l) (at + 0))

-- two writes, the second where the first ended, are one write
pub over_append : (at : ℕ) (xs bs l : List ℕ) (n : ℕ) → n ≡ at + length xs → n + length bs ≤ length l → over n bs (over at xs l) ≡ over at (xs ++ bs) l
over_append at xs bs l n e h =
    let m : ℕ = at + length xs in
    let f : at + length xs ≤ length l = omega arith in
    let g : at + length (xs ++ bs) ≤ length l = omega (arith, length-append xs bs) in
    let w : m + length bs ≤ length (over at xs l) = rw (length_over at xs l) (omega arith) in
    ap (λ (k : ℕ). over k bs (over at xs l)) e
    ∙ over_fits m bs (over at xs l) w
    ∙ ap (λ (r : List ℕ). take m r ++ bs ++ drop (m + length bs) (over at xs l)) (over_fits at xs l f)
    ∙ ap (λ (r : List ℕ). r ++ bs ++ drop (m + length bs) (over at xs l)) (take_at (take at l ++ xs) (drop m l) m (head_length at xs l f))
    ∙ ap (λ (r : List ℕ). take at l ++ xs ++ bs ++ r)
    (sym (drop-drop (length bs) m (over at xs l)) ∙ ap (drop (length bs)) (drop_over at xs l f) ∙ drop-drop (length bs) m l)
    ∙ ap (λ (r : List ℕ). r ++ drop (m + length bs) l) (append_assoc (take at l) xs bs)
    ∙ ap (λ (k : ℕ). take at l ++ (xs ++ bs) ++ drop k l) (add_assoc at (length xs) (length bs) ∙ ap (λ (k : ℕ). at + k) (sym (length-append xs bs)))
    ∙ sym (over_fits at (xs ++ bs) l g)

-- a store is a write of one byte
pub set_over : (l : List ℕ) (i v : ℕ) → i < length l → set l i v ≡ over i (v ∷ []) l
set_over l i v h =
    let f : i + length (v ∷ []) ≤ length l = omega arith in
    set_split l i v h
    ∙ sym (append_assoc (take i l) (v ∷ []) (drop (suc i) l))
    ∙ ap (λ (k : ℕ). take i l ++ (v ∷ []) ++ drop k l) (sym (add-one i))
    ∙ sym (over_fits i (v ∷ []) l f)

-- one byte more at the end of what was written
pub over_snoc : (at : ℕ) (bs l : List ℕ) (i v : ℕ) → i ≡ at + length bs → i < length l → set (over at bs l) i v ≡ over at (bs ++ (v ∷ [])) l
over_snoc at bs l i v e h =
    let g : i < length (over at bs l) = rw (length_over at bs l) h in
    set_over (over at bs l) i v g ∙ over_append at bs (v ∷ []) l i e (omega arith)

-- a turn of a loop that copies
pub over_next : (at : ℕ) (s l : List ℕ) (i : ℕ) → i < length s → at + length s ≤ length l → set (over at (take i s) l) (at + i) (get_or s i 0) ≡ over at (take (i + 1) s) l
over_next at s l i h f =
    let e : length (take i s) ≡ i = length-take-le i s (omega arith) in
    over_snoc at (take i s) l (at + i) (get_or s i 0) (omega arith) (omega arith)
    ∙ ap (λ (r : List ℕ). over at r l) (sym (take-suc s i 0 h) ∙ ap (λ (k : ℕ). take k s) (sym (add-one i)))

-- one more write in a run of writes: x is l with `done` written from at on, and y is x with bs
-- written where that ended
pub over_then : (at n : ℕ) (done bs l x y : List ℕ) → y ≡ over n bs x → x ≡ over at done l → n ≡ at + length done → n + length bs ≤ length l → y ≡ over at (done ++ bs) l
over_then at n done bs l x y e f g h = e ∙ ap (over n bs) f ∙ over_append at done bs l n g h

-- a run of writes, with how much is written so far: the lengths go along, so that nothing has to be
-- rewritten by `length-append`
pub over_run : (at m n k : ℕ) (done bs l x y : List ℕ) → y ≡ over m bs x → (x ≡ over at done l) × (length done ≡ n) → length bs ≡ k → m ≡ at + n → m + k ≤ length l
    → (y ≡ over at (done ++ bs) l) × (length (done ++ bs) ≡ n + k)
over_run at m n k done bs l x y e (f, g) b h t =
    (over_then at m done bs l x y e f (omega arith) (omega arith), length-append done bs ∙ omega arith)

-- a write over the whole buffer
pub over_all : (bs l : List ℕ) → length bs ≡ length l → over 0 bs l ≡ bs
over_all bs l e =
    let f : 0 + length bs ≤ length l = omega arith in
    over_fits 0 bs l f ∙ ap (λ (r : List ℕ). bs ++ r) (drop_of_length-le l {i = 0 + length bs} (omega arith)) ∙ append-nil bs

-- a write of what stands there already
pub over_same : (at : ℕ) (bs l : List ℕ) → at + length bs ≤ length l → take (length bs) (drop at l) ≡ bs → over at bs l ≡ l
over_same at bs l h e =
    over_fits at bs l h
    ∙ ap (λ (r : List ℕ). take at l ++ r ++ drop (at + length bs) l) (sym e)
    ∙ ap (λ (r : List ℕ). r ++ drop (at + length bs) l) (sym (take-add at (length bs) l))
    ∙ take-append-drop (at + length bs) l

-- a write into a list of two parts: over the front, or past it
pub over_front : (a b l : List ℕ) → length b ≡ length a → over 0 b (a ++ l) ≡ b ++ l
over_front a b l e =
    let fits : 0 + length b ≤ length (a ++ l) = omega (arith, length-append a l) in
    over_fits 0 b (a ++ l) fits ∙ ap (λ (r : List ℕ). b ++ r) (drop_at a l (0 + length b) (omega arith))

pub over_skip : (n m : ℕ) (a b l : List ℕ) → n ≡ length a + m → over n b (a ++ l) ≡ a ++ over m b l
over_skip n m a b l e =
    ⊎_elim
    (λ out. over_out n b (a ++ l) (omega (arith, length-append a l)) ∙ ap (λ (r : List ℕ). a ++ r) (sym (over_out m b l out)))
    (λ fits.
    let f : n + length b ≡ length a + (m + length b) = omega arith in
    over_fits n b (a ++ l) (omega (arith, length-append a l))
    ∙ rw (f, e, take-append-add a l m, drop-append-add a l (m + length b)) (simp append_assoc)
    ∙ ap (λ (r : List ℕ). a ++ r) (sym (over_fits m b l fits)))
    (lt_or_le (length l) (m + length b))
