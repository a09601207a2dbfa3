-- A form stands at a position of the input: how such facts are had, joined and taken apart.
-- Assumes nothing.
use Prim.Native.Nat.{ℕ, suc, ◌+◌, ◌-◌, ◌≤◌, ◌<◌}
use mathlib.Core.Path.{◌≡◌, refl, sym, ap, ◌∙◌}
use mathlib.Core.List.{List, [], ◌∷◌, ◌++◌, append_assoc, append-nil}
use native.Mathlib.Nat.{add-zero}
use native.Mathlib.Numerals.{add-one}
use native.Mathlib.Omega.{arith}
use lib.ListN.{length, take, drop, get_or, length-append, length-drop, take-append-drop}
use lib.Seq.{take_at, drop_at, drop-drop, drop-cons, drop-length, length-take-le, drop-append_seam, take-append_seam, get_or-drop}

-- from position at to before position next
pub record Stands (s : List ℕ) (at : ℕ) (form : List ℕ) (next : ℕ) : Type 0 where
  pub ends : next ≡ at + length form
  pub within : next ≤ length s
  pub split : drop at s ≡ form ++ drop next s

-- by what is left of the input from at on
pub stands_at : (s : List ℕ) (at : ℕ) (form rest : List ℕ) → at ≤ length s → drop at s ≡ form ++ rest → Stands s at form (at + length form)
stands_at s at form rest l h =
    let k : length s - at ≡ length form + length rest = sym (length-drop at s) ∙ ap length h ∙ length-append form rest in
    let e : rest ≡ drop (at + length form) s =
    sym (drop_at form rest (length form) refl) ∙ ap (drop (length form)) (sym h) ∙ drop-drop (length form) at s in
    record { ends = refl; within = omega arith; split = h ∙ ap (λ (r : List ℕ). form ++ r) e }

-- the whole input
pub stands_whole : (s : List ℕ) → Stands s 0 s (length s)
stands_whole s = record { ends = omega arith; within = omega arith; split = sym (append-nil s) ∙ ap (λ (r : List ℕ). s ++ r) (sym (drop-length s)) }

pub stands_all : {s form : List ℕ} → Stands s 0 form (length s) → s ≡ form
stands_all {s} {form} h = h.split ∙ ap (λ (r : List ℕ). form ++ r) (drop-length s) ∙ append-nil form

module _ {s : List ℕ} where
  -- one form after the other
  pub stands_join : {at p next : ℕ} {a b : List ℕ} → Stands s at a p → Stands s p b next → Stands s at (a ++ b) next
  stands_join {next = next} {a = a} {b = b} h k =
      record {
        ends = omega (arith, h.ends, k.ends, length-append a b);
        within = k.within;
        split = h.split ∙ ap (λ (r : List ℕ). a ++ r) k.split ∙ sym (append_assoc a b (drop next s));
      }

  module _ {at next : ℕ} (a b : List ℕ) (h : Stands s at (a ++ b) next) where
    -- the first of two forms ends where the second starts
    pub stands_first : Stands s at a (at + length a)
    stands_first =
        stands_at s at a (b ++ drop next s) (omega (arith, h.ends, h.within, length-append a b)) (h.split ∙ append_assoc a b (drop next s))

    pub stands_second : Stands s (at + length a) b next
    stands_second =
        record {
          ends = omega (arith, h.ends, length-append a b);
          within = h.within;
          split =
              sym (drop-drop (length a) at s)
              ∙ ap (drop (length a)) (h.split ∙ append_assoc a b (drop next s))
              ∙ drop_at a (b ++ drop next s) (length a) refl;
        }

  -- the same under other names
  pub stands_as : {at p next : ℕ} {a b : List ℕ} → a ≡ b → p ≡ next → Stands s at a p → Stands s at b next
  stands_as e n h = rw (← e, ← n) h

  -- the bytes of a form are those at its place
  pub stands_bytes : {at next : ℕ} {form : List ℕ} → Stands s at form next → take (length form) (drop at s) ≡ form
  stands_bytes {next = next} {form = form} h = ap (take (length form)) h.split ∙ take_at form (drop next s) (length form) refl

  -- the next k bytes, where they are there
  pub stands_part : (at k : ℕ) → at + k ≤ length s → Stands s at (take k (drop at s)) (at + k)
  stands_part at k l =
      let e : length (take k (drop at s)) ≡ k = length-take-le k (drop at s) (omega (arith, length-drop at s)) in
      record {
        ends = omega arith;
        within = l;
        split = sym (take-append-drop k (drop at s)) ∙ ap (λ (r : List ℕ). take k (drop at s) ++ r) (drop-drop k at s);
      }

  -- nothing
  pub stands_none : (at : ℕ) → at ≤ length s → Stands s at [] at
  stands_none at l = record { ends = sym (add-zero at); within = l; split = refl }

  -- a byte
  pub stands_byte : {at next : ℕ} (x : ℕ) → Stands s at (x ∷ []) next → (at < length s) × (get_or s at 0 ≡ x) × (next ≡ at + 1)
  stands_byte {at} {next} x h =
      let l : at < length s = omega (arith, h.ends, h.within) in
      let c : get_or s at 0 ∷ drop (suc at) s ≡ x ∷ drop next s = sym (drop-cons s at 0 l) ∙ h.split in
      let e : get_or s at 0 ≡ x = cc in
      (l, e, h.ends)

  pub byte_stands : (at : ℕ) → at < length s → Stands s at (get_or s at 0 ∷ []) (at + 1)
  byte_stands at l =
      record {
        ends = refl;
        within = omega arith;
        split = drop-cons s at 0 l ∙ ap (λ (k : ℕ). get_or s at 0 ∷ drop k s) (sym (add-one at));
      }

-- ---- the same of lists alone: what is left of the input from at on is bs, and then rest

module _ (s : List ℕ) (at : ℕ) (bs rest : List ℕ) (h : drop at s ≡ bs ++ rest) where
  pub stands_next : drop (at + length bs) s ≡ rest
  stands_next = sym (drop-drop (length bs) at s) ∙ ap (drop (length bs)) h ∙ drop-append_seam bs rest

  pub stands_take : take (length bs) (drop at s) ≡ bs
  stands_take = ap (take (length bs)) h ∙ take-append_seam bs rest

  pub stands_left : length s - at ≡ length bs + length rest
  stands_left = sym (length-drop at s) ∙ ap length h ∙ length-append bs rest

pub stands_head : (s : List ℕ) (at x : ℕ) (rest : List ℕ) → drop at s ≡ x ∷ rest → get_or s at 0 ≡ x
stands_head s at x rest h =
    ap (λ (k : ℕ). get_or s k 0) (sym (add-zero at)) ∙ sym (get_or-drop at s 0 0) ∙ ap (λ (l : List ℕ). get_or l 0 0) h
