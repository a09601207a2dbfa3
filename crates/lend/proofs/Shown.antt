-- A word of which byte after byte is replaced. Assumes nothing.
use Prim.Native.Nat.{ℕ, ◌+◌, ◌<◌}
use mathlib.Core.Path.{◌≡◌, sym, ap, ap₂, ◌∙◌}
use mathlib.Core.List.{List, map, [], ◌∷◌, ◌++◌}
use native.Mathlib.Omega.{arith}
use lib.ListN.{length, take, drop, get_or, set}
use Rattle.std.proofs.lemmas.List.{take_more, take_more_set, drop-drop, drop-set-lt, get_or-drop, map-append}

-- the first i bytes of x are those of l by f, and the rest is as it was in l
abbrev pub Shown : (ℕ → ℕ) → List ℕ → List ℕ → ℕ → Type 0
Shown f l x i = (take i x ≡ map f (take i l)) × (drop i x ≡ drop i l)

pub shown_on : (f : ℕ → ℕ) (l x : List ℕ) (i v : ℕ) → Shown f l x i → i < length x → length x ≡ length l → v ≡ f (get_or x i 0) → Shown f l (set x i v) (i + 1)
shown_on f l x i v s h n e =
    let t : get_or x i 0 ≡ get_or l i 0 = front x l s.1 in
    let made : take (i + 1) (set x i v) ≡ map f (take (i + 1) l) =
    take_more_set x i v h
    ∙ ap₂ (λ (a : List ℕ) (b : ℕ). a ++ b ∷ []) s.0 (e ∙ ap f t)
    ∙ sym (map-append f (take i l) (get_or l i 0 ∷ []))
    ∙ ap (map f) (sym (take_more l i 0 (omega arith))) in
    (made, drop-set-lt (i + 1) x i v (omega arith) ∙ behind)
  where
    front : (a b : List ℕ) → drop i a ≡ drop i b → get_or a i 0 ≡ get_or b i 0
    front a b e = sym (at a) ∙ ap (λ (r : List ℕ). get_or r 0 0) e ∙ at b
      where
        at : (a : List ℕ) → get_or (drop i a) 0 0 ≡ get_or a i 0
        at a = get_or-drop i a 0 0 ∙ ap (λ (k : ℕ). get_or a k 0) (omega arith)

    behind : drop (i + 1) x ≡ drop (i + 1) l
    behind = sym (drop-drop 1 i x) ∙ ap (drop 1) s.1 ∙ drop-drop 1 i l
