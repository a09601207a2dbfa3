-- Laws of `vector`: an array that a loop fills from the front, two vectors that agree, and a list
-- as the vector of its elements. Assumes nothing.
use Rattle.std.proofs.Common.{◌≡◌, ℕ, zero, suc, ◌+◌, ◌<◌, ◌≤◌, List, [], ◌∷◌, ◌++◌, length, get_or, take, set, sym, refl, ap, ◌∙◌, add-one, arith, length-append, take_all, take-suc, take-suc-set}
use Rattle.blake2b.specs.Blake2b.{vector}

-- a turn of the loop: element i is stored
pub vector_more : (f : ℕ → ℕ) (l : List ℕ) (i x : ℕ) → i < length l → take i l ≡ vector i f → x ≡ f i → take (i + 1) (set l i x) ≡ vector (i + 1) f
unfolding vector
vector_more f l i x h e ex = rw add-one (take-suc-set l i x h ∙ cc)

-- the loop's end: all n are stored
pub vector_whole : (f : ℕ → ℕ) (l : List ℕ) (n i : ℕ) → length l ≡ n → i ≡ n → take i l ≡ vector i f → l ≡ vector n f
vector_whole f l n i el e p = sym (take_all n l (omega arith)) ∙ rw e at p

pub length_vector : (n : ℕ) (f : ℕ → ℕ) → length (vector n f) ≡ n
unfolding vector
length_vector zero f = refl
length_vector (suc n) f = length-append (vector n f) (f n ∷ []) ∙ rw (length_vector n f, add-one)

pub vector_same : (n : ℕ) (f g : ℕ → ℕ) → ((i : ℕ) → i < n → f i ≡ g i) → vector n f ≡ vector n g
unfolding vector
vector_same zero f g e = refl
vector_same (suc n) f g e = cc (vector_same n f g (λ i h. e i (omega arith)), e n (omega arith))

pub take_vector : (n : ℕ) (l : List ℕ) → n ≤ length l → take n l ≡ vector n (λ i. get_or l i 0)
unfolding vector
take_vector zero l h = refl
take_vector (suc n) l h = take-suc l n 0 h ∙ ap (λ (p : List ℕ). p ++ (get_or l n 0 ∷ [])) (take_vector n l (omega arith))

pub as_vector : (n : ℕ) (l : List ℕ) → length l ≡ n → l ≡ vector n (λ i. get_or l i 0)
as_vector n l e = sym (take_all n l (omega arith)) ∙ take_vector n l (omega arith)
