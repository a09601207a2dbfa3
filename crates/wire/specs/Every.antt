-- A test of a whole list.
use Rattle.std.specs.Prelude.{ℕ, Bool, true, not, ◌&&◌, List, [], ◌∷◌, ltb, eqb}

-- each one passes
unfoldable pub every : {A : Type 0} → (A → Bool) → List A → Bool
every test [] = true
every test (x ∷ xs) = test x && every test xs

-- each is below n
abbrev pub within : ℕ → List ℕ → Bool
within n = every (λ (c : ℕ). ltb c n)

-- none is n
abbrev pub without : ℕ → List ℕ → Bool
without n = every (λ (c : ℕ). not (eqb c n))
