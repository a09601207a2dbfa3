-- FIPS 180-4, section 6.2: the hash of a message.
use Rattle.std.specs.Prelude.{ℕ, zero, suc, ◌-◌, ◌/◌, List, [], ◌∷◌, ◌++◌, ltb, length, get_or}
use Rattle.wire.specs.Answer.{choose}
use Rattle.wire.specs.Number.{big_endian}
use Rattle.bits.specs.Word.{plus}
use Rattle.sha256.specs.declared.State.{State}
use Rattle.sha256.specs.Functions.{ch, maj, Σ0, Σ1, σ0, σ1}
use Rattle.sha256.specs.Constants.{k_words, start}
use Rattle.sha256.specs.Message.{pad, block, word}

-- ---- section 6.2.2, step 1: the message schedule W of a block m
-- W_t from the words before it, where t is 16 or more
unfoldable pub next : ℕ → List ℕ → ℕ
next t w = plus 32 (plus 32 (plus 32 (σ1 (get_or w (t - 2) 0)) (get_or w (t - 7) 0)) (σ0 (get_or w (t - 15) 0))) (get_or w (t - 16) 0)

unfoldable pub entry : ℕ → List ℕ → List ℕ → ℕ
entry t m w = choose (ltb t 16) (word t m) (next t w)

-- the first t words
unfoldable pub schedule : ℕ → List ℕ → List ℕ
schedule zero m = []
schedule (suc t) m = schedule t m ++ (entry t m (schedule t m) ∷ [])

-- ---- steps 2 and 3: the working variables a to h, at the constant k and the word w
unfoldable pub T1 : State → ℕ → ℕ → ℕ
T1 s k w = plus 32 (plus 32 (plus 32 (plus 32 s.h (Σ1 s.e)) (ch s.e s.f s.g)) k) w

unfoldable pub T2 : State → ℕ
T2 s = plus 32 (Σ0 s.a) (maj s.a s.b s.c)

unfoldable pub round : State → ℕ → ℕ → State
round s k w =
    record { a = plus 32 (T1 s k w) (T2 s); b = s.a; c = s.b; d = s.c; e = plus 32 s.d (T1 s k w); f = s.e; g = s.f; h = s.g }

-- the first t rounds, over the schedule w
unfoldable pub rounds : ℕ → List ℕ → State → State
rounds zero w s = s
rounds (suc t) w s = round (rounds t w s) (get_or k_words t 0) (get_or w t 0)

-- ---- step 4: the hash value after a block
unfoldable pub sum : State → State → State
sum s t =
    record { a = plus 32 s.a t.a; b = plus 32 s.b t.b; c = plus 32 s.c t.c; d = plus 32 s.d t.d; e = plus 32 s.e t.e; f = plus 32 s.f t.f; g = plus 32 s.g t.g; h = plus 32 s.h t.h }

unfoldable pub compress : State → List ℕ → State
compress s m = sum (rounds 64 (schedule 64 m) s) s

-- after the first n blocks of bs
unfoldable pub blocks : ℕ → List ℕ → State → State
blocks zero bs s = s
blocks (suc n) bs s = compress (blocks n bs s) (block n bs)

-- ---- the message digest: the eight words of the last hash value, each with its highest byte first
unfoldable pub listed : State → List ℕ
listed s = s.a ∷ s.b ∷ s.c ∷ s.d ∷ s.e ∷ s.f ∷ s.g ∷ s.h ∷ []

unfoldable pub joined : List ℕ → List ℕ
joined [] = []
joined (x ∷ xs) = big_endian 4 x ++ joined xs

-- the digest of a file (R14.3)
unfoldable pub sha256 : List ℕ → List ℕ
sha256 bs = joined (listed (blocks (length (pad bs) / 64) (pad bs) start))
