-- What `split` answers, over plain lists: each judgement in turn, then the shares. Assumes nothing.
use Prim.Native.Nat.{ℕ, ◌+◌, ◌-◌, ◌*◌, ◌/◌, ◌≤◌, ◌<◌}
use mathlib.Core.Path.{◌≡◌, sym}
use mathlib.Core.Bool.{Bool, true, false, not}
use mathlib.Core.List.{List}
use native.Mathlib.Nat.{mul-le-mul}
use native.Mathlib.Omega.{arith}
use borrow.Author.Tests.{le-leb, lt-leb, eq-eqb, ne_eqb, leb-true}
use lib.Dec.{leb}
use lib.ListN.{length}
use Rattle.wire.specs.Over.{over}
use Rattle.wire.specs.Answer.{done}
use Rattle.wire.specs.Writing.{Written}
use Rattle.std.specs.Prelude.{Ok, Err}
use Rattle.wire.specs.declared.Refusal.TheVariants.{NoRoom, OutOfRange}
use Rattle.wire.proofs.Cases.{said_yes, said_no, both_hold}
use Rattle.wire.proofs.Writes.{written, no_room, denied}
use Rattle.split.specs.Split.{blocks_in, shares_of, quorum_allowed, split_verdict}
use Rattle.split.proofs.Sharing.{length_shares}

-- ---- what the code may count on where its tests passed

module _ (t c : ℕ) (r : Bool) (e : r ≡ quorum_allowed t c) (h : not r ≡ false) where
  pub quorum_kept : (1 ≤ t) × (t ≤ c) × (c ≤ 255)
  unfolding quorum_allowed
  quorum_kept =
      let a = both_hold (leb 1 t) _ (said_yes r _ e h) in
      let b = both_hold (leb t c) (leb c 255) a.1 in
      (leb-true 1 t a.0, leb-true t c b.0, leb-true c 255 b.1)

  module _ (s : ℕ) (m : s ≤ 224) where
    -- the coefficients of all blocks, and all shares
    pub coefficients_few : (s + 15) / 16 * ((t - 1) * 16) ≤ 14 * 4064
    coefficients_few =
        let n : (s + 15) / 16 ≤ 14 = omega arith in
        let m : (t - 1) * 16 ≤ 4064 = omega (arith, quorum_kept.1, quorum_kept.2) in
        mul-le-mul n m

    pub shares_few : c * ((s + 15) / 16 * 16) ≤ 255 * 224
    shares_few = let n : (s + 15) / 16 * 16 ≤ 224 = omega arith in mul-le-mul quorum_kept.2 n

-- ---- the answers

module _ (secret : List ℕ) (t c : ℕ) (cs x : List ℕ) (r : Bool) (e : r ≡ quorum_allowed t c) where
  pub split_quorum : not r ≡ true → Written 0 (split_verdict secret t c cs) x x (Err OutOfRange)
  unfolding split_verdict
  split_quorum h = rw (said_no r _ e h) (denied 0 x OutOfRange)

  module _ (h : not r ≡ false) where
    pub split_empty : length secret < 1 → Written 0 (split_verdict secret t c cs) x x (Err OutOfRange)
    unfolding split_verdict
    split_empty l = rw (said_yes r _ e h, lt-leb 1 (length secret) l) (denied 0 x OutOfRange)

    module _ (l : 1 ≤ length secret) where
      pub split_long : 224 < length secret → Written 0 (split_verdict secret t c cs) x x (Err OutOfRange)
      unfolding split_verdict
      split_long m = rw (said_yes r _ e h, le-leb 1 (length secret) l, lt-leb (length secret) 224 m) (denied 0 x OutOfRange)

      module _ (m : length secret ≤ 224) where
        pub split_other : (length cs ≡ blocks_in (length secret) * ((t - 1) * 16) → ⊥) → Written 0 (split_verdict secret t c cs) x x (Err OutOfRange)
        unfolding split_verdict
        split_other q =
            rw (said_yes r _ e h, le-leb 1 (length secret) l, le-leb (length secret) 224 m, ne_eqb (length cs) (blocks_in (length secret) * ((t - 1) * 16)) q) (denied 0 x OutOfRange)

        module _ (q : length cs ≡ blocks_in (length secret) * ((t - 1) * 16)) where
          judged : split_verdict secret t c cs ≡ done (shares_of secret t c cs)
          unfolding split_verdict
          judged = rw (said_yes r _ e h, le-leb 1 (length secret) l, le-leb (length secret) 224 m, eq-eqb (length cs) (blocks_in (length secret) * ((t - 1) * 16)) q)

          whole : length (shares_of secret t c cs) ≡ c * (blocks_in (length secret) * 16)
          whole = length_shares c 1 (blocks_in (length secret)) (t - 1) secret cs

          pub split_short : length x < c * (blocks_in (length secret) * 16) → Written 0 (split_verdict secret t c cs) x x (Err NoRoom)
          split_short f = rw judged (no_room 0 x (shares_of secret t c cs) (omega (arith, whole)))

          pub split_done : (z : List ℕ) → c * (blocks_in (length secret) * 16) ≤ length x → z ≡ over 0 (shares_of secret t c cs) x
              → Written 0 (split_verdict secret t c cs) x z (Ok (c * (blocks_in (length secret) * 16)))
          split_done z f o = rw judged (written 0 x (shares_of secret t c cs) z (c * (blocks_in (length secret) * 16)) (omega (arith, whole)) (sym whole) o)
