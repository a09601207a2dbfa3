-- What the two writers do, over plain lists: each judgement in turn, then the write.
-- Assumes nothing.
use Prim.Native.Nat.{ℕ, ◌+◌, ◌≤◌, ◌<◌}
use mathlib.Core.Path.{◌≡◌, sym}
use mathlib.Core.Bool.{Bool, true, false, not}
use mathlib.Core.List.{List, []}
use native.Mathlib.Omega.{arith}
use borrow.Author.Tests.{eq-eqb, ne_eqb}
use lib.Dec.{eqb}
use lib.ListN.{length}
use Rattle.std.specs.Prelude.{Ok, Err}
use Rattle.wire.specs.Over.{over}
use Rattle.wire.specs.Answer.{done, refused, number_of}
use Rattle.wire.specs.Writing.{Written}
use Rattle.wire.specs.declared.Refusal.TheVariants.{OutOfRange, NoRoom}
use Rattle.wire.proofs.Cases.{said_yes, said_no}
use Rattle.wire.proofs.Writes.{written, no_room, denied}
use Rattle.shard.specs.Shard.{rest_verdict, rest_of, shard_of, shard_verdict, signed_of, signed_verdict}
use Rattle.shard.specs.declared.Quorum.{Quorum}
use Rattle.shard.proofs.Allowed.{AllowedRest, rest_passed, rest_listed, told_fits, kind_most}
use Rattle.shard.proofs.Lengths.{shard_length, signed_length}
use Rattle.shard.proofs.Verdicts.{shard_accepted, signed_accepted}

module _ (hash kind share : List ℕ) (len : ℕ) (q : Quorum) where
  -- the code's test passed
  rest_allowed : (r : Bool) → r ≡ eqb (number_of (rest_verdict hash kind share len q [])) 0 → not r ≡ false → AllowedRest hash kind share len q
  rest_allowed r e h = rest_passed hash kind share len q (said_yes r _ (told_fits hash kind share len q r e) h)

  rest_refused : (r : Bool) → r ≡ eqb (number_of (rest_verdict hash kind share len q [])) 0 → not r ≡ true → (form : List ℕ) → rest_verdict hash kind share len q form ≡ refused 19
  rest_refused r e h form = rw (rest_listed hash kind share len q form, said_no r _ (told_fits hash kind share len q r e) h)

  -- what is asked for the form's length
  pub rest_sized : (r : Bool) → r ≡ eqb (number_of (rest_verdict hash kind share len q [])) 0 → not r ≡ false → (length hash ≡ 32) × (length kind ≤ 12) × (length share ≤ 224)
  rest_sized r e h = let a = rest_allowed r e h in (a.hash_long, kind_most kind a.content.type, a.content.most)

  -- there is room: n is the length of the form from `hash` on
  module _ (public : List ℕ) (n room : ℕ) (p : length public ≡ 32) (e : n ≡ length (rest_of hash kind share len q)) where
    pub shard_fits : (sig : List ℕ) → length sig ≡ 64 → 109 + n ≤ room → length (shard_of public sig hash kind share len q) ≤ room
    shard_fits sig g l = omega (arith, shard_length hash kind share len q public p sig g)

    pub signed_fits : 57 + n ≤ room → length (signed_of public hash kind share len q) ≤ room
    signed_fits l = omega (arith, signed_length hash kind share len q public p)

  module _ (public sig x : List ℕ) where
    pub shard_public : (length public ≡ 32 → ⊥) → Written 0 (shard_verdict public sig hash kind share len q) x x (Err OutOfRange)
    unfolding shard_verdict
    shard_public p = rw (ne_eqb (length public) 32 p) (denied 0 x OutOfRange)

    module _ (p : length public ≡ 32) where
      pub shard_sig : (length sig ≡ 64 → ⊥) → Written 0 (shard_verdict public sig hash kind share len q) x x (Err OutOfRange)
      unfolding shard_verdict
      shard_sig g = rw (eq-eqb (length public) 32 p, ne_eqb (length sig) 64 g) (denied 0 x OutOfRange)

      module _ (g : length sig ≡ 64) (r : Bool) (f : r ≡ eqb (number_of (rest_verdict hash kind share len q [])) 0) where
        pub shard_rest : not r ≡ true → Written 0 (shard_verdict public sig hash kind share len q) x x (Err OutOfRange)
        unfolding shard_verdict
        shard_rest h = rw (eq-eqb (length public) 32 p, eq-eqb (length sig) 64 g, rest_refused r f h) (denied 0 x OutOfRange)

        module _ (h : not r ≡ false) (n : ℕ) (e : n ≡ length (rest_of hash kind share len q)) where
          whole : length (shard_of public sig hash kind share len q) ≡ 109 + n
          whole = omega (arith, shard_length hash kind share len q public p sig g)

          judged : shard_verdict public sig hash kind share len q ≡ done (shard_of public sig hash kind share len q)
          judged = shard_accepted hash kind share len q public sig (record { public_long = p; sig_long = g; rest = rest_allowed r f h })

          pub shard_short : length x < 109 + n → Written 0 (shard_verdict public sig hash kind share len q) x x (Err NoRoom)
          shard_short l = rw judged (no_room 0 x (shard_of public sig hash kind share len q) (omega (arith, whole)))

          pub shard_done : (z : List ℕ) → 109 + n ≤ length x → z ≡ over 0 (shard_of public sig hash kind share len q) x → Written 0 (shard_verdict public sig hash kind share len q) x z (Ok (109 + n))
          shard_done z l o = rw judged (written 0 x (shard_of public sig hash kind share len q) z (109 + n) (omega (arith, whole)) (sym whole) o)

  module _ (public x : List ℕ) where
    pub signed_public : (length public ≡ 32 → ⊥) → Written 0 (signed_verdict public hash kind share len q) x x (Err OutOfRange)
    unfolding signed_verdict
    signed_public p = rw (ne_eqb (length public) 32 p) (denied 0 x OutOfRange)

    module _ (p : length public ≡ 32) (r : Bool) (f : r ≡ eqb (number_of (rest_verdict hash kind share len q [])) 0) where
      pub signed_rest : not r ≡ true → Written 0 (signed_verdict public hash kind share len q) x x (Err OutOfRange)
      unfolding signed_verdict
      signed_rest h = rw (eq-eqb (length public) 32 p, rest_refused r f h) (denied 0 x OutOfRange)

      module _ (h : not r ≡ false) (n : ℕ) (e : n ≡ length (rest_of hash kind share len q)) where
        signed_whole : length (signed_of public hash kind share len q) ≡ 57 + n
        signed_whole = omega (arith, signed_length hash kind share len q public p)

        signed_judged : signed_verdict public hash kind share len q ≡ done (signed_of public hash kind share len q)
        signed_judged = signed_accepted hash kind share len q public p (rest_allowed r f h)

        pub signed_short : length x < 57 + n → Written 0 (signed_verdict public hash kind share len q) x x (Err NoRoom)
        signed_short l = rw signed_judged (no_room 0 x (signed_of public hash kind share len q) (omega (arith, signed_whole)))

        pub signed_done : (z : List ℕ) → 57 + n ≤ length x → z ≡ over 0 (signed_of public hash kind share len q) x → Written 0 (signed_verdict public hash kind share len q) x z (Ok (57 + n))
        signed_done z l o = rw signed_judged (written 0 x (signed_of public hash kind share len q) z (57 + n) (omega (arith, signed_whole)) (sym signed_whole) o)
