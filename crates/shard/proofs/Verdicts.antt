-- The values that the writers accept are those that R11.2 to R11.6 allow. Assumes nothing.
use Prim.Native.Nat.{ℕ, ◌≤◌}
use mathlib.Core.Path.{◌≡◌, ap}
use mathlib.Core.List.{List}
use native.Mathlib.Omega.{arith}
use borrow.Author.Tests.{eq-eqb, eqb-true}
use lib.Dec.{eqb}
use lib.ListN.{length}
use Rattle.wire.specs.Answer.{done}
use Rattle.wire.proofs.Cases.{passed, done_value}
use Rattle.shard.specs.Shard.{shard_of, shard_verdict, signed_of, signed_verdict}
use Rattle.shard.specs.declared.Quorum.{Quorum}
use Rattle.shard.proofs.Allowed.{AllowedRest, Allowed, rest_fits, rest_yes, rest_passed, rest_listed}
use Rattle.shard.proofs.Lengths.{shard_most}

module _ (hash kind share : List ℕ) (len : ℕ) (q : Quorum) (public : List ℕ) where
  module _ (sig : List ℕ) where
    pub shard_accepted : Allowed public sig hash kind share len q → shard_verdict public sig hash kind share len q ≡ done (shard_of public sig hash kind share len q)
    unfolding shard_verdict
    shard_accepted a =
        rw (eq-eqb (length public) 32 a.public_long, eq-eqb (length sig) 64 a.sig_long, rest_listed hash kind share len q, rest_yes hash kind share len q a.rest)

    pub shard_accepts : {bs : List ℕ} → shard_verdict public sig hash kind share len q ≡ done bs → Allowed public sig hash kind share len q × (shard_of public sig hash kind share len q ≡ bs)
    unfolding shard_verdict
    shard_accepts h =
        let a = passed (eqb (length public) 32) _ 19 h in
        let b = passed (eqb (length sig) 64) _ 19 a.1 in
        let c = passed (rest_fits hash kind share len q) _ 19 (rw (rest_listed hash kind share len q) at b.1) in (
          record {
            public_long = eqb-true (length public) 32 a.0;
            sig_long = eqb-true (length sig) 64 b.0;
            rest = rest_passed hash kind share len q c.0;
          },
          done_value c.1,
        )

    -- whatever the writer writes fits a page
    pub shard_written_most : {bs : List ℕ} → shard_verdict public sig hash kind share len q ≡ done bs → length bs ≤ 456
    shard_written_most h =
        let a = shard_accepts h in
        omega (arith, shard_most public sig hash kind share len q a.0, ap length a.1)

  pub signed_accepted : length public ≡ 32 → AllowedRest hash kind share len q → signed_verdict public hash kind share len q ≡ done (signed_of public hash kind share len q)
  unfolding signed_verdict
  signed_accepted p a = rw (eq-eqb (length public) 32 p, rest_listed hash kind share len q, rest_yes hash kind share len q a)
