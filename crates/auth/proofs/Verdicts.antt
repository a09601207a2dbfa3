-- The values that the writers accept are those that R11.2 allows. Assumes nothing.
use Prim.Native.Nat.{ℕ}
use mathlib.Core.Path.{◌≡◌}
use mathlib.Core.List.{List}
use borrow.Author.Tests.{eq-eqb, eqb-true}
use lib.Dec.{eqb}
use lib.ListN.{length}
use Rattle.wire.specs.Answer.{done}
use Rattle.wire.proofs.Cases.{passed, done_value}
use Rattle.auth.specs.Auth.{auth_of, auth_verdict, signed_of, signed_verdict}
use Rattle.auth.proofs.Lengths.{auth_length}

module _ (public sig hash : List ℕ) where
  pub auth_accepted : length public ≡ 32 → length sig ≡ 64 → length hash ≡ 32 → auth_verdict public sig hash ≡ done (auth_of public sig hash)
  unfolding auth_verdict
  auth_accepted p g h = rw (eq-eqb (length public) 32 p, eq-eqb (length sig) 64 g, eq-eqb (length hash) 32 h)

  pub auth_accepts : {bs : List ℕ} → auth_verdict public sig hash ≡ done bs
      → (length public ≡ 32) × (length sig ≡ 64) × (length hash ≡ 32) × (auth_of public sig hash ≡ bs)
  unfolding auth_verdict
  auth_accepts e =
      let a = passed (eqb (length public) 32) _ 19 e in
      let b = passed (eqb (length sig) 64) _ 19 a.1 in
      let c = passed (eqb (length hash) 32) _ 19 b.1 in
      (eqb-true (length public) 32 a.0, eqb-true (length sig) 64 b.0, eqb-true (length hash) 32 c.0, done_value c.1)

  -- whatever the writer writes has 157 bytes, so it fits a page
  pub auth_written_long : {bs : List ℕ} → auth_verdict public sig hash ≡ done bs → length bs ≡ 157
  auth_written_long e =
      let a = auth_accepts e in
      rw (← a.3) (auth_length public sig hash a.0 a.1 a.2)

pub signed_accepted : (public hash : List ℕ) → length public ≡ 32 → length hash ≡ 32 → signed_verdict public hash ≡ done (signed_of public hash)
unfolding signed_verdict
signed_accepted public hash p h = rw (eq-eqb (length public) 32 p, eq-eqb (length hash) 32 h)
