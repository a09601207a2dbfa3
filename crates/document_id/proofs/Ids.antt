-- An id is eight bytes. Assumes nothing.
use Prim.Native.Nat.{ℕ}
use mathlib.Core.Path.{◌≡◌}
use mathlib.Core.List.{List}
use native.Mathlib.Omega.{arith}
use lib.ListN.{length}
use lib.Seq.{length-take-le}
use Rattle.wire.specs.Number.{Bytes}
use Rattle.wire.proofs.Digits.{small_take}
use Rattle.blake2b.specs.Blake2b.{blake2b}
use Rattle.blake2b.proofs.Output.{length_blake2b, blake2b_bytes}
use Rattle.document_id.specs.Id.{document_id_of}

module _ (c : List ℕ) where
  pub id_length : length (document_id_of c) ≡ 8
  unfolding document_id_of
  id_length = length-take-le 8 (blake2b c) (omega (arith, length_blake2b c))

  pub id_bytes : Bytes (document_id_of c)
  unfolding document_id_of
  id_bytes = small_take 256 8 (blake2b c) (blake2b_bytes c)
