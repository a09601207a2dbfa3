-- A frame is made of bytes where its parts are. Assumes nothing.
use Prim.Native.Nat.{ℕ, ◌^◌, ◌<◌}
use mathlib.Core.List.{List, [], ◌∷◌, ◌++◌}
use native.Mathlib.Omega.{arith}
use lib.ListN.{length}
use Rattle.wire.specs.Number.{big_endian, Bytes}
use Rattle.wire.proofs.Digits.{digits_small, bytes_none, bytes_cons, bytes_append}
use Rattle.varint.specs.Varint.{varint}
use Rattle.varint.proofs.Sevens.{varint_bytes}
use Rattle.mark.specs.Mark.{marked}
use Rattle.mark.proofs.Marks.{mark_bytes}
use Rattle.crc.specs.Crc.{crc32}
use Rattle.frame.specs.Frame.{magic}
use Rattle.frame.specs.Layout.{start, numbers, body, layout}

module _ (kind : ℕ) (id : List ℕ) (index total : ℕ) (contents : List ℕ) (k : kind < 256) (d : Bytes id) (i : index < 2 ^ 64) (t : total < 2 ^ 64)
    (l : length contents < 2 ^ 64) (c : Bytes contents) where
  start_bytes : Bytes (start kind id)
  unfolding start
  start_bytes =
      bytes_append (marked magic ++ (kind ∷ [])) id
      (bytes_append (marked magic) (kind ∷ [])
      (mark_bytes magic (bytes_cons 0x41 (0x50 ∷ []) (omega arith) (bytes_cons 0x50 [] (omega arith) bytes_none)))
      (bytes_cons kind [] k bytes_none)) d

  numbers_bytes : Bytes (numbers index total (length contents))
  unfolding numbers
  numbers_bytes =
      bytes_append (varint index ++ varint total) (varint (length contents)) (bytes_append (varint index) (varint total) (varint_bytes index i) (varint_bytes total t))
      (varint_bytes (length contents) l)

  pub layout_bytes : Bytes (layout kind id index total contents)
  unfolding layout body
  layout_bytes =
      bytes_append (start kind id ++ numbers index total (length contents) ++ contents) (big_endian 4 (crc32 (start kind id ++ numbers index total (length contents) ++ contents)))
      (bytes_append (start kind id ++ numbers index total (length contents)) contents
      (bytes_append (start kind id) (numbers index total (length contents)) start_bytes numbers_bytes) c)
      (digits_small 256 4 (crc32 (start kind id ++ numbers index total (length contents) ++ contents)) (omega arith))
