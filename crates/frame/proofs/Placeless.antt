-- What the reader of a frame refuses has no place. Assumes nothing.
use Prim.Native.Nat.{ℕ}
use mathlib.Core.List.{List}
use Rattle.wire.proofs.Placeless.{Placeless, placeless_done, placeless_then, placeless}
use Rattle.varint.specs.Varint.{varint_at}
use Rattle.varint.proofs.Placeless.{varint_placeless}
use Rattle.mark.specs.Mark.{mark_of}
use Rattle.mark.proofs.Placeless.{mark_placeless}
use Rattle.frame.specs.Frame.{magic, kind_at, id_at, start_of, numbers_at, data_at, judged, frame_of}

module _ (s : List ℕ) where
  kind_placeless : (at : ℕ) → Placeless (kind_at s at)
  unfolding kind_at
  kind_placeless at = search placeless

  id_placeless : (at : ℕ) → Placeless (id_at s at)
  unfolding id_at
  id_placeless at = search placeless

  -- the fields before the data
  pub start_placeless : Placeless (start_of s)
  unfolding start_of
  start_placeless =
      placeless_then (mark_of magic s) _ (mark_placeless magic s) (λ (_, a).
      placeless_then (kind_at s a) _ (kind_placeless a) (λ (_, b).
      placeless_then (id_at s b) _ (id_placeless b) (λ v. placeless_done _)))

  pub numbers_placeless : (at : ℕ) → Placeless (numbers_at s at)
  unfolding numbers_at
  numbers_placeless at =
      placeless_then (varint_at s at) _ (varint_placeless s at) (λ (_, a).
      placeless_then (varint_at s a) _ (varint_placeless s a) (λ (_, b).
      placeless_then (varint_at s b) _ (varint_placeless s b) (λ v. placeless_done _)))

  data_placeless : (at len : ℕ) → Placeless (data_at s at len)
  unfolding data_at
  data_placeless at len = search placeless

  pub frame_placeless : Placeless (frame_of s)
  unfolding frame_of judged
  frame_placeless =
      placeless_then (start_of s) _ start_placeless (λ (_, a).
      placeless_then (numbers_at s a) _ (numbers_placeless a) (λ (n, b).
      placeless_then (data_at s b n.len) _ (data_placeless b n.len) (λ v. search placeless)))
