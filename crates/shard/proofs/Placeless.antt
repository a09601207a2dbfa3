-- What a reader of a shard payload refuses has no place. Assumes nothing.
use Prim.Native.Nat.{ℕ}
use mathlib.Core.List.{List}
use lib.Dec.{leb, eqb}
use Rattle.wire.specs.Answer.{refused}
use Rattle.wire.specs.declared.Refusal.TheVariants.{OutOfRange}
use Rattle.wire.proofs.Placeless.{Placeless, placeless_choose, placeless_demand, placeless_then, placeless, no_place_19}
use Rattle.cbor.specs.Item.{key_at, number_at, contents_at, string_field_at, number_field_at}
use Rattle.wire.specs.Ascii.{ascii}
use Rattle.cbor.proofs.Placeless.{key_placeless, number_placeless, contents_placeless, string_field_placeless, number_field_placeless}
use Rattle.auth.specs.Auth.{Claim, claim_at}
use Rattle.auth.proofs.Placeless.{claim_placeless}
use Rattle.shard.specs.Shard.{kind_at, content_at, quorum_at, body_at, shard_at}

module _ (s : List ℕ) where
  kind_placeless : (at : ℕ) → Placeless (kind_at s at)
  unfolding kind_at
  kind_placeless at =
      placeless_then (key_at s at (ascii "type")) _ (key_placeless s at (ascii "type")) (λ (_, a).
      placeless_then (number_at s a 3 10 12 19) _ (number_placeless s a 3 10 12 OutOfRange) (λ (len, b).
      placeless_choose (eqb len 11) (refused 19) _ (no_place_19)
      (placeless_then (contents_at s b len) _ (contents_placeless s b len) (λ v. search placeless))))

  content_placeless : (at : ℕ) → Placeless (content_at s at)
  unfolding content_at
  content_placeless at =
      placeless_then (kind_at s at) _ (kind_placeless at) (λ (_, a).
      placeless_then (string_field_at s a (ascii "share") 2 0 224 19) _ (string_field_placeless s a (ascii "share") 2 0 224 OutOfRange) (λ (_, b).
      placeless_then (number_field_at s b (ascii "length") 1 0xFFFFFFFFFFFFFFFF) _ (number_field_placeless s b (ascii "length") 1 0xFFFFFFFFFFFFFFFF) (λ v. search placeless)))

  quorum_placeless : (at : ℕ) → Placeless (quorum_at s at)
  unfolding quorum_at
  quorum_placeless at =
      placeless_then (number_field_at s at (ascii "threshold") 1 255) _ (number_field_placeless s at (ascii "threshold") 1 255) (λ (threshold, a).
      placeless_then (number_field_at s a (ascii "share_count") 1 255) _ (number_field_placeless s a (ascii "share_count") 1 255) (λ (count, b).
      placeless_demand (leb threshold count) no_place_19
      (placeless_then (number_field_at s b (ascii "share_index") 1 255) _ (number_field_placeless s b (ascii "share_index") 1 255) (λ v. search placeless))))

  body_placeless : (at : ℕ) (claim : Claim) → Placeless (body_at s at claim)
  unfolding body_at
  body_placeless at claim =
      placeless_then (content_at s at) _ (content_placeless at) (λ (_, a).
      placeless_then (number_field_at s a (ascii "version") 1 1) _ (number_field_placeless s a (ascii "version") 1 1) (λ (_, b).
      placeless_then (quorum_at s b) _ (quorum_placeless b) (λ v. search placeless)))

  pub shard_placeless : Placeless (shard_at s)
  unfolding shard_at
  shard_placeless =
      placeless_then (claim_at s 0xAA) _ (claim_placeless s 0xAA) (λ (claim, at). body_placeless at claim)
