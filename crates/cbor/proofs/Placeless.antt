-- What a reader of items refuses has no place. Assumes nothing.
use Prim.Native.Nat.{ℕ, ◌+◌, ◌/◌, ◌%◌}
use mathlib.Core.Path.{◌≡◌, refl}
use mathlib.Core.Bool.{Bool, true, false}
use mathlib.Core.List.{List}
use lib.Dec.{ltb, leb, eqb}
use lib.ListN.{length}
use Rattle.wire.specs.Answer.{choose, Answer, done, refused_at, refused, place_of, then}
use Rattle.wire.specs.Refusal.{number}
use Rattle.wire.specs.declared.Refusal.{Refusal}
use Rattle.wire.specs.declared.Refusal.TheVariants.{OutOfRange}
use Rattle.wire.proofs.Placeless.{Placeless, placeless_demand, placeless_then, placeless, no_place_18}
use Rattle.cbor.specs.Item.{byte_at, one_at, big_endian_at, argument_at, kind_of, head_at, number_at, contents_at, string_at, name_at, key_at, string_field_at, number_field_at}

module _ (s : List ℕ) where
  byte_placeless : (at : ℕ) → Placeless (byte_at s at)
  byte_placeless at = search placeless

  pub one_placeless : (at wanted : ℕ) → Placeless (one_at s at wanted)
  unfolding one_at
  one_placeless at wanted = placeless_then (byte_at s at) _ (byte_placeless at) (λ v. search placeless)

  argument_placeless : (at info : ℕ) → Placeless (argument_at s at info)
  unfolding argument_at big_endian_at
  argument_placeless at info = search placeless

  head_placeless : (at kind : ℕ) → Placeless (head_at s at kind)
  unfolding head_at
  head_placeless at kind =
      placeless_then (byte_at s at) _ (byte_placeless at) (λ (x, p).
      placeless_demand (eqb (kind_of (x / 32)) kind) no_place_18
      (placeless_demand (leb (x % 32) 27) no_place_18
      (placeless_then (argument_at s p (x % 32)) _ (argument_placeless p (x % 32)) (λ v. search placeless))))

  pub number_placeless : (at kind least most : ℕ) (why : Refusal) → Placeless (number_at s at kind least most (number why))
  unfolding number_at
  number_placeless at kind least most why = placeless_then (head_at s at kind) _ (head_placeless at kind) (λ v. search placeless)

  pub contents_placeless : (at len : ℕ) → Placeless (contents_at s at len)
  unfolding contents_at
  contents_placeless at len = search placeless

  string_placeless : (at kind least most : ℕ) (why : Refusal) → Placeless (string_at s at kind least most (number why))
  unfolding string_at
  string_placeless at kind least most why =
      placeless_then (number_at s at kind least most (number why)) _ (number_placeless at kind least most why) (λ (len, next). contents_placeless next len)

  name_placeless : (at : ℕ) (name : List ℕ) → Placeless (name_at s at name)
  unfolding name_at
  name_placeless at name = search placeless

  pub key_placeless : (at : ℕ) (name : List ℕ) → Placeless (key_at s at name)
  unfolding key_at
  key_placeless at name =
      placeless_demand (ltb (length name) 24) no_place_18
      (placeless_then (one_at s at (96 + length name)) _ (one_placeless at (96 + length name)) (λ (_, p). name_placeless p name))

  pub string_field_placeless : (at : ℕ) (name : List ℕ) (kind least most : ℕ) (why : Refusal)
      → Placeless (string_field_at s at name kind least most (number why))
  unfolding string_field_at
  string_field_placeless at name kind least most why =
      placeless_then (key_at s at name) _ (key_placeless at name) (λ (_, p). string_placeless p kind least most why)

  pub number_field_placeless : (at : ℕ) (name : List ℕ) (least most : ℕ) → Placeless (number_field_at s at name least most)
  unfolding number_field_at
  number_field_placeless at name least most = placeless_then (key_at s at name) _ (key_placeless at name) (λ (_, p). number_placeless p 0 least most OutOfRange)

-- ---- whatever fault a caller names, also one that R2.2 has no name for, it comes without a place

module _ {A : Type 0} where
  then_nowhere : {B : Type 0} (g : Answer B) (f : B → Answer A) → place_of g ≡ 0 → ((b : B) → place_of (f b) ≡ 0) → place_of (then g f) ≡ 0
  then_nowhere (done b) f p q = q b
  then_nowhere (refused_at e place) f p q = p

  demand_nowhere : (t : Bool) (e : ℕ) (a : Answer A) → place_of a ≡ 0 → place_of (choose t a (refused e)) ≡ 0
  demand_nowhere true e a p = p
  demand_nowhere false e a p = refl

module _ (s : List ℕ) where
  number_nowhere : (at kind least most fault : ℕ) → place_of (number_at s at kind least most fault) ≡ 0
  unfolding number_at
  number_nowhere at kind least most fault =
      let h = head_placeless s at kind in
      then_nowhere (head_at s at kind) _ h.none (λ v. search demand_nowhere)

  string_nowhere : (at kind least most fault : ℕ) → place_of (string_at s at kind least most fault) ≡ 0
  unfolding string_at
  string_nowhere at kind least most fault =
      then_nowhere (number_at s at kind least most fault) _ (number_nowhere at kind least most fault) (λ (len, next).
      let c = contents_placeless s next len in c.none)

  -- For the reader: of a number, and of the string of a field
  pub number_string_nowhere : (at : ℕ) (name : List ℕ) (kind least most fault : ℕ)
      → (place_of (number_at s at kind least most fault) ≡ 0) × (place_of (string_field_at s at name kind least most fault) ≡ 0)
  unfolding string_field_at
  number_string_nowhere at name kind least most fault =
      let k = key_placeless s at name in
      (number_nowhere at kind least most fault, then_nowhere (key_at s at name) _ k.none (λ (_, p). string_nowhere p kind least most fault))
