-- What the readers of a manifest and of an envelope refuse has a name, and of a manifest no place:
-- so they can answer. Assumes nothing.
use Prim.Native.Nat.{ℕ, zero, suc, ◌+◌, ◌/◌, ◌%◌}
use mathlib.Core.Path.{◌≡◌, refl}
use mathlib.Core.List.{List, [], ◌∷◌}
use lib.Dec.{eqb, leb}
use lib.ListN.{length, take, drop}
use Rattle.std.specs.Prelude.{Option, None, Some, Result}
use Rattle.wire.specs.Ascii.{ascii}
use Rattle.wire.specs.Answer.{Answer, done, refused_at, then, choose, Got, got, value_of}
use Rattle.wire.specs.Span.{part_at}
use Rattle.wire.specs.declared.Span.{Span}
use Rattle.wire.specs.declared.Refusal.TheVariants.{OutOfRange, BadPath}
use Rattle.wire.specs.Sizes.{most_files, most_file_size, most_manifest}
use Rattle.wire.proofs.Placeless.{Placeless, HasName, name_placeless, name_choose, name_then, names, placeless, placeless_done, placeless_choose, placeless_demand, placeless_then, no_place_9, no_place_18}
use Rattle.cbor.specs.Item.{byte_at, big_endian_at, argument_at, kind_of, head_at, number_at, contents_at, string_at, body_at, float_at, is_float, width_by, any_field_at, string_field_at, number_field_at, key_at, one_at}
use Rattle.cbor.specs.declared.Width.{Width}
use Rattle.cbor.proofs.Placeless.{one_placeless, key_placeless, number_placeless, contents_placeless, string_field_placeless, number_field_placeless}
use Rattle.entry.specs.File.{integer_at, mtime_at, path_at, file_at}
use Rattle.path.specs.Path.{path_least, path_most}
use Rattle.entry.specs.declared.File.{File}
use Rattle.lend.specs.Same.{same}
use Rattle.varint.specs.Varint.{varint_at}
use Rattle.varint.proofs.Placeless.{varint_placeless}
use Rattle.mark.specs.Mark.{mark_of}
use Rattle.mark.proofs.Placeless.{mark_placeless}
use Rattle.sha256.specs.Sha.{sha256}
use Rattle.cover.specs.Cover.{magic, chunk_at, cover_at}
use Rattle.envelope.specs.Envelope.{total, digests, contents, judged, envelope_at}
use Rattle.manifest.specs.Manifest.{Listing, seed_at, files_at, list_at, sealed_at, created_at, end_at, manifest_at}

module _ (s : List ℕ) where
  byte_placeless : (at : ℕ) → Placeless (byte_at s at)
  byte_placeless at = search placeless

  any_placeless : (at : ℕ) (name : List ℕ) → Placeless (any_field_at s at name)
  unfolding any_field_at
  any_placeless at name = placeless_then (key_at s at name) _ (key_placeless s at name) (λ (_, a). placeless_then (byte_at s a) _ (byte_placeless a) (λ v. placeless_done _))

  argument_placeless : (at info : ℕ) → Placeless (argument_at s at info)
  unfolding argument_at big_endian_at
  argument_placeless at info = search placeless

  head_placeless : (at : ℕ) → Placeless (head_at s at 0)
  unfolding head_at
  head_placeless at =
      placeless_then (byte_at s at) _ (byte_placeless at) (λ (x, p).
      placeless_demand (eqb (kind_of (x / 32)) 0) no_place_18
      (placeless_demand (leb (x % 32) 27) no_place_18
      (placeless_then (argument_at s p (x % 32)) _ (argument_placeless p (x % 32)) (λ v. search placeless))))

  integer_placeless : (at : ℕ) → Placeless (integer_at s at)
  unfolding integer_at
  integer_placeless at = placeless_then (head_at s at 0) _ (head_placeless at) (λ v. search placeless)

  float_placeless : (at : ℕ) → Placeless (float_at s at)
  unfolding float_at body_at big_endian_at
  float_placeless at = placeless_then (byte_at s at) _ (byte_placeless at) (λ (x, p). search placeless)

  string_placeless : (at kind least most : ℕ) → Placeless (string_at s at kind least most 19)
  unfolding string_at
  string_placeless at kind least most =
      placeless_then (number_at s at kind least most 19) _ (number_placeless s at kind least most OutOfRange) (λ (len, next). contents_placeless s next len)

  -- ---- a file

  mtime_placeless : (at : ℕ) → Placeless (mtime_at s at)
  unfolding mtime_at
  mtime_placeless at =
      placeless_then (any_field_at s at (ascii "mtime")) _ (any_placeless at (ascii "mtime")) (λ (first, a).
      placeless_choose (eqb first 0xF6) _ _ (placeless_done _) (placeless_then (integer_at s a) _ (integer_placeless a) (λ v. placeless_done _)))

  path_placeless : (at : ℕ) (prev : List ℕ) → Placeless (path_at s at prev)
  unfolding path_at
  path_placeless at prev =
      placeless_then (string_field_at s at (ascii "path") 3 path_least path_most 20) _ (string_field_placeless s at (ascii "path") 3 path_least path_most BadPath)
      (λ v. search placeless)

  file_placeless : (at : ℕ) (prev : List ℕ) → Placeless (file_at s at prev)
  unfolding file_at
  file_placeless at prev =
      placeless_then (one_at s at 0xA4) _ (one_placeless s at 0xA4) (λ (_, a).
      placeless_then (string_field_at s a (ascii "hash") 2 32 32 19) _ (string_field_placeless s a (ascii "hash") 2 32 32 OutOfRange) (λ (hash, b).
      placeless_then (path_at s b prev) _ (path_placeless b prev) (λ (path, c).
      placeless_then (number_field_at s c (ascii "size") 0 most_file_size) _ (number_field_placeless s c (ascii "size") 0 most_file_size) (λ (size, d).
      placeless_then (mtime_at s d) _ (mtime_placeless d) (λ v. placeless_done _)))))

  files_placeless : (k at : ℕ) (prev : List ℕ) → Placeless (files_at s k at prev)
  unfolding files_at
  files_placeless zero at prev = placeless_done _
  files_placeless (suc k) at prev =
      placeless_then (file_at s at prev) _ (file_placeless at prev) (λ (f, p).
      placeless_then (files_at s k p (part_at s f.path)) _ (files_placeless k p (part_at s f.path)) (λ v. placeless_done _))

  -- ---- the fields of a manifest

  seed_placeless : (at : ℕ) → Placeless (seed_at s at)
  unfolding seed_at
  seed_placeless at =
      placeless_then (any_field_at s at (ascii "seed")) _ (any_placeless at (ascii "seed")) (λ (first, a).
      placeless_choose (eqb first 0xF6) _ _ (placeless_done _) (placeless_then (string_at s a 2 32 32 19) _ (string_placeless a 2 32 32) (λ v. placeless_done _)))

  list_placeless : (at : ℕ) → Placeless (list_at s at)
  unfolding list_at
  list_placeless at =
      placeless_then (key_at s at (ascii "files")) _ (key_placeless s at (ascii "files")) (λ (_, a).
      placeless_then (number_at s a 4 1 most_files 19) _ (number_placeless s a 4 1 most_files OutOfRange) (λ (k, p). files_placeless k p []))

  sealed_placeless : (at : ℕ) (key : Option Span) → Placeless (sealed_at s at key)
  unfolding sealed_at
  sealed_placeless at key = placeless_then (any_field_at s at (ascii "sealed")) _ (any_placeless at (ascii "sealed")) (λ v. search placeless)

  created_placeless : (at : ℕ) → Placeless (created_at s at)
  unfolding created_at
  created_placeless at =
      placeless_then (any_field_at s at (ascii "created")) _ (any_placeless at (ascii "created")) (λ (first, a).
      placeless_choose (is_float first) _ _ (placeless_then (float_at s a) _ (float_placeless a) (λ v. placeless_done _))
      (placeless_then (integer_at s a) _ (integer_placeless a) (λ v. placeless_done _)))

  end_placeless : (at : ℕ) (key : Option Span) → Placeless (end_at s at key)
  unfolding end_at
  end_placeless at key =
      placeless_then (sealed_at s at key) _ (sealed_placeless at key) (λ (sealed, a).
      placeless_then (created_at s a) _ (created_placeless a) (λ (created, b).
      placeless_then (number_field_at s b (ascii "version") 1 1) _ (number_field_placeless s b (ascii "version") 1 1) (λ v. search placeless)))

  pub manifest_placeless : Placeless (manifest_at s)
  unfolding manifest_at
  manifest_placeless =
      placeless_demand (leb (length s) most_manifest) no_place_9
      (placeless_then (one_at s 0 0xA5) _ (one_placeless s 0 0xA5) (λ (_, a).
      placeless_then (seed_at s a) _ (seed_placeless a) (λ (key, b).
      placeless_then (list_at s b) _ (list_placeless b) (λ (files, c).
      placeless_then (end_at s c key) _ (end_placeless c key) (λ v. placeless_done _)))))

-- ---- the envelope

value_placeless : {A : Type 0} (g : Got A) → Placeless g → Placeless (value_of g)
value_placeless (done (a, next)) p = placeless_done a
value_placeless (refused_at e place) p = record { none = refl; named = p.named }

chunk_placeless : (s : List ℕ) (at : ℕ) → Placeless (chunk_at s at)
unfolding chunk_at
chunk_placeless s at = placeless_then (varint_at s at) _ (varint_placeless s at) (λ v. search placeless)

cover_placeless : (s : List ℕ) → Placeless (cover_at s)
unfolding cover_at
cover_placeless s =
    placeless_then (mark_of magic s) _ (mark_placeless magic s) (λ (_, a).
    placeless_then (chunk_at s a) _ (chunk_placeless s a) (λ (manifest, b).
    placeless_then (chunk_at s b) _ (chunk_placeless s b) (λ v. search placeless)))

digests_named : (manifest : List ℕ) (fs : List File) (i : ℕ) (rest : List ℕ) → HasName (digests manifest fs i rest)
unfolding digests
digests_named manifest [] i rest = search names
digests_named manifest (f ∷ fs) i rest =
    name_choose (same (sha256 (take f.size rest)) (part_at manifest f.hash)) _ _ (digests_named manifest fs (i + 1) (drop f.size rest)) (search names)

judged_named : (m p : List ℕ) → HasName (judged m p)
unfolding judged contents
judged_named m p =
    name_then (value_of (manifest_at m)) _ (name_placeless _ (value_placeless (manifest_at m) (manifest_placeless m)))
    (λ v. name_choose (eqb (total v.files) (length p)) _ _ (digests_named m v.files 0 p) (search names))

pub envelope_named : (s : List ℕ) → HasName (envelope_at s)
unfolding envelope_at
envelope_named s =
    name_then (value_of (cover_at s)) _ (name_placeless _ (value_placeless (cover_at s) (cover_placeless s)))
    (λ c. name_then (judged (part_at s c.manifest) (part_at s c.payload)) _ (judged_named (part_at s c.manifest) (part_at s c.payload)) (λ v. search names))
