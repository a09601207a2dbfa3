-- One answer, by each contract itself: CBOR items. Assumes nothing.
use denote.RattleType.{RattleType}
use denote.Param.Laws.{Laws, IsCopy}
use mir.Syntax.{Dict}
use Rattle.wire.specs.declared.Refusal.{Refusal}
use Rattle.cbor.specs.declared.Fault.{Ghosts}
use Rattle.std.specs.declared.convert.From as from
use Rattle.std.specs.declared.clone.Clone as clone
use mathlib.Core.Path.{◌≡◌, refl, sym, ◌∙◌}
use Rattle.promises.specs.Once.{Once}
use Rattle.promises.proofs.Lasts.{here, past}
use Rattle.wire.proofs.Answers.{step_injective, told_injective}
use Rattle.wire.proofs.Writes.{written_once}
use Rattle.cbor.proofs.Answers.{told_by_injective}
use Rattle.cbor.proofs.Runs.{put_once}
use Rattle.cbor.proofs.float.begins as cbor-float-begins
use Rattle.cbor.proofs.float.finite as cbor-float-finite
use Rattle.cbor.proofs.read.byte as cbor-read-byte
use Rattle.cbor.proofs.read.one_byte as cbor-read-one-byte
use Rattle.cbor.proofs.read.head as cbor-read-head
use Rattle.cbor.proofs.read.number as cbor-read-number
use Rattle.cbor.proofs.read.contents as cbor-read-contents
use Rattle.cbor.proofs.read.string as cbor-read-string
use Rattle.cbor.proofs.read.key as cbor-read-key
use Rattle.cbor.proofs.read.float as cbor-read-float
use Rattle.cbor.proofs.read.string_field as cbor-read-string-field
use Rattle.cbor.proofs.read.number_field as cbor-read-number-field
use Rattle.cbor.proofs.read.any_field as cbor-read-any-field
use Rattle.cbor.proofs.write.size as cbor-write-size
use Rattle.cbor.proofs.write.fixed as cbor-write-fixed
use Rattle.cbor.proofs.write.head as cbor-write-head
use Rattle.cbor.proofs.write.string as cbor-write-string
use Rattle.cbor.proofs.write.float_size as cbor-write-float-size
use Rattle.cbor.proofs.write.float as cbor-write-float
use Rattle.cbor.proofs.write.float_alone as cbor-write-float-alone
use Rattle.cbor.proofs.write.string_field as cbor-write-string-field
use Rattle.cbor.proofs.write.number_field as cbor-write-number-field

pub cbor_float_begins_once : Once cbor-float-begins.Kinds.ps cbor-float-begins.Kinds.r cbor-float-begins.Reads.Learnt
cbor_float_begins_once κs args x y u v p q = (p ∙ sym q, refl)

pub cbor_float_finite_once : Once cbor-float-finite.Kinds.ps cbor-float-finite.Kinds.r cbor-float-finite.Reads.Learnt
cbor_float_finite_once κs args x y u v p q = (p ∙ sym q, refl)

pub cbor_read_byte_once : Once cbor-read-byte.Kinds.ps cbor-read-byte.Kinds.r cbor-read-byte.Reads.Learnt
cbor_read_byte_once κs args x y u v p q = (told_injective x y (p ∙ sym q), refl)

pub cbor_read_one_byte_once : Once cbor-read-one-byte.Kinds.ps cbor-read-one-byte.Kinds.r cbor-read-one-byte.Reads.Learnt
cbor_read_one_byte_once κs args x y u v p q = (step_injective x y (p ∙ sym q), refl)

pub cbor_read_head_once : Once cbor-read-head.Kinds.ps cbor-read-head.Kinds.r cbor-read-head.Reads.Learnt
cbor_read_head_once κs args x y u v p q = (told_injective x y (p ∙ sym q), refl)

pub cbor_read_contents_once : Once cbor-read-contents.Kinds.ps cbor-read-contents.Kinds.r cbor-read-contents.Reads.Learnt
cbor_read_contents_once κs args x y u v p q = (told_injective x y (p ∙ sym q), refl)

pub cbor_read_key_once : Once cbor-read-key.Kinds.ps cbor-read-key.Kinds.r cbor-read-key.Reads.Learnt
cbor_read_key_once κs args x y u v p q = (step_injective x y (p ∙ sym q), refl)

pub cbor_read_float_once : Once cbor-read-float.Kinds.ps cbor-read-float.Kinds.r cbor-read-float.Reads.Learnt
cbor_read_float_once κs args x y u v p q = (told_injective x y (p ∙ sym q), refl)

pub cbor_read_number_field_once : Once cbor-read-number-field.Kinds.ps cbor-read-number-field.Kinds.r cbor-read-number-field.Reads.Learnt
cbor_read_number_field_once κs args x y u v p q = (told_injective x y (p ∙ sym q), refl)

pub cbor_read_any_field_once : Once cbor-read-any-field.Kinds.ps cbor-read-any-field.Kinds.r cbor-read-any-field.Reads.Learnt
cbor_read_any_field_once κs args x y u v p q = (told_injective x y (p ∙ sym q), refl)

pub cbor_write_size_once : Once cbor-write-size.Kinds.ps cbor-write-size.Kinds.r cbor-write-size.Reads.Learnt
cbor_write_size_once κs args x y u v p q = (p ∙ sym q, refl)

pub cbor_write_fixed_once : Once cbor-write-fixed.Kinds.ps cbor-write-fixed.Kinds.r cbor-write-fixed.Reads.Learnt
cbor_write_fixed_once κs args x y u v p q = let e = put_once p q in (e.0, here e.1)

pub cbor_write_head_once : Once cbor-write-head.Kinds.ps cbor-write-head.Kinds.r cbor-write-head.Reads.Learnt
cbor_write_head_once κs args x y u v p q = let e = put_once p q in (e.0, here e.1)

pub cbor_write_string_once : Once cbor-write-string.Kinds.ps cbor-write-string.Kinds.r cbor-write-string.Reads.Learnt
cbor_write_string_once κs args x y u v p q = let e = put_once p q in (e.0, here e.1)

pub cbor_write_float_size_once : Once cbor-write-float-size.Kinds.ps cbor-write-float-size.Kinds.r cbor-write-float-size.Reads.Learnt
cbor_write_float_size_once κs args x y u v p q = (p ∙ sym q, refl)

pub cbor_write_float_once : Once cbor-write-float.Kinds.ps cbor-write-float.Kinds.r cbor-write-float.Reads.Learnt
cbor_write_float_once κs args x y u v p q = let e = put_once p q in (e.0, here e.1)

pub cbor_write_float_alone_once : Once cbor-write-float-alone.Kinds.ps cbor-write-float-alone.Kinds.r cbor-write-float-alone.Reads.Learnt
cbor_write_float_alone_once κs args x y u v p q = let e = written_once x y p q in (e.0, past (here e.1))

pub cbor_write_string_field_once : Once cbor-write-string-field.Kinds.ps cbor-write-string-field.Kinds.r cbor-write-string-field.Reads.Learnt
cbor_write_string_field_once κs args x y u v p q = let e = put_once p q in (e.0, here e.1)

pub cbor_write_number_field_once : Once cbor-write-number-field.Kinds.ps cbor-write-number-field.Kinds.r cbor-write-number-field.Reads.Learnt
cbor_write_number_field_once κs args x y u v p q = let e = put_once p q in (e.0, here e.1)

-- ---- the readers whose caller names the fault, once for every type of faults that its numbers
-- tell apart, as the laws of `Fault` say (cbor); its other parameters are what the toolchain passes
-- of such a type

module _ (T : RattleType) (L : Laws T) (C : IsCopy T) (G : Ghosts T.Denot) (d : Dict) (F : from.Ghosts T.Denot Refusal) (e : Dict)
    (K : clone.Ghosts T.Denot) (f : Dict) (apart : (a b : T.Denot) → G.number_of_fault a ≡ G.number_of_fault b → a ≡ b) where
  pub cbor_read_number_once : Once (cbor-read-number.Kinds.ps T L C) (cbor-read-number.Kinds.r T L C) (cbor-read-number.Reads.Learnt T L C G d F e K f)
  cbor_read_number_once κs args x y u v p q = (told_by_injective G.number_of_fault apart x y (p ∙ sym q), refl)

  pub cbor_read_string_once : Once (cbor-read-string.Kinds.ps T L C) (cbor-read-string.Kinds.r T L C) (cbor-read-string.Reads.Learnt T L C G d F e K f)
  cbor_read_string_once κs args x y u v p q = (told_by_injective G.number_of_fault apart x y (p ∙ sym q), refl)

  pub cbor_read_string_field_once : Once (cbor-read-string-field.Kinds.ps T L C) (cbor-read-string-field.Kinds.r T L C)
      (cbor-read-string-field.Reads.Learnt T L C G d F e K f)
  cbor_read_string_field_once κs args x y u v p q = (told_by_injective G.number_of_fault apart x y (p ∙ sym q), refl)
