-- One answer, by each contract itself: lent buffers, digits, numbers, texts, paths and digests.
-- Assumes nothing.
use mathlib.Core.Path.{refl, sym, ◌∙◌}
use Rattle.promises.specs.Once.{Once, OnceSeen}
use Rattle.promises.proofs.Lasts.{here, past}
use Rattle.wire.proofs.Writes.{kept_once, written_once}
use Rattle.wire.proofs.Answers.{step_injective, told_injective, told_at_injective}
use Rattle.lend.proofs.put as lend-put
use Rattle.lend.proofs.copy as lend-copy
use Rattle.lend.proofs.fill as lend-fill
use Rattle.lend.proofs.clear as lend-clear
use Rattle.lend.proofs.equal as lend-equal
use Rattle.lend.proofs.give as lend-give
use Rattle.lend.proofs.plain as lend-plain
use Rattle.lend.proofs.part as lend-part
use Rattle.digits.proofs.decimal as digits_decimal
use Rattle.digits.proofs.refused_line as digits-refused-line
use Rattle.digits.proofs.number as digits_number
use Rattle.digits.proofs.hex_value as digits-hex-value
use Rattle.digits.proofs.hex as digits-hex
use Rattle.digits.proofs.all_hex as digits-all-hex
use Rattle.digits.proofs.hex_read as digits-hex-read
use Rattle.varint.proofs.read as varint-read
use Rattle.varint.proofs.size as varint-size
use Rattle.varint.proofs.write as varint-write
use Rattle.mark.proofs.read as mark-read
use Rattle.mark.proofs.lay as mark-lay
use Rattle.path.proofs.allowed as path-allowed
use Rattle.path.proofs.ascends as path-ascends
use Rattle.text.proofs.base64_read as text-base64-read
use Rattle.text.proofs.base64_write as text-base64-write
use Rattle.text.proofs.zbase32_read as text-zbase32-read
use Rattle.text.proofs.zbase32_write as text-zbase32-write
use Rattle.text.proofs.zbase32_value as text-zbase32-value
use Rattle.text.proofs.zbase32_letter as text-zbase32-letter
use Rattle.typed.proofs.read as typed-read
use Rattle.typed.proofs.write as typed-write
use Rattle.typed.proofs.line as typed-line
use Rattle.typed.proofs.counted as typed-counted
use Rattle.typed.proofs.skipped as typed-skipped
use Rattle.crc.proofs.crc32 as crc-crc32
use Rattle.crc.proofs.sum as crc-sum
use Rattle.sha256.proofs.sha256 as sha256-sha256
use Rattle.blake2b.proofs.start as blake2b-start
use Rattle.blake2b.proofs.block as blake2b-block
use Rattle.blake2b.proofs.last as blake2b-last
use Rattle.blake2b.proofs.blake2b as blake2b-blake2b
use Rattle.document_id.proofs.of_digest as document-id-of-digest
use Rattle.document_id.proofs.of as document-id-of

pub lend_equal_once : Once lend-equal.Kinds.ps lend-equal.Kinds.r lend-equal.Reads.Learnt
lend_equal_once κs args x y u v p q = (p ∙ sym q, refl)

pub lend_put_once : Once lend-put.Kinds.ps lend-put.Kinds.r lend-put.Reads.Learnt
lend_put_once κs args x y u v p q = (refl, here (p ∙ sym q))

pub lend_copy_once : Once lend-copy.Kinds.ps lend-copy.Kinds.r lend-copy.Reads.Learnt
lend_copy_once κs args x y u v p q = (refl, here (p ∙ sym q))

pub lend_fill_once : Once lend-fill.Kinds.ps lend-fill.Kinds.r lend-fill.Reads.Learnt
lend_fill_once κs args x y u v p q = (refl, here (p ∙ sym q))

pub lend_clear_once : Once lend-clear.Kinds.ps lend-clear.Kinds.r lend-clear.Reads.Learnt
lend_clear_once κs args x y u v p q = (refl, here (p ∙ sym q))

pub lend_give_once : Once lend-give.Kinds.ps lend-give.Kinds.r lend-give.Reads.Learnt
lend_give_once κs args x y u v p q = let e = written_once x y p q in (e.0, past (here e.1))

pub lend_plain_once : Once lend-plain.Kinds.ps lend-plain.Kinds.r lend-plain.Reads.Learnt
lend_plain_once κs args x y u v p q = (refl, here (p ∙ sym q))

-- a part of the pool is lent back: its bytes are fixed, not its place
pub lend_part_once : OnceSeen lend-part.Kinds.ps lend-part.Kinds.r (λ κs x. x.now) lend-part.Reads.Learnt
lend_part_once κs args x y u v p q = (p ∙ sym q, refl)

pub digits_decimal_once : Once digits_decimal.Kinds.ps digits_decimal.Kinds.r digits_decimal.Reads.Learnt
digits_decimal_once κs args x y u v p q = (p.0 ∙ sym q.0, here (p.2 ∙ sym q.2))

pub digits_number_once : Once digits_number.Kinds.ps digits_number.Kinds.r digits_number.Reads.Learnt
digits_number_once κs args x y u v p q = (p.0 ∙ sym q.0, here (p.2 ∙ sym q.2))

pub digits_hex_value_once : Once digits-hex-value.Kinds.ps digits-hex-value.Kinds.r digits-hex-value.Reads.Learnt
digits_hex_value_once κs args x y u v p q = (p.0 ∙ sym q.0, refl)

pub digits_refused_line_once : Once digits-refused-line.Kinds.ps digits-refused-line.Kinds.r digits-refused-line.Reads.Learnt
digits_refused_line_once κs args x y u v p q = let e = written_once x y p q in (e.0, past (here e.1))

pub digits_hex_once : Once digits-hex.Kinds.ps digits-hex.Kinds.r digits-hex.Reads.Learnt
digits_hex_once κs args x y u v p q = (refl, here (p ∙ sym q))

pub digits_all_hex_once : Once digits-all-hex.Kinds.ps digits-all-hex.Kinds.r digits-all-hex.Reads.Learnt
digits_all_hex_once κs args x y u v p q = (p ∙ sym q, refl)

pub digits_hex_read_once : Once digits-hex-read.Kinds.ps digits-hex-read.Kinds.r digits-hex-read.Reads.Learnt
digits_hex_read_once κs args x y u v p q = let e = written_once x y p q in (e.0, past (here e.1))

pub varint_read_once : Once varint-read.Kinds.ps varint-read.Kinds.r varint-read.Reads.Learnt
varint_read_once κs args x y u v p q = (told_injective x y (p ∙ sym q), refl)

pub varint_size_once : Once varint-size.Kinds.ps varint-size.Kinds.r varint-size.Reads.Learnt
varint_size_once κs args x y u v p q = (p ∙ sym q, refl)

pub varint_write_once : Once varint-write.Kinds.ps varint-write.Kinds.r varint-write.Reads.Learnt
varint_write_once κs args x y u v p q = let e = written_once x y p q in (e.0, past (here e.1))

pub mark_read_once : Once mark-read.Kinds.ps mark-read.Kinds.r mark-read.Reads.Learnt
mark_read_once κs args x y u v p q = (step_injective x y (p ∙ sym q), refl)

pub mark_lay_once : Once mark-lay.Kinds.ps mark-lay.Kinds.r mark-lay.Reads.Learnt
mark_lay_once κs args x y u v p q = (refl, past (here (p ∙ sym q)))

pub path_allowed_once : Once path-allowed.Kinds.ps path-allowed.Kinds.r path-allowed.Reads.Learnt
path_allowed_once κs args x y u v p q = (p ∙ sym q, refl)

pub path_ascends_once : Once path-ascends.Kinds.ps path-ascends.Kinds.r path-ascends.Reads.Learnt
path_ascends_once κs args x y u v p q = (p ∙ sym q, refl)

pub text_base64_read_once : Once text-base64-read.Kinds.ps text-base64-read.Kinds.r text-base64-read.Reads.Learnt
text_base64_read_once κs args x y u v p q = let e = written_once x y p q in (e.0, past (here e.1))

pub text_base64_write_once : Once text-base64-write.Kinds.ps text-base64-write.Kinds.r text-base64-write.Reads.Learnt
text_base64_write_once κs args x y u v p q = let e = written_once x y p q in (e.0, past (here e.1))

pub text_zbase32_read_once : Once text-zbase32-read.Kinds.ps text-zbase32-read.Kinds.r text-zbase32-read.Reads.Learnt
text_zbase32_read_once κs args x y u v p q = let e = written_once x y p q in (e.0, past (here e.1))

pub text_zbase32_write_once : Once text-zbase32-write.Kinds.ps text-zbase32-write.Kinds.r text-zbase32-write.Reads.Learnt
text_zbase32_write_once κs args x y u v p q = let e = written_once x y p q in (e.0, past (here e.1))

pub text_zbase32_value_once : Once text-zbase32-value.Kinds.ps text-zbase32-value.Kinds.r text-zbase32-value.Reads.Learnt
text_zbase32_value_once κs args x y u v p q = (p ∙ sym q, refl)

pub text_zbase32_letter_once : Once text-zbase32-letter.Kinds.ps text-zbase32-letter.Kinds.r text-zbase32-letter.Reads.Learnt
text_zbase32_letter_once κs args x y u v p q = (p ∙ sym q, refl)

pub typed_read_once : Once typed-read.Kinds.ps typed-read.Kinds.r typed-read.Reads.Learnt
typed_read_once κs args x y u v p q = let e = kept_once p q in (told_at_injective x y e.0, past (here e.1))

pub typed_write_once : Once typed-write.Kinds.ps typed-write.Kinds.r typed-write.Reads.Learnt
typed_write_once κs args x y u v p q = let e = written_once x y p q in (e.0, past (here e.1))

pub typed_line_once : Once typed-line.Kinds.ps typed-line.Kinds.r typed-line.Reads.Learnt
typed_line_once κs args x y u v p q = (told_at_injective x y (p ∙ sym q), refl)

pub typed_skipped_once : Once typed-skipped.Kinds.ps typed-skipped.Kinds.r typed-skipped.Reads.Learnt
typed_skipped_once κs args x y u v p q = (p ∙ sym q, refl)

pub typed_counted_once : Once typed-counted.Kinds.ps typed-counted.Kinds.r typed-counted.Reads.Learnt
typed_counted_once κs args x y u v p q = (p ∙ sym q, refl)

pub crc_crc32_once : Once crc-crc32.Kinds.ps crc-crc32.Kinds.r crc-crc32.Reads.Learnt
crc_crc32_once κs args x y u v p q = (p ∙ sym q, refl)

pub crc_sum_once : Once crc-sum.Kinds.ps crc-sum.Kinds.r crc-sum.Reads.Learnt
crc_sum_once κs args x y u v p q = (p ∙ sym q, refl)

pub sha256_sha256_once : Once sha256-sha256.Kinds.ps sha256-sha256.Kinds.r sha256-sha256.Reads.Learnt
sha256_sha256_once κs args x y u v p q = (p ∙ sym q, refl)

pub blake2b_start_once : Once blake2b-start.Kinds.ps blake2b-start.Kinds.r blake2b-start.Reads.Learnt
blake2b_start_once κs args x y u v p q = (p ∙ sym q, refl)

pub blake2b_block_once : Once blake2b-block.Kinds.ps blake2b-block.Kinds.r blake2b-block.Reads.Learnt
blake2b_block_once κs args x y u v p q = (p ∙ sym q, refl)

pub blake2b_last_once : Once blake2b-last.Kinds.ps blake2b-last.Kinds.r blake2b-last.Reads.Learnt
blake2b_last_once κs args x y u v p q = (p ∙ sym q, refl)

pub blake2b_blake2b_once : Once blake2b-blake2b.Kinds.ps blake2b-blake2b.Kinds.r blake2b-blake2b.Reads.Learnt
blake2b_blake2b_once κs args x y u v p q = (p ∙ sym q, refl)

pub document_id_of_digest_once : Once document-id-of-digest.Kinds.ps document-id-of-digest.Kinds.r document-id-of-digest.Reads.Learnt
document_id_of_digest_once κs args x y u v p q = (p ∙ sym q, refl)

pub document_id_of_once : Once document-id-of.Kinds.ps document-id-of.Kinds.r document-id-of.Reads.Learnt
document_id_of_once κs args x y u v p q = (p ∙ sym q, refl)
