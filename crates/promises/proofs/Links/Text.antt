-- From the contracts of `text` in the source to the definitions that the demands cite.
-- Assumes nothing.
use Rattle.wire.specs.Answer.{done}
use Rattle.wire.specs.Writing.{Written}
use Rattle.promises.specs.Calls.{Call}
use Rattle.text.specs.Text.{base64, zbase32, read_text, text_of}
use Rattle.text.proofs.base64_read as text-base64-read
use Rattle.text.proofs.base64_write as text-base64-write
use Rattle.text.proofs.zbase32_read as text-zbase32-read
use Rattle.text.proofs.zbase32_write as text-zbase32-write

pub text_base64_read_link : (k : Call text-base64-read.Kinds.ps text-base64-read.Kinds.r text-base64-read.Reads.Learnt)
    → Written 0 (read_text base64 k.args.0.now) k.args.1.0.now k.left.1.0 k.answer
text_base64_read_link k = k.kept

pub text_base64_write_link : (k : Call text-base64-write.Kinds.ps text-base64-write.Kinds.r text-base64-write.Reads.Learnt)
    → Written 0 (done (text_of base64 k.args.0.now)) k.args.1.0.now k.left.1.0 k.answer
text_base64_write_link k = k.kept

pub text_zbase32_read_link : (k : Call text-zbase32-read.Kinds.ps text-zbase32-read.Kinds.r text-zbase32-read.Reads.Learnt)
    → Written 0 (read_text zbase32 k.args.0.now) k.args.1.0.now k.left.1.0 k.answer
text_zbase32_read_link k = k.kept

pub text_zbase32_write_link : (k : Call text-zbase32-write.Kinds.ps text-zbase32-write.Kinds.r text-zbase32-write.Reads.Learnt)
    → Written 0 (done (text_of zbase32 k.args.0.now)) k.args.1.0.now k.left.1.0 k.answer
text_zbase32_write_link k = k.kept
