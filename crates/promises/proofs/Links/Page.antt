-- From the contracts of `page` in the source to the definitions that the demands cite.
-- Assumes nothing.
use Rattle.wire.specs.Writing.{Written}
use Rattle.promises.specs.Calls.{Call}
use Rattle.text.specs.Text.{base64, zbase32}
use Rattle.page.specs.Page.{page_verdict, typed}
use Rattle.page.proofs.write as page-write
use Rattle.page.proofs.write_base64 as page-write-base64
use Rattle.page.proofs.write_zbase32 as page-write-zbase32

pub page_write_link : (k : Call page-write.Kinds.ps page-write.Kinds.r page-write.Reads.Learnt)
    → Written 0 (page_verdict k.args.0.now k.args.1.0 k.args.1.1.0) k.args.1.1.1.0.now k.left.1.1.1.0 k.answer
page_write_link k = k.kept

pub page_write_base64_link : (k : Call page-write-base64.Kinds.ps page-write-base64.Kinds.r page-write-base64.Reads.Learnt)
    → Written 0 (typed base64 (page_verdict k.args.0.now k.args.1.0 k.args.1.1.0)) k.args.1.1.1.0.now k.left.1.1.1.0 k.answer
page_write_base64_link k = k.kept

pub page_write_zbase32_link : (k : Call page-write-zbase32.Kinds.ps page-write-zbase32.Kinds.r page-write-zbase32.Reads.Learnt)
    → Written 0 (typed zbase32 (page_verdict k.args.0.now k.args.1.0 k.args.1.1.0)) k.args.1.1.1.0.now k.left.1.1.1.0 k.answer
page_write_zbase32_link k = k.kept
