-- One answer, by each contract itself: frames and pages. Assumes nothing.
use mathlib.Core.Path.{refl, sym, ◌∙◌}
use Rattle.promises.specs.Once.{Once}
use Rattle.promises.proofs.Lasts.{here, past, past3}
use Rattle.wire.proofs.Answers.{told_injective}
use Rattle.wire.proofs.Writes.{written_once}
use Rattle.frame.proofs.Answers as frame
use Rattle.frame.proofs.read as frame-read
use Rattle.frame.proofs.lay as frame-lay
use Rattle.page.proofs.count as page-count
use Rattle.page.proofs.write as page-write
use Rattle.page.proofs.write_base64 as page-write-base64
use Rattle.page.proofs.write_zbase32 as page-write-zbase32
use Rattle.payload_frame.proofs.key as payload-frame-key
use Rattle.payload_frame.proofs.auth as payload-frame-auth

pub frame_read_once : Once frame-read.Kinds.ps frame-read.Kinds.r frame-read.Reads.Learnt
frame_read_once κs args x y u v p q = (frame.told_injective x y (p ∙ sym q), refl)

pub frame_lay_once : Once frame-lay.Kinds.ps frame-lay.Kinds.r frame-lay.Reads.Learnt
frame_lay_once κs args x y u v p q = let e = written_once x y p q in (e.0, past3 (past (past (here e.1))))

pub page_count_once : Once page-count.Kinds.ps page-count.Kinds.r page-count.Reads.Learnt
page_count_once κs args x y u v p q = (told_injective x y (p ∙ sym q), refl)

pub page_write_once : Once page-write.Kinds.ps page-write.Kinds.r page-write.Reads.Learnt
page_write_once κs args x y u v p q = let e = written_once x y p q in (e.0, past3 (here e.1))

pub page_write_base64_once : Once page-write-base64.Kinds.ps page-write-base64.Kinds.r page-write-base64.Reads.Learnt
page_write_base64_once κs args x y u v p q = let e = written_once x y p q in (e.0, past3 (here e.1))

pub page_write_zbase32_once : Once page-write-zbase32.Kinds.ps page-write-zbase32.Kinds.r page-write-zbase32.Reads.Learnt
page_write_zbase32_once κs args x y u v p q = let e = written_once x y p q in (e.0, past3 (here e.1))

pub payload_frame_key_once : Once payload-frame-key.Kinds.ps payload-frame-key.Kinds.r payload-frame-key.Reads.Learnt
payload_frame_key_once κs args x y u v p q = let e = written_once x y p q in (e.0, past (past (here e.1)))

pub payload_frame_auth_once : Once payload-frame-auth.Kinds.ps payload-frame-auth.Kinds.r payload-frame-auth.Reads.Learnt
payload_frame_auth_once κs args x y u v p q = let e = written_once x y p q in (e.0, past (past (here e.1)))
