-- One answer, by each contract itself: what the programs, the phone and the bench call.
-- Assumes nothing.
use mathlib.Core.Path.{◌≡◌, refl, sym, ap, ◌∙◌}
use mathlib.Core.List.{List}
use Prim.Native.Nat.{ℕ}
use Rattle.promises.specs.Once.{Once, OnceSeen}
use Rattle.promises.proofs.Lasts.{both, here, past}
use Rattle.wire.proofs.Writes.{written_once, kept_once}
use Rattle.collection.proofs.Answers.{told_injective}
use Rattle.finish.proofs.Once.{finished_once}
use Rattle.scan.specs.Session.{At, at}
use Rattle.scan.specs.declared.session.Session.{Session}
use Rattle.scan.proofs.id as scan-id
use Rattle.scan.proofs.session.scan as scan-session-scan
use Rattle.scan.proofs.session.line_of as scan-session-line-of
use Rattle.scan.proofs.session.feed as scan-session-feed
use Rattle.scan.proofs.session.close as scan-session-close
use Rattle.scan.proofs.session.report as scan-session-report
use Rattle.sheet.proofs.scans as sheet-scans
use Rattle.sheet.proofs.typed as sheet-typed
use Rattle.sheet.proofs.typed_page as sheet-typed-page
use Rattle.sheet.proofs.in_groups as sheet-in-groups
use Rattle.sheet.proofs.number_asked as sheet-number-asked
use Rattle.sheet.proofs.refusal as sheet-refusal
use Rattle.told.proofs.lines as told-lines
use Rattle.told.proofs.pages.missing as told-pages-missing
use Rattle.told.proofs.pages.disputed as told-pages-disputed
use Rattle.told.proofs.words.advice as told-words-advice
use Rattle.told.proofs.words.first_advice as told-words-first-advice
use Rattle.told.proofs.words.stranger as told-words-stranger
use Rattle.pantry_work.proofs.resume as pantry-work-resume
use Rattle.notes.proofs.feed as notes-feed
use Rattle.notes.proofs.close as notes-close
use Rattle.pantry_work.proofs.answer as pantry-work-answer
use Rattle.phone.proofs.stilt_open as phone-stilt-open
use Rattle.phone.proofs.stilt_offer as phone-stilt-offer
use Rattle.phone.proofs.stilt_join as phone-stilt-join
use Rattle.phone.proofs.stilt_finish as phone-stilt-finish
use Rattle.phone.proofs.stilt_status as phone-stilt-status
use Rattle.phone.proofs.stilt_frame as phone-stilt-frame
use Rattle.phone.proofs.stilt_base64 as phone-stilt-base64
use Rattle.phone.proofs.stilt_typed as phone-stilt-typed
use Rattle.wire.proofs.Answers.{told_at_injective}
use Rattle.typing.proofs.scan as typing-scan
use Rattle.typing.proofs.page_fault as typing-page-fault
use Rattle.typing.proofs.line_fault as typing-line-fault
use Rattle.typing.proofs.words as typing-words
use Rattle.slips.proofs.Once.{told_once as slip-once}
use Rattle.slips.proofs.line_end as slips-line-end
use Rattle.slips.proofs.next as slips-next
use Rattle.slips.proofs.feeds as slips-feeds
use Rattle.slips.proofs.read as slips-read
use Rattle.slips.proofs.repeated as slips-repeated
use Rattle.slips.proofs.hex as slips-hex
use Rattle.speed.proofs.speed_crc32 as speed-speed-crc32
use Rattle.speed.proofs.speed_sha256 as speed-speed-sha256
use Rattle.speed.proofs.speed_blake2b as speed-speed-blake2b
use Rattle.speed.proofs.speed_base64_read as speed-speed-base64-read
use Rattle.speed.proofs.speed_base64_write as speed-speed-base64-write

-- where a session is says all of it
at_injective : (r q : Session) {l m c d : List ℕ} → at r l c ≡ at q m d → (r ≡ q) × (l ≡ m) × (c ≡ d)
at_injective r q e =
    let a : r.phase ≡ q.phase = ap (λ (s : At). s.phase) e in
    let b : r.len ≡ q.len = ap (λ (s : At). s.len) e in
    (λ i. record { phase = a i; len = b i }, ap (λ (s : At). s.line) e, ap (λ (s : At). s.collection) e)

pub scan_id_once : Once scan-id.Kinds.ps scan-id.Kinds.r scan-id.Reads.Learnt
scan_id_once κs args x y u v p q = let e = written_once x y p q in (e.0, past (here e.1))

pub scan_session_scan_once : Once scan-session-scan.Kinds.ps scan-session-scan.Kinds.r scan-session-scan.Reads.Learnt
scan_session_scan_once κs args x y u v p q = (refl, past (here (p ∙ sym q)))

-- a part of the line buffer is lent back, the line: its bytes are fixed, not its place
pub scan_session_line_of_once : OnceSeen scan-session-line-of.Kinds.ps scan-session-line-of.Kinds.r (λ κs x. x.now) scan-session-line-of.Reads.Learnt
scan_session_line_of_once κs args x y u v p q = (p ∙ sym q, refl)

pub scan_session_feed_once : Once scan-session-feed.Kinds.ps scan-session-feed.Kinds.r scan-session-feed.Reads.Learnt
scan_session_feed_once κs args x y u v p q = let e = at_injective x y (p ∙ sym q) in (e.0, past (past (both e.1 (here e.2))))

pub scan_session_close_once : Once scan-session-close.Kinds.ps scan-session-close.Kinds.r scan-session-close.Reads.Learnt
scan_session_close_once κs args x y u v p q = let e = at_injective x y (p ∙ sym q) in (e.0, past (past (here e.2)))

pub scan_session_report_once : Once scan-session-report.Kinds.ps scan-session-report.Kinds.r scan-session-report.Reads.Learnt
scan_session_report_once κs args x y u v p q = let e = written_once x y p q in (e.0, past (past (here e.1)))

pub sheet_scans_once : Once sheet-scans.Kinds.ps sheet-scans.Kinds.r sheet-scans.Reads.Learnt
sheet_scans_once κs args x y u v p q = let e = written_once x y p q in (e.0, past (past (here e.1)))

pub sheet_typed_once : Once sheet-typed.Kinds.ps sheet-typed.Kinds.r sheet-typed.Reads.Learnt
sheet_typed_once κs args x y u v p q = let e = written_once x y p q in (e.0, past (past (here e.1)))

pub sheet_in_groups_once : Once sheet-in-groups.Kinds.ps sheet-in-groups.Kinds.r sheet-in-groups.Reads.Learnt
sheet_in_groups_once κs args x y u v p q = let e = written_once x y p q in (e.0, past (here e.1))

pub sheet_typed_page_once : Once sheet-typed-page.Kinds.ps sheet-typed-page.Kinds.r sheet-typed-page.Reads.Learnt
sheet_typed_page_once κs args x y u v p q = let e = written_once x y p q in (e.0, past (past (past (here e.1))))

pub sheet_number_asked_once : Once sheet-number-asked.Kinds.ps sheet-number-asked.Kinds.r sheet-number-asked.Reads.Learnt
sheet_number_asked_once κs args x y u v p q = (p ∙ sym q, refl)

pub sheet_refusal_once : Once sheet-refusal.Kinds.ps sheet-refusal.Kinds.r sheet-refusal.Reads.Learnt
sheet_refusal_once κs args x y u v p q = let e = written_once x y p q in (e.0, past (past (past (here e.1))))

pub pantry_work_resume_once : Once pantry-work-resume.Kinds.ps pantry-work-resume.Kinds.r pantry-work-resume.Reads.Learnt
pantry_work_resume_once κs args x y u v p q = let e = kept_once p q in (told_injective x y e.0, past (past (here e.1)))

pub pantry_work_answer_once : Once pantry-work-answer.Kinds.ps pantry-work-answer.Kinds.r pantry-work-answer.Reads.Learnt
pantry_work_answer_once κs args x y u v p q = let e = finished_once x y p q in (e.0, past (past (here e.1)))

pub notes_feed_once : Once notes-feed.Kinds.ps notes-feed.Kinds.r notes-feed.Reads.Learnt
notes_feed_once κs args x y u v p q =
    let e = at_injective x y (p.0 ∙ sym q.0) in
    (e.0, past (past (both e.1 (both e.2 (here (p.1 ∙ sym q.1))))))

pub notes_close_once : Once notes-close.Kinds.ps notes-close.Kinds.r notes-close.Reads.Learnt
notes_close_once κs args x y u v p q =
    let e = at_injective x y (p.0 ∙ sym q.0) in
    (e.0, past (past (both e.2 (here (p.1 ∙ sym q.1)))))

pub told_lines_once : Once told-lines.Kinds.ps told-lines.Kinds.r told-lines.Reads.Learnt
told_lines_once κs args x y u v p q = let e = written_once x y p q in (e.0, past (here e.1))

pub told_pages_missing_once : Once told-pages-missing.Kinds.ps told-pages-missing.Kinds.r told-pages-missing.Reads.Learnt
told_pages_missing_once κs args x y u v p q = let e = written_once x y p q in (e.0, past (here e.1))

pub told_pages_disputed_once : Once told-pages-disputed.Kinds.ps told-pages-disputed.Kinds.r told-pages-disputed.Reads.Learnt
told_pages_disputed_once κs args x y u v p q = let e = written_once x y p q in (e.0, past (here e.1))

pub told_words_advice_once : Once told-words-advice.Kinds.ps told-words-advice.Kinds.r told-words-advice.Reads.Learnt
told_words_advice_once κs args x y u v p q = let e = written_once x y p q in (e.0, past (here e.1))

pub told_words_first_advice_once : Once told-words-first-advice.Kinds.ps told-words-first-advice.Kinds.r told-words-first-advice.Reads.Learnt
told_words_first_advice_once κs args x y u v p q = let e = written_once x y p q in (e.0, past (here e.1))

pub told_words_stranger_once : Once told-words-stranger.Kinds.ps told-words-stranger.Kinds.r told-words-stranger.Reads.Learnt
told_words_stranger_once κs args x y u v p q = let e = written_once x y p q in (e.0, past (past (here e.1)))

pub phone_stilt_open_once : Once phone-stilt-open.Kinds.ps phone-stilt-open.Kinds.r phone-stilt-open.Reads.Learnt
phone_stilt_open_once κs args x y u v p q = (p.0 ∙ sym q.0, past (here (p.1 ∙ sym q.1)))

pub phone_stilt_offer_once : Once phone-stilt-offer.Kinds.ps phone-stilt-offer.Kinds.r phone-stilt-offer.Reads.Learnt
phone_stilt_offer_once κs args x y u v p q = (p.0 ∙ sym q.0, here (p.1 ∙ sym q.1))

pub phone_stilt_join_once : Once phone-stilt-join.Kinds.ps phone-stilt-join.Kinds.r phone-stilt-join.Reads.Learnt
phone_stilt_join_once κs args x y u v p q = (p.0 ∙ sym q.0, here (p.1 ∙ sym q.1))

pub phone_stilt_finish_once : Once phone-stilt-finish.Kinds.ps phone-stilt-finish.Kinds.r phone-stilt-finish.Reads.Learnt
phone_stilt_finish_once κs args x y u v p q = (p.0 ∙ sym q.0, past (here (p.1 ∙ sym q.1)))

pub phone_stilt_status_once : Once phone-stilt-status.Kinds.ps phone-stilt-status.Kinds.r phone-stilt-status.Reads.Learnt
phone_stilt_status_once κs args x y u v p q = (p.0 ∙ sym q.0, past (here (p.1 ∙ sym q.1)))

pub phone_stilt_frame_once : Once phone-stilt-frame.Kinds.ps phone-stilt-frame.Kinds.r phone-stilt-frame.Reads.Learnt
phone_stilt_frame_once κs args x y u v p q = (p.0 ∙ sym q.0, past (here (p.1 ∙ sym q.1)))

pub phone_stilt_base64_once : Once phone-stilt-base64.Kinds.ps phone-stilt-base64.Kinds.r phone-stilt-base64.Reads.Learnt
phone_stilt_base64_once κs args x y u v p q = (p.0 ∙ sym q.0, past (here (p.1 ∙ sym q.1)))

pub phone_stilt_typed_once : Once phone-stilt-typed.Kinds.ps phone-stilt-typed.Kinds.r phone-stilt-typed.Reads.Learnt
phone_stilt_typed_once κs args x y u v p q = (p.0 ∙ sym q.0, past (here (p.1 ∙ sym q.1)))

pub speed_speed_crc32_once : Once speed-speed-crc32.Kinds.ps speed-speed-crc32.Kinds.r speed-speed-crc32.Reads.Learnt
speed_speed_crc32_once κs args x y u v p q = (p ∙ sym q, refl)

pub speed_speed_sha256_once : Once speed-speed-sha256.Kinds.ps speed-speed-sha256.Kinds.r speed-speed-sha256.Reads.Learnt
speed_speed_sha256_once κs args x y u v p q = (refl, past (here (p ∙ sym q)))

pub speed_speed_blake2b_once : Once speed-speed-blake2b.Kinds.ps speed-speed-blake2b.Kinds.r speed-speed-blake2b.Reads.Learnt
speed_speed_blake2b_once κs args x y u v p q = (refl, past (here (p ∙ sym q)))

pub speed_speed_base64_read_once : Once speed-speed-base64-read.Kinds.ps speed-speed-base64-read.Kinds.r speed-speed-base64-read.Reads.Learnt
speed_speed_base64_read_once κs args x y u v p q = (p.0 ∙ sym q.0, past (here (p.1 ∙ sym q.1)))

pub speed_speed_base64_write_once : Once speed-speed-base64-write.Kinds.ps speed-speed-base64-write.Kinds.r speed-speed-base64-write.Reads.Learnt
speed_speed_base64_write_once κs args x y u v p q = (p.0 ∙ sym q.0, past (here (p.1 ∙ sym q.1)))

pub typing_scan_once : Once typing-scan.Kinds.ps typing-scan.Kinds.r typing-scan.Reads.Learnt
typing_scan_once κs args x y u v p q = let e = kept_once p q in (told_at_injective x y e.0, past (here e.1))

pub typing_page_fault_once : Once typing-page-fault.Kinds.ps typing-page-fault.Kinds.r typing-page-fault.Reads.Learnt
typing_page_fault_once κs args x y u v p q = (p ∙ sym q, refl)

pub typing_line_fault_once : Once typing-line-fault.Kinds.ps typing-line-fault.Kinds.r typing-line-fault.Reads.Learnt
typing_line_fault_once κs args x y u v p q = (p ∙ sym q, refl)

pub slips_line_end_once : Once slips-line-end.Kinds.ps slips-line-end.Kinds.r slips-line-end.Reads.Learnt
slips_line_end_once κs args x y u v p q = (p ∙ sym q, refl)

pub slips_next_once : Once slips-next.Kinds.ps slips-next.Kinds.r slips-next.Reads.Learnt
slips_next_once κs args x y u v p q = (p ∙ sym q, refl)

pub slips_feeds_once : Once slips-feeds.Kinds.ps slips-feeds.Kinds.r slips-feeds.Reads.Learnt
slips_feeds_once κs args x y u v p q = (p ∙ sym q, refl)

pub slips_read_once : Once slips-read.Kinds.ps slips-read.Kinds.r slips-read.Reads.Learnt
slips_read_once κs args x y u v p q = let e = slip-once p q in (e.0, past (past (here e.1)))

pub slips_repeated_once : Once slips-repeated.Kinds.ps slips-repeated.Kinds.r slips-repeated.Reads.Learnt
slips_repeated_once κs args x y u v p q = (p ∙ sym q, refl)

pub slips_hex_once : Once slips-hex.Kinds.ps slips-hex.Kinds.r slips-hex.Reads.Learnt
slips_hex_once κs args x y u v p q = let e = written_once x y p q in (e.0, past (past (here e.1)))

pub typing_words_once : Once typing-words.Kinds.ps typing-words.Kinds.r typing-words.Reads.Learnt
typing_words_once κs args x y u v p q = let e = written_once x y p q in (e.0, past (here e.1))
