-- What the calls of `pier` and `pantry` say of their whole input (specs/Programs.antt).
-- Assumes nothing.
use mathlib.Core.Path.{◌≡◌, refl, sym, ap, ap₂, ◌∙◌, subst}
use mathlib.Core.Bool.{Bool, true, false}
use mathlib.Core.List.{List, [], ◌∷◌, ◌++◌, flatten}
use Prim.Native.Nat.{ℕ, ◌≤◌}
use native.Mathlib.Omega.{arith}
use borrow.Author.Tests.{ne_eqb}
use lib.Dec.{eqb}
use lib.ListN.{length}
use Rattle.wire.specs.Answer.{choose, Answer, done, refused_at, refused, Change, leaves, bytes_after, answer_of, Kept}
use Rattle.digits.specs.Decimal.{refused_line}
use Rattle.digits.proofs.Decimals.{refused_most}
use Rattle.model.specs.Book.{Book}
use Rattle.model.specs.Meaning.{BookIs}
use Rattle.book.specs.Encode.{encode}
use Rattle.book.specs.Read.{read_book, ok_book}
use Rattle.collection.specs.Built.{opened, offered_all, PageAmong, AllBytes}
use Rattle.collection.proofs.Demand.{list_saved}
use Rattle.status.specs.Line.{status_line}
use Rattle.status.specs.Sets.{LineIs}
use Rattle.status.proofs.Sets.{status_line_is}
use Rattle.status.proofs.Told.{status_most}
use Rattle.scan.specs.Id.{id_verdict}
use Rattle.scan.specs.Session.{At, at, line_of, scanned, started, ended, fed, closed, reported}
use Rattle.scan.specs.declared.session.Session.{Session}
use Rattle.scan.specs.Input.{document_of, scans_of, collection_of, new, session}
use Rattle.scan.proofs.Inputs.{fed_append, session_collects, session_refused, all_bytes, document_eight, list_says}
use Rattle.pantry_work.specs.Steps.{resuming, answered}
use Rattle.pantry_work.specs.Pantry.{taken_up}
use Rattle.pantry_work.proofs.Pantry.{all_append, file_joined, damaged_13, another_12, none_19}
use Rattle.finish.specs.Finish.{finishing}
use Rattle.finish.specs.Sets.{Answers}
use Rattle.finish.proofs.Demand.{finish_demand}
use Rattle.scan.proofs.session.feed as scan-session-feed
use Rattle.scan.proofs.session.close as scan-session-close
use Rattle.notes.specs.Notes.{noted_all, noted_last}
use Rattle.notes.proofs.feed as notes-feed
use Rattle.notes.proofs.close as notes-close
use Rattle.promises.specs.Calls.{Call}
use Rattle.promises.specs.Collecting.{library}
use Rattle.promises.specs.Demand3.{Left}
use Rattle.promises.specs.Programs.{Feeds, FeedsAll, Closes, Runs, Reports, Resumes, Shows, Laid, Collects, Waits, Programs}
use Rattle.promises.proofs.Writers.{slice, lent, written_room}
use Rattle.promises.proofs.Interfaces.{library_lawful}
use Rattle.promises.proofs.Demand3.{left_bytes}
use Rattle.promises.proofs.Links.Scan.{scan_session_feed_link, scan_session_close_link, scan_session_report_link}
use Rattle.promises.proofs.Links.Notes.{notes_feed_link, notes_close_link}
use Rattle.promises.proofs.Links.PantryWork.{pantry_work_resume_link, pantry_work_answer_link}

-- ---- a run is a session over the whole input

fed_once : (b : Bool) (part : List ℕ) (s t : At) → Feeds b part s t → t ≡ fed s part
fed_once false part s t (k, i, j, l) = sym l ∙ scan_session_feed_link k ∙ ap₂ fed j i
fed_once true part s t (k, i, j, l) = sym l ∙ notes_feed_link k ∙ ap₂ fed j i

fed_all : (b : Bool) (parts : List (List ℕ)) (s t : At) → FeedsAll b parts s t → t ≡ fed s (flatten parts)
unfolding fed flatten
fed_all b [] s t e = sym e
fed_all b (part ∷ parts) s t (m, f, r) =
    fed_all b parts m t r ∙ ap (λ (x : At). fed x (flatten parts)) (fed_once b part s m f) ∙ sym (fed_append s part (flatten parts))

closed_once : (b : Bool) (s t : At) → Closes b s t → t ≡ closed s
closed_once false s t (k, i, j) = sym j ∙ scan_session_close_link k ∙ ap closed i
closed_once true s t (k, i, j) = sym j ∙ notes_close_link k ∙ ap closed i

run_is : (b : Bool) (parts : List (List ℕ)) (line c : List ℕ) (t : At) → Runs b parts line c t → t ≡ session line c (flatten parts)
run_is b parts line c t (s, f, e) = closed_once b s t e ∙ ap closed (fed_all b parts (new line c) s f)

-- ---- and every input can be read so

abbrev session_of : At → Session
session_of s = record { phase = s.phase; len = s.len }

abbrev feeding : List ℕ → At → Call scan-session-feed.Kinds.ps scan-session-feed.Kinds.r scan-session-feed.Reads.Learnt
feeding part s = record {
  lifetimes = ([], ([], ([], tt)));
  args = (slice part, (session_of s, (lent s.line, (lent s.collection, tt))));
  answer = session_of (fed s part);
  left = (tt, (tt, ((fed s part).line, ((fed s part).collection, tt))));
  kept = refl;
}

-- the end of a line keeps the line buffer
started_line : (s : At) (v : Answer (List ℕ)) → at (session_of (started s v)) s.line (started s v).collection ≡ started s v
started_line s (done id) = refl
started_line s (refused_at e place) = refl

-- what a session is after its last line, by the three tests that the definition makes
abbrev last_of : At → Bool → Bool → Bool → At
last_of s t u w =
    choose t s
    (choose u (started s (id_verdict (line_of s)))
    (choose w (record { phase = 1; len = 0; line = s.line; collection = scanned s.collection (line_of s) })
    (record { phase = s.phase; len = 0; line = s.line; collection = s.collection })))

last_line : (s : At) (t u w : Bool) → at (session_of (last_of s t u w)) s.line (last_of s t u w).collection ≡ last_of s t u w
last_line s true u w = refl
last_line s false true w = started_line s (id_verdict (line_of s))
last_line s false false true = refl
last_line s false false false = refl

closed_line : (s : At) → at (session_of (closed s)) s.line (closed s).collection ≡ closed s
unfolding closed ended
closed_line s = last_line s (eqb s.len 0) (eqb s.phase 0) (eqb s.phase 1)

abbrev ending : At → Call scan-session-close.Kinds.ps scan-session-close.Kinds.r scan-session-close.Reads.Learnt
ending s = record {
  lifetimes = ([], ([], tt));
  args = (session_of s, (slice s.line, (lent s.collection, tt)));
  answer = session_of (closed s);
  left = (tt, (tt, ((closed s).collection, tt)));
  kept = closed_line s;
}

-- the same with notes beside it, of which there may be none
abbrev noting_part : List ℕ → At → Call notes-feed.Kinds.ps notes-feed.Kinds.r notes-feed.Reads.Learnt
noting_part part s = record {
  lifetimes = ([], ([], ([], ([], tt))));
  args = (slice part, (session_of s, (lent s.line, (lent s.collection, (lent [], tt)))));
  answer = session_of (fed s part);
  left = (tt, (tt, ((fed s part).line, ((fed s part).collection, (noted_all s [] part, tt)))));
  kept = (refl, refl);
}

abbrev noting_end : At → Call notes-close.Kinds.ps notes-close.Kinds.r notes-close.Reads.Learnt
noting_end s = record {
  lifetimes = ([], ([], ([], tt)));
  args = (session_of s, (slice s.line, (lent s.collection, (lent [], tt))));
  answer = session_of (closed s);
  left = (tt, (tt, ((closed s).collection, (noted_last s [], tt))));
  kept = (closed_line s, refl);
}

feed_happens : (b : Bool) (part : List ℕ) (s : At) → Feeds b part s (fed s part)
feed_happens false part s = (feeding part s, refl, refl, refl)
feed_happens true part s = (noting_part part s, refl, refl, refl)

close_happens : (b : Bool) (s : At) → Closes b s (closed s)
close_happens false s = (ending s, refl, closed_line s)
close_happens true s = (noting_end s, refl, closed_line s)

feeds_happen : (b : Bool) (parts : List (List ℕ)) (s : At) → (t : At) × FeedsAll b parts s t
feeds_happen b [] s = (s, refl)
feeds_happen b (part ∷ parts) s = let r = feeds_happen b parts (fed s part) in (r.0, (fed s part, feed_happens b part s, r.1))

runs_happen : (b : Bool) (parts : List (List ℕ)) (line c : List ℕ) → (t : At) × Runs b parts line c t
runs_happen b parts line c = let r = feeds_happen b parts (new line c) in (closed r.0, (r.0, r.1, close_happens b r.0))

-- ---- what each call says

reports_laid : (phase : ℕ) (c out x : List ℕ) (a : Answer ℕ) → length (reported phase c) ≤ length out → Reports phase c out x a → Laid (reported phase c) out x a
reports_laid phase c out x a h (k, i, j, l, m, e) = written_room (reported phase c) out x a h (rw (i, j, l, m, e) at (scan_session_report_link k))

-- a session that collects gives out what finish answers,
shows_finish : (phase : ℕ) (c out x : List ℕ) (a : Answer ℕ) → phase ≡ 1 → Shows phase c out x a → Kept (finishing c out) out x a
unfolding answered
shows_finish phase c out x a p (k, i, j, l, m, e) = rw (p, e) at (rw (i, j, l, m) at (pantry_work_answer_link k))

-- which is said of the set that its collection is
shows_set : (id : List ℕ) → length id ≡ 8 → (c : List ℕ) → length c ≡ 49664 → (raws : List (List ℕ)) → AllBytes raws → (phase : ℕ) (y out x : List ℕ) (a : Answer ℕ)
    → phase ≡ 1 → y ≡ collection_of c id raws → Shows phase y out x a → Answers (PageAmong id raws) id out x a
shows_set id eight c size raws all phase y out x a p e k =
    let (ok, i, m) = list_says id eight c size raws all in
    let w = rw e at (shows_finish phase y out x a p k) in
    rw i at (finish_demand (PageAmong id raws) (collection_of c id raws) out x a ok m w.answer w.bytes)

-- and one that does not refuses
shows_none : (phase : ℕ) (c out x : List ℕ) (a : Answer ℕ) → (phase ≡ 1 → ⊥) → Shows phase c out x a → (a ≡ refused 19) × (x ≡ out)
unfolding answered
shows_none phase c out x a p (k, i, j, l, m, e) =
    let w = rw (ne_eqb phase 1 p, e) at (rw (i, j, l, m) at (pantry_work_answer_link k)) in
    (w.answer, w.bytes)

resumes_says : (phase : ℕ) (c saved y : List ℕ) (r : Answer Unit) (d : Change Unit) → resuming phase c saved ≡ d → Resumes phase c saved y r
    → (r ≡ answer_of d) × (y ≡ bytes_after c d)
resumes_says phase c saved y r d q (k, i, j, l, m, e) =
    let w = rw (i, j, l, m) at (pantry_work_resume_link k) in
    (sym e ∙ w.answer ∙ ap answer_of q, w.bytes ∙ ap (bytes_after c) q)

-- ---- an input that names a document

module _ (line c : List ℕ) (room : 1025 ≤ length line) (size : length c ≡ 49664) (input id : List ℕ) (named : document_of input ≡ done id) where
  abbrev reached : At
  reached = session line c input

  eight : length id ≡ 8
  eight = document_eight input id named

  came : (reached.phase ≡ 1) × (reached.collection ≡ collection_of c id (scans_of input))
  came = session_collects line c room input id named

  session_saved : (b : Book) → BookIs (PageAmong id (scans_of input)) b → reached.collection ≡ encode id b
  session_saved b m = came.1 ∙ list_saved id eight c (scans_of input) size (all_bytes input) b m

  session_says : (ok_book reached.collection ≡ true) × BookIs (PageAmong id (scans_of input)) (read_book reached.collection)
  session_says = let s = list_says id eight c size (scans_of input) (all_bytes input) in rw came.1 (s.0, s.2)

  session_line : reported reached.phase reached.collection ≡ status_line reached.collection
  unfolding reported
  session_line = rw came.0

  pier_line : (out x : List ℕ) (a : Answer ℕ) → 64 ≤ length out → Reports reached.phase reached.collection out x a
      → (text : List ℕ) × LineIs (PageAmong id (scans_of input)) text × Laid text out x a
  pier_line out x a h k =
      let n = status_most reached.collection in
      let l = reports_laid reached.phase reached.collection out x a (omega (arith, ap length session_line)) k in
      (status_line reached.collection, status_line_is (PageAmong id (scans_of input)) reached.collection session_says.0 session_says.1, rw session_line at l)

  -- a file of earlier scans
  module _ (ys : List (List ℕ)) (d saved y : List ℕ) (r : Answer Unit) (all : AllBytes ys) (t : length d ≡ 49664) (left : Left library id (offered_all ys (opened d)) saved)
      (k : Resumes reached.phase reached.collection saved y r) where
    taken : (r ≡ done tt) × (y ≡ collection_of d id (scans_of input ++ ys))
    taken =
        resumes_says reached.phase reached.collection saved y r (leaves (collection_of d id (scans_of input ++ ys)) tt)
        (ap (taken_up line c input) (left_bytes library library_lawful id (offered_all ys (opened d)) saved left) ∙ file_joined line c room size input id named d t ys all d t) k

    both : AllBytes (scans_of input ++ ys)
    both = all_append (scans_of input) ys (all_bytes input) all

    file_saved : (b : Book) → BookIs (PageAmong id (scans_of input ++ ys)) b → y ≡ encode id b
    file_saved b m = taken.1 ∙ list_saved id eight d (scans_of input ++ ys) t both b m

  session_collected : Collects id (scans_of input) reached
  session_collected = record {
    collecting = came.0;
    saved = session_saved;
    pier = pier_line;
    pantry = λ out x a k. shows_set id eight c size (scans_of input) (all_bytes input) reached.phase reached.collection out x a came.0 came.1 k;
    keeps = λ ys d saved y r all t left k. ((taken ys d saved y r all t left k).0, file_saved ys d saved y r all t left k);
    prints = λ ys d saved y r out x a all t left k j.
        shows_set id eight d t (scans_of input ++ ys) (both ys d saved y r all t left k) reached.phase y out x a came.0 (taken ys d saved y r all t left k).1 j;
    damaged = λ saved y r bad k. resumes_says reached.phase reached.collection saved y r (refused 13) (damaged_13 line c room size input id named saved bad) k;
    another = λ saved y r ok n k. resumes_says reached.phase reached.collection saved y r (refused 12) (another_12 line c room size input id named saved ok n) k;
  }

-- ---- an input that names none

module _ (line c : List ℕ) (room : 1025 ≤ length line) (input : List ℕ) (n : ℕ) (none : document_of input ≡ refused n) where
  abbrev idle : At
  idle = session line c input

  idle_line : reported idle.phase idle.collection ≡ refused_line 19
  unfolding reported
  idle_line = rw (ne_eqb idle.phase 1 (session_refused line c room input n 0 none).0)

  session_waits : Waits c idle
  session_waits = record {
    unchanged = (session_refused line c room input n 0 none).1;
    pier = λ out x a h k.
        let m = refused_most 19 in
        rw idle_line at (reports_laid idle.phase idle.collection out x a (omega (arith, ap length idle_line)) k);
    pantry = λ out x a k. shows_none idle.phase idle.collection out x a (session_refused line c room input n 0 none).0 k;
    keeps = λ saved y r k. resumes_says idle.phase idle.collection saved y r (refused 19) (none_19 line c room input n none saved) k;
  }

pub programs : Programs
programs = record {
  parts = record {
    happens = runs_happen;
    same = λ b d ps qs line c s t e k l. run_is b ps line c s k ∙ ap (session line c) e ∙ sym (run_is d qs line c t l);
  };
  named = λ b ps line c id t room size k e.
      subst (Collects id (scans_of (flatten ps))) (sym (run_is b ps line c t k)) (session_collected line c room size (flatten ps) id e);
  unnamed = λ b ps line c n t room k e. subst (Waits c) (sym (run_is b ps line c t k)) (session_waits line c room (flatten ps) n e);
}
