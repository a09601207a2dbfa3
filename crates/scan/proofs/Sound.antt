-- The collection of a session is well formed once it collects, whatever its input and its line
-- buffer were. Assumes nothing.
use mathlib.Core.Path.{◌≡◌, refl}
use mathlib.Core.Bool.{Bool, true, false}
use mathlib.Core.List.{List, [], ◌∷◌}
use Prim.Native.Nat.{ℕ}
use native.Mathlib.Omega.{arith}
use borrow.Author.Tests.{eqb-true}
use lib.Dec.{eqb, leb}
use lib.ListN.{length}
use Rattle.wire.specs.Answer.{choose, Answer, done, refused_at}
use Rattle.text.specs.Text.{base64, read_text}
use Rattle.text.proofs.Forms.{base64_lawful}
use Rattle.text.proofs.Round.{text_bytes}
use Rattle.book.specs.Read.{id_of, ok_book}
use Rattle.book.proofs.Decode.{ok_size}
use Rattle.collection.proofs.Keeps.{open_makes, offer_keeps}
use Rattle.scan.specs.Id.{id_verdict}
use Rattle.scan.specs.Session.{offered, scanned, At, line_of, started, ended, longer, next, fed, closed}
use Rattle.scan.proofs.Scans.{id_eight}

-- a scan keeps a collection well formed
scanned_ok : (c line : List ℕ) → ok_book c ≡ true → ok_book (scanned c line) ≡ true
unfolding scanned
scanned_ok c line ok = go (leb (length line) 1024)
  where
    taken : (v : Answer (List ℕ)) → read_text base64 line ≡ v → ok_book (offered c v) ≡ true
    taken (done raw) e = (offer_keeps (id_of c) c (ok, refl) raw (text_bytes base64 base64_lawful line raw e)).0
    taken (refused_at f place) e = ok

    go : (t : Bool) → ok_book (choose t (offered c (read_text base64 line)) c) ≡ true
    go true = taken (read_text base64 line) refl
    go false = ok

-- the buffer has a collection's size, and once the session collects, it is one
pub record Sound (s : At) : Type 0 where
  pub size : length s.collection ≡ 49664
  pub good : s.phase ≡ 1 → ok_book s.collection ≡ true

-- before the first line has ended nothing is asked of the buffer but its size
pub sound_new : (s : At) → s.phase ≡ 0 → length s.collection ≡ 49664 → Sound s
sound_new s p l = record { size = l; good = λ q. absurd (omega (arith, p, q)) }

started_sound : (s : At) (v : Answer (List ℕ)) → ((id : List ℕ) → v ≡ done id → length id ≡ 8) → length s.collection ≡ 49664 → Sound (started s v)
started_sound s (done id) eight l =
    let o = open_makes id s.collection (eight id refl) l in
    record { size = ok_size _ o.0; good = λ q. o.0 }
started_sound s (refused_at e place) eight l = record { size = l; good = λ q. absurd (omega (arith, q)) }

ended_sound : (s : At) → Sound s → Sound (ended s)
unfolding ended
ended_sound s f = go (eqb s.phase 0) (eqb s.phase 1) refl
  where
    go : (t u : Bool) → eqb s.phase 1 ≡ u
        → Sound
        (choose t (started s (id_verdict (line_of s)))
        (choose u (record { phase = 1; len = 0; line = s.line; collection = scanned s.collection (line_of s) })
        (record { phase = s.phase; len = 0; line = s.line; collection = s.collection })))
    go true u e = started_sound s (id_verdict (line_of s)) (id_eight (line_of s)) f.size
    go false true e =
        let ok = scanned_ok s.collection (line_of s) (f.good (eqb-true s.phase 1 e)) in
        record { size = ok_size _ ok; good = λ q. ok }
    go false false e = record { size = f.size; good = f.good }

longer_sound : (s : At) (b : ℕ) → Sound s → Sound (longer s b)
unfolding longer
longer_sound s b f = record { size = f.size; good = f.good }

next_sound : (s : At) (b : ℕ) → Sound s → Sound (next s b)
unfolding next
next_sound s b f = go (eqb b 10)
  where
    go : (t : Bool) → Sound (choose t (ended s) (longer s b))
    go true = ended_sound s f
    go false = longer_sound s b f

-- any input keeps it so, and so does its end
pub fed_sound : (s : At) (input : List ℕ) → Sound s → Sound (fed s input)
unfolding fed
fed_sound s [] f = f
fed_sound s (b ∷ bs) f = fed_sound (next s b) bs (next_sound s b f)

pub closed_sound : (s : At) → Sound s → Sound (closed s)
unfolding closed
closed_sound s f = go (eqb s.len 0)
  where
    go : (t : Bool) → Sound (choose t s (ended s))
    go true = f
    go false = ended_sound s f
