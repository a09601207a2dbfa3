-- One line: a scan, or the document id. Assumes nothing.
use Prim.Native.Nat.{ℕ, ◌-◌, ◌≤◌, ◌<◌}
use mathlib.Core.Path.{◌≡◌, sym, ap, ◌∙◌}
use mathlib.Core.Logic.{⊎_elim}
use mathlib.Core.List.{List}
use native.Mathlib.Nat.{sub-zero}
use native.Mathlib.Omega.{arith}
use borrow.Author.Tests.{le-leb, lt-leb, eq-eqb, ne_eqb, eqb-true}
use lib.Dec.{eqb}
use lib.ListN.{length, take}
use Rattle.wire.specs.Answer.{Answer, done, refused, bytes_after, Kept}
use Rattle.wire.specs.Writing.{Written, writing}
use Rattle.std.specs.Prelude.{Result, Ok, Err}
use Rattle.wire.specs.Refusal.{number}
use Rattle.wire.specs.declared.Refusal.{Refusal}
use Rattle.wire.specs.declared.Refusal.TheVariants.{OutOfRange}
use Rattle.wire.proofs.Overs.{over_all, read_over}
use Rattle.wire.proofs.Cases.{passed}
use Rattle.wire.proofs.Writes.{done_stood, refused_why, denied}
use Rattle.digits.specs.Hex.{hex_verdict}
use Rattle.digits.proofs.Hexes.{read_length}
use Rattle.text.specs.Text.{base64, read_text}
use Rattle.text.proofs.Forms.{base64_lawful}
use Rattle.text.proofs.Round.{text_short}
use Rattle.collection.specs.Collection.{offering}
use Rattle.scan.specs.Id.{id_verdict}
use Rattle.scan.specs.Session.{offered, scanned}

-- a refusal, with room for all, is the verdict's own
module _ (v : Answer (List ℕ)) (x y : List ℕ) (room : (bs : List ℕ) → v ≡ done bs → length bs ≤ length x) where
  pub own_fault : (r : Result ℕ Refusal) (e : Refusal) → Written 0 v x y r → r ≡ Err e → v ≡ refused (number e)
  own_fault r e w h =
      ⊎_elim (λ f. f) (λ s. absurd (omega (arith, s.2, room s.0 s.1))) (refused_why 0 v x y (number e) 0 (rw h at w))

pub done_fits : (v : Answer (List ℕ)) (x y : List ℕ) (r : Result ℕ Refusal) (n : ℕ) → Written 0 v x y r → r ≡ Ok n → length y ≡ length x → n ≤ length y
done_fits v x y r n w h l = omega (arith, (done_stood 0 v x y n (rw h at w)).fits)

-- ---- a scan

module _ (line c : List ℕ) where
  pub scan_long : 1024 < length line → c ≡ scanned c line
  unfolding scanned
  scan_long h = sym (rw (lt-leb (length line) 1024 h))

  module _ (l : length line ≤ 1024) (x y : List ℕ) (k : length x ≡ 1024) (r : Result ℕ Refusal) (w : Written 0 (read_text base64 line) x y r) where
    judged : scanned c line ≡ offered c (read_text base64 line)
    unfolding scanned
    judged = rw (le-leb (length line) 1024 l)

    pub scan_bad : (e : Refusal) → r ≡ Err e → c ≡ scanned c line
    scan_bad e h =
        let f = own_fault (read_text base64 line) x y (λ bs q. omega (arith, text_short base64 base64_lawful line bs q)) r e w h in
        sym (judged ∙ ap (offered c) f)

    pub scan_good : (n : ℕ) → r ≡ Ok n → (raw : List ℕ) → raw ≡ take (n - 0) y → (a : Answer ℕ) (z : List ℕ) → Kept (offering c raw) c z a → z ≡ scanned c line
    scan_good n h raw p a z q =
        let s = done_stood 0 (read_text base64 line) x y n (rw h at w) in
        let t : take (n - 0) y ≡ s.what =
        ap (λ (m : ℕ). take m y) (sub-zero n ∙ s.count) ∙ ap (take (length s.what)) s.stands ∙ read_over 0 s.what x (omega (arith, s.fits, s.count)) in
        let o : raw ≡ s.what = p ∙ t in
        q.bytes ∙ sym (judged ∙ ap (offered c) s.meant ∙ ap (λ (m : List ℕ). bytes_after c (offering c m)) (sym o))

-- ---- the id

module _ (line x : List ℕ) where
  pub id_length : (length line ≡ 16 → ⊥) → Written 0 (id_verdict line) x x (Err OutOfRange)
  unfolding id_verdict
  id_length h = rw (ne_eqb (length line) 16 h) (denied 0 x OutOfRange)

  pub id_hex : length line ≡ 16 → (z : List ℕ) (r : Answer ℕ) → Kept (writing 0 x (hex_verdict line)) x z r → Kept (writing 0 x (id_verdict line)) x z r
  unfolding id_verdict
  id_hex h z r w = rw (eq-eqb (length line) 16 h) w

pub id_eight : (line bs : List ℕ) → id_verdict line ≡ done bs → length bs ≡ 8
unfolding id_verdict
id_eight line bs h =
    let (l, q) = passed (eqb (length line) 16) (hex_verdict line) 19 h in
    omega (arith, eqb-true (length line) 16 l, read_length line bs q)

module _ (first x y : List ℕ) (k : length x ≡ 8) (r : Result ℕ Refusal) (w : Written 0 (id_verdict first) x y r) where
  pub id_refused : (e : Refusal) → r ≡ Err e → id_verdict first ≡ refused (number e)
  id_refused e h = own_fault (id_verdict first) x y (λ bs q. omega (arith, id_eight first bs q)) r e w h

  pub id_read : (n : ℕ) → r ≡ Ok n → id_verdict first ≡ done y
  id_read n h =
      let s = done_stood 0 (id_verdict first) x y n (rw h at w) in
      let e : y ≡ s.what = s.stands ∙ over_all s.what x (id_eight first s.what s.meant ∙ sym k) in
      s.meant ∙ ap done (sym e)
