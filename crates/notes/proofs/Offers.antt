-- What a line is to a collection, as the code finds it. Assumes nothing.
use Prim.Native.Nat.{ℕ, ◌-◌, ◌≤◌, ◌<◌}
use mathlib.Core.Path.{◌≡◌, sym, ap, ap₂, ◌∙◌}
use mathlib.Core.Bool.{Bool, true, false}
use mathlib.Core.List.{List}
use native.Mathlib.Nat.{sub-zero}
use native.Mathlib.Omega.{arith}
use borrow.Author.Tests.{le-leb, lt-leb, ne_eqb}
use lib.Dec.{eqb}
use lib.ListN.{length, take}
use Rattle.wire.specs.Answer.{choose, done, refused_at, refused, number_of, place_of, Change, answer_of, bytes_after, Kept}
use Rattle.wire.specs.Over.{over}
use Rattle.wire.specs.Writing.{Written}
use Rattle.std.specs.Prelude.{Result, Ok, Err}
use Rattle.wire.specs.Refusal.{number}
use Rattle.wire.specs.declared.Refusal.{Refusal}
use Rattle.wire.specs.declared.Refusal.TheVariants.{OtherDocument}
use Rattle.wire.proofs.Answers.{number_injective}
use Rattle.wire.proofs.Overs.{over_all, read_over}
use Rattle.wire.proofs.Writes.{done_stood}
use Rattle.lend.specs.Same.{same}
use Rattle.text.specs.Text.{base64, read_text}
use Rattle.text.proofs.Forms.{base64_lawful}
use Rattle.text.proofs.Round.{text_short}
use Rattle.book.specs.Head.{has_head, head_in}
use Rattle.book.specs.Read.{book_in}
use Rattle.collection.specs.Collection.{offering}
use Rattle.collection.specs.Answer.{told_kind, stands_number}
use Rattle.collection.specs.declared.Stands.{Stands}
use Rattle.scan.proofs.Scans.{own_fault}
use Rattle.notes.specs.Line.{offered_kind, read_kind, line_kind}

-- ---- a frame

-- by whether two texts are the same
module _ (r : Bool) (a c : List ℕ) (e : r ≡ same a c) where
  pub seen_yes : r ≡ true → 1 ≡ choose {A = ℕ} (same a c) 1 0
  seen_yes h = rw (sym e ∙ h)

  pub seen_no : r ≡ false → 0 ≡ choose {A = ℕ} (same a c) 1 0
  seen_no h = rw (sym e ∙ h)

-- a refusal that is not 12
pub refused_else : (why : Refusal) → (why ≡ OtherDocument → ⊥) → 3 ≡ choose {A = ℕ} (eqb (number why) 12) 2 3
refused_else why h = rw (ne_eqb (number why) 12 (λ e. h (number_injective why OtherDocument e)))

module _ (c raw : List ℕ) where
  -- no collection has another size
  pub offered_size : (length c ≡ 49664 → ⊥) → 3 ≡ offered_kind c (offering c raw)
  unfolding offering book_in head_in has_head
  offered_size h = rw (ne_eqb (length c) 49664 h)

  module _ (x a z : List ℕ) (size : length c ≡ 49664) (l : length x ≡ 49664) (copied : a ≡ over 0 c x) (r : Result Stands Refusal) (w : Kept (offering a raw) a z (told_kind r)) where
    same_bytes : a ≡ c
    same_bytes = copied ∙ over_all c x (size ∙ sym l)

    refused_so : (d : Change ℕ) (e : ℕ) → refused e ≡ answer_of d → d ≡ refused e
    refused_so (done (y, k)) e h = absurd (let q : ◌≡◌ {A = ℕ} 0 1 = cc in omega arith)
    refused_so (refused_at f p) e h = ap₂ refused_at (sym (ap number_of h)) (sym (ap place_of h))

    pub offered_seen : (k : Stands) (n : ℕ) → r ≡ Ok k → n ≡ choose (same z c) 1 0 → n ≡ offered_kind c (offering c raw)
    offered_seen k n h e = rw same_bytes at (go (offering a raw) (ap told_kind (sym h) ∙ w.answer) w.bytes)
      where
        go : (d : Change ℕ) → done (stands_number k) ≡ answer_of d → z ≡ bytes_after a d → n ≡ offered_kind c d
        go (done (y, j)) f g = rw (← g) e
        go (refused_at f p) i g = absurd (let q : ◌≡◌ {A = ℕ} 0 1 = cc in omega arith)

    pub offered_refused : (e : Refusal) (n : ℕ) → r ≡ Err e → n ≡ choose (eqb (number e) 12) 2 3 → n ≡ offered_kind c (offering c raw)
    offered_refused e n h q = rw (rw same_bytes at (refused_so (offering a raw) (number e) (ap told_kind (sym h) ∙ w.answer))) q

-- ---- a line

module _ (c line : List ℕ) where
  pub kind_long : 1024 < length line → 4 ≡ line_kind c line
  unfolding line_kind
  kind_long h = rw (lt-leb (length line) 1024 h)

  module _ (l : length line ≤ 1024) (x y : List ℕ) (k : length x ≡ 1024) (r : Result ℕ Refusal) (w : Written 0 (read_text base64 line) x y r) where
    judged : line_kind c line ≡ read_kind c (read_text base64 line)
    unfolding line_kind
    judged = rw (le-leb (length line) 1024 l)

    pub kind_bad : (e : Refusal) → r ≡ Err e → 3 ≡ line_kind c line
    kind_bad e h =
        let f = own_fault (read_text base64 line) x y (λ bs q. omega (arith, text_short base64 base64_lawful line bs q)) r e w h in
        sym (judged ∙ ap (read_kind c) f)

    pub kind_good : (n : ℕ) → r ≡ Ok n → (raw : List ℕ) → raw ≡ take (n - 0) y → (m : ℕ) → m ≡ offered_kind c (offering c raw) → m ≡ line_kind c line
    kind_good n h raw p m q =
        let s = done_stood 0 (read_text base64 line) x y n (rw h at w) in
        let t : take (n - 0) y ≡ s.what =
        ap (λ (j : ℕ). take j y) (sub-zero n ∙ s.count) ∙ ap (take (length s.what)) s.stands ∙ read_over 0 s.what x (omega (arith, s.fits, s.count)) in
        q ∙ sym (judged ∙ ap (read_kind c) s.meant ∙ ap (λ (b : List ℕ). offered_kind c (offering c b)) (sym (p ∙ t)))
