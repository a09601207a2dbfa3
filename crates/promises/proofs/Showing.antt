-- What an app shows by the calls for C (Showing: specs/Demand3.antt) holds, for every document id
-- of 8 bytes. Assumes nothing.
use mathlib.Core.Path.{◌≡◌, refl, sym, ap, ◌∙◌}
use mathlib.Core.Bool.{true, ◌&&◌}
use mathlib.Core.Logic.{inl, inr, ◌↔◌}
use mathlib.Core.List.{List}
use Prim.Native.Nat.{ℕ, ◌≤◌, ◌<◌}
use native.Mathlib.Omega.{arith}
use borrow.Author.Tests.{le-leb, eq-eqb, eqb-true}
use lib.Dec.{eqb}
use lib.ListN.{length, take, length-take}
use Rattle.wire.specs.Answer.{done, refused_at, Got, got, bytes_after, answer_of}
use Rattle.wire.specs.Number.{Bytes}
use Rattle.wire.specs.Over.{over}
use Rattle.wire.proofs.Overs.{read_over}
use Rattle.wire.proofs.Cases.{passed, both_hold, then_passed, got_value}
use Rattle.lend.specs.Same.{same}
use Rattle.lend.proofs.Sames.{same_refl, same_eq}
use Rattle.varint.proofs.Lengths.{varint_length_two}
use Rattle.frame.specs.Frame.{Frame, id_of, data_of, frame_of}
use Rattle.frame.specs.Allowed.{Kind}
use Rattle.frame.proofs.Lengths.{layout_length_short}
use Rattle.frame.proofs.OnlyLayouts.{only_layouts}
use Rattle.model.specs.Take.{Page}
use Rattle.model.specs.Book.{Book, empty, collecting, disagree}
use Rattle.model.proofs.Valid.{Valid}
use Rattle.model.proofs.Counts.{count_three}
use Rattle.book.specs.Read.{read_book, ok_book}
use Rattle.book.proofs.Judging.{judged_done}
use Rattle.book.proofs.Decode.{decoded_valid}
use Rattle.collection.specs.Collection.{page_of, good_page}
use Rattle.collection.specs.Built.{Built, Says, In, Lent}
use Rattle.status.specs.declared.standing.Numbers.{Numbers}
use Rattle.status.specs.Numbers.{numbers_of, states_of, standing}
use Rattle.status.specs.Sets.{NumbersAre, StatesAre}
use Rattle.status.proofs.Sets.{numbers_are, states_are}
use Rattle.phone.specs.Packed.{packed_numbers, seeing, packed_frame, number_in, place_in, byte_in}
use Rattle.promises.specs.Collecting.{phone, Shows, Sees}
use Rattle.promises.specs.Demand3.{Left, Apart, Showing}
use Rattle.promises.proofs.Ranges.{frame_range}
use Rattle.promises.proofs.Interfaces.{phone_lawful}
use Rattle.promises.proofs.Demand3.{left_says}
use Rattle.promises.proofs.Links.Phone.{phone_stilt_status_link, phone_stilt_frame_link}

-- ---- the numbers of a collection are bytes, so each is read apart from the others

record Small (m : Numbers) : Type 0 where
  stands : m.stands < 256
  total : m.total < 256
  held : m.held < 256
  missing : m.missing < 256
  disputed : m.disputed < 256

numbers_small : (b : Book) → Valid b → Small (numbers_of b)
unfolding numbers_of
numbers_small empty v = record { stands = omega arith; total = omega arith; held = omega arith; missing = omega arith; disputed = omega arith }
numbers_small (collecting t ss) v =
    let sum = count_three (take t ss) in
    let most : length (take t ss) ≤ 96 = omega (arith, length-take t ss, v.most) in
    record {
      stands = omega arith;
      total = omega (arith, v.most);
      held = omega (arith, sum, most);
      missing = omega (arith, sum, most);
      disputed = omega (arith, sum, most);
    }
numbers_small disagree v = record { stands = omega arith; total = omega arith; held = omega arith; missing = omega arith; disputed = omega arith }

numbers_apart : (m : Numbers) (n : ℕ) → Small m → n ≡ packed_numbers (done m) → Apart n m
numbers_apart m n s e = record {
  number = omega (arith, e, s.stands);
  place = omega (arith, e, s.stands, s.total);
  total = omega (arith, e, s.stands, s.total, s.held, s.missing, s.disputed);
  held = omega (arith, e, s.stands, s.total, s.held, s.missing, s.disputed);
  missing = omega (arith, e, s.stands, s.total, s.held, s.missing, s.disputed);
  disputed = omega (arith, e, s.stands, s.total, s.held, s.missing, s.disputed);
}

-- of a collection, with room for the states
shown : (c out : List ℕ) → ok_book c ≡ true → 96 ≤ length out → standing c out ≡ done (over 0 (states_of (read_book c)) out, numbers_of (read_book c))
unfolding standing
shown c out ok room = rw (judged_done c ok, le-leb 96 (length out) room)

-- ---- a frame that is told of

kind_small : (kind : ℕ) → Kind kind → kind < 256
kind_small kind (inl e) = omega (arith, e)
kind_small kind (inr (inl e)) = omega (arith, e)
kind_small kind (inr (inr e)) = omega (arith, e)

-- 8 bytes that were put in front are read off there
front : (bs out x : List ℕ) → length bs ≡ 8 → 8 ≤ length out → x ≡ over 0 bs out → take 8 x ≡ bs
front bs out x e h z = ap (λ (n : ℕ). take n x) (sym e) ∙ ap (take (length bs)) z ∙ read_over 0 bs out (omega (arith, e, h))

record SeenAs (raw x : List ℕ) (n : ℕ) (f : Frame) (next : ℕ) : Type 0 where
  read : frame_of raw ≡ got f next
  number : number_in n ≡ 0
  place : place_in n ≡ f.index
  total : byte_in 0 n ≡ f.total
  kind : byte_in 1 n ≡ f.kind
  id : take 8 x ≡ id_of raw

module _ (raw out x : List ℕ) (n : ℕ) (y : Bytes raw) (room : 8 ≤ length out) (k : Sees raw out x n) where
  answered : n ≡ packed_frame (answer_of (seeing raw out))
  answered = sym k.4 ∙ (phone_stilt_frame_link k.0).0 ∙ rw (k.1, k.2)

  left : x ≡ bytes_after out (seeing raw out)
  left = sym k.3 ∙ (phone_stilt_frame_link k.0).1 ∙ rw (k.1, k.2)

  -- it was read
  seen : (f : Frame) (next : ℕ) → frame_of raw ≡ got f next → SeenAs raw x n f next
  unfolding seeing
  seen f next e =
      let w = only_layouts raw f next y e in
      let d : seeing raw out ≡ done (over 0 (id_of raw) out, f) = rw (e, le-leb 8 (length out) room) in
      let a : n ≡ packed_frame (done f) = answered ∙ rw d in
      let z : x ≡ over 0 (id_of raw) out = left ∙ rw d in
      let t = w.allowed.pages in
      let i = w.allowed.below in
      let c : f.kind < 256 = kind_small f.kind w.allowed.type in
      record {
        read = e;
        number = omega (arith, a, t, i, c);
        place = omega (arith, a, t, i, c);
        total = omega (arith, a, t, i, c);
        kind = omega (arith, a, t, i, c);
        id = front (id_of raw) out x w.allowed.eight room z;
      }

  -- it was not: the number says so
  unseen : (e place : ℕ) → frame_of raw ≡ refused_at e place → number_in n ≡ 0 → ⊥
  unfolding seeing
  unseen e place h z =
      let d : seeing raw out ≡ refused_at e place = rw h in
      let a : n ≡ packed_frame (refused_at e place) = answered ∙ rw d in
      let r = frame_range raw e place h in
      omega (arith, a, z, r.0, r.1)

  -- a frame with one byte each for INDEX and TOTAL, two for the length, and 480 of data
  longest : (f : Frame) (next : ℕ) → frame_of raw ≡ got f next → length raw ≤ 500
  longest f next e =
      let w = only_layouts raw f next y e in
      let a = w.allowed in
      let d = data_of raw f in
      omega (
        arith,
        a.short,
        ap length w.whole,
        layout_length_short f.kind (id_of raw) f.index f.total d a.eight (omega (arith, a.below, a.pages)) (omega (arith, a.pages)),
        varint_length_two (length d) (omega (arith, a.short)),
      )

  pub told_short : number_in n ≡ 0 → length raw ≤ 500
  told_short z = go (frame_of raw) refl
    where
      go : (a : Got Frame) → frame_of raw ≡ a → length raw ≤ 500
      go (done (f, next)) e = longest f next e
      go (refused_at e place) h = absurd (unseen e place h z)

  -- a good page of the document, and what is told of it
  module _ (id : List ℕ) where
    good : (p : Page) → Says id raw p → (f : Frame) × (next : ℕ) × SeenAs raw x n f next × (f.kind ≡ 0x44) × (id ≡ id_of raw) × (page_of raw f ≡ p)
    unfolding good_page
    good p (m, g) =
        let t = then_passed (frame_of raw) _ g in
        let f = t.0 in
        let c = passed (eqb f.kind 0x44 && same id (id_of raw)) _ 12 t.3 in
        let b = both_hold (eqb f.kind 0x44) (same id (id_of raw)) c.0 in
        (f, t.1, seen f t.1 t.2, eqb-true f.kind 0x44 b.0, same_eq id (id_of raw) b.1, got_value c.1)

    told_ours : (p : Page) → Says id raw p → (number_in n ≡ 0) × (byte_in 1 n ≡ 0x44) × (take 8 x ≡ id)
    told_ours p g = let w = good p g in (w.2.number, w.2.kind ∙ w.3, w.2.id ∙ sym w.4)

    pub told_page : (p : Page) → Says id raw p → (place_in n ≡ p.index) × (byte_in 0 n ≡ p.total)
    told_page p g =
        let w = good p g in
        (w.2.place ∙ ap (λ (q : Page). q.index) w.5, w.2.total ∙ ap (λ (q : Page). q.total) w.5)

    is_ours : (a : Got Frame) → frame_of raw ≡ a → (number_in n ≡ 0) × (byte_in 1 n ≡ 0x44) × (take 8 x ≡ id) → (p : Page) × Says id raw p
    unfolding good_page
    is_ours (done (f, next)) e (z, c, i) =
        let w = seen f next e in
        let main : f.kind ≡ 0x44 = sym w.kind ∙ c in
        let own : same id (id_of raw) ≡ true = rw (sym i ∙ w.id) (same_refl (id_of raw)) in
        (page_of raw f, (next, rw (e, eq-eqb f.kind 0x44 main, own)))
    is_ours (refused_at e place) h (z, c, i) = absurd (unseen e place h z)

    pub seen_ours : ((p : Page) × Says id raw p) ↔ ((number_in n ≡ 0) × (byte_in 1 n ≡ 0x44) × (take 8 x ≡ id))
    seen_ours = ((λ (p, g). told_ours p g), is_ours (frame_of raw) refl)

module _ (id : List ℕ) (eight : length id ≡ 8) where
  status_shows : (h : Built) (c out x : List ℕ) (n : ℕ) → Lent h → Left phone id h c → 96 ≤ length out → Shows c out x n
      → (m : Numbers) × (states : List ℕ) × NumbersAre (In id h) m × StatesAre (In id h) states × Apart n m × (x ≡ over 0 states out)
  status_shows h c out x n l m room (k, i, j, p, q) =
      let s = left_says phone phone_lawful id eight h c l m in
      let b : Book = read_book c in
      let v = decoded_valid c s.0 in
      let w = phone_stilt_status_link k in
      let d = shown c out s.0 room in
      let answer : n ≡ packed_numbers (done (numbers_of b)) = sym q ∙ w.0 ∙ rw (i, j, d) in
      let bytes : x ≡ over 0 (states_of b) out = sym p ∙ w.1 ∙ rw (i, j, d) in
      (numbers_of b, states_of b, numbers_are (In id h) b v s.2, states_are (In id h) b v s.2, numbers_apart (numbers_of b) n (numbers_small b v) answer, bytes)

  pub showing : Showing id
  showing = record {
    status = status_shows;
    ours = λ raw out x n y room k. seen_ours raw out x n y room k id;
    page = λ raw out x n p y room k g. told_page raw out x n y room k id p g;
    short = told_short;
  }
