-- What both interfaces to a collection keep to: the bytes that the definitions give, finish's
-- answer, and that every call can be made. Assumes nothing.
use mathlib.Core.Path.{◌≡◌, refl, sym, ap, ◌∙◌}
use mathlib.Core.Bool.{true}
use mathlib.Core.List.{List}
use Prim.Native.Nat.{ℕ, ◌/◌, ◌%◌, ◌≤◌, ◌<◌}
use native.Mathlib.Omega.{arith}
use borrow.Author.Tests.{ne_eqb}
use lib.Dec.{eqb}
use lib.ListN.{length}
use Rattle.wire.specs.Answer.{choose, Answer, done, refused_at, Change, bytes_after, answer_of}
use Rattle.wire.proofs.Placeless.{Placeless}
use Rattle.model.specs.Take.{Page}
use Rattle.model.specs.Meaning.{BookIs}
use Rattle.book.specs.Read.{read_book, ok_book}
use Rattle.collection.specs.Collection.{opening, offering, joining}
use Rattle.collection.specs.Answer as answers
use Rattle.collection.proofs.Placeless.{open_placeless, join_placeless}
use Rattle.finish.specs.Finish.{finished, delivering, finishing}
use Rattle.wire.specs.Reading.{told_at}
use Rattle.promises.proofs.Offered.{offer_answer}
use Rattle.promises.proofs.Answered.{can_change, can_tell_at, kept_named, finishing_named}
use Rattle.finish.proofs.Demand.{finish_bytes}
use Rattle.phone.specs.Packed.{packed, packed_answer, packed_kind, packed_finish, finish_in}
use Rattle.collection.proofs.open as collection-open
use Rattle.collection.proofs.offer as collection-offer
use Rattle.collection.proofs.join as collection-join
use Rattle.finish.proofs.finish as finish-finish
use Rattle.phone.proofs.stilt_open as phone-stilt-open
use Rattle.phone.proofs.stilt_offer as phone-stilt-offer
use Rattle.phone.proofs.stilt_join as phone-stilt-join
use Rattle.phone.proofs.stilt_finish as phone-stilt-finish
use Rattle.promises.specs.Collecting.{Interface, library, phone}
use Rattle.promises.proofs.Writers.{second_lent, first_lent}
use Rattle.promises.proofs.Links.Finish.{finish_finish_link}
use Rattle.promises.proofs.Links.Collection.{collection_join_link, collection_offer_link, collection_open_link}
use Rattle.promises.proofs.Links.Phone.{phone_stilt_finish_link, phone_stilt_join_link, phone_stilt_offer_link, phone_stilt_open_link}

pub record Lawful (f : Interface) : Type 1 where
  pub opens : (id c x : List ℕ) → f.Opens id c x → x ≡ bytes_after c (opening id c)
  pub offers : (c raw x : List ℕ) → f.Offers c raw x → x ≡ bytes_after c (offering c raw)
  pub joins : (c o x : List ℕ) → f.Joins c o x → x ≡ bytes_after c (joining c o)
  -- finish's output is fixed for any bytes; its answer is told of a collection that is the meaning
  -- of a set
  pub finishes : (S : Page → Type 0) (c out x : List ℕ) (a : Answer ℕ) → ok_book c ≡ true → BookIs S (read_book c) → f.Finishes c out x a
      → (a ≡ answer_of (finishing c out)) × (x ≡ bytes_after out (finishing c out))
  pub can_open : (id c : List ℕ) → (x : List ℕ) × f.Opens id c x
  pub can_offer : (c raw : List ℕ) → (x : List ℕ) × f.Offers c raw x
  pub can_join : (c o : List ℕ) → (x : List ℕ) × f.Joins c o x
  pub can_finish : (c out : List ℕ) → (x : List ℕ) × (a : Answer ℕ) × f.Finishes c out x a

-- ---- the libraries

pub library_lawful : Lawful library
library_lawful = record {
  opens = λ id c x (k, i, j, l). sym l ∙ (collection_open_link k).bytes ∙ rw (i, j);
  offers = λ c raw x (k, i, j, l). sym l ∙ (collection_offer_link k).bytes ∙ rw (i, j);
  joins = λ c o x (k, i, j, l). sym l ∙ (collection_join_link k).bytes ∙ rw (i, j);
  finishes = λ S c out x a ok m (k, i, j, l, e).
      let w = finish_finish_link k in
      (sym e ∙ w.answer ∙ rw (i, j), sym l ∙ w.bytes ∙ rw (i, j));
  can_open = λ id c.
      let r = can_change (opening id c) (open_placeless id c) in
      let x : List ℕ = bytes_after c (opening id c) in
      (x, (second_lent collection-open.Kinds.r collection-open.Reads.Learnt id c x r.0 (record { answer = r.1; bytes = refl }), refl, refl, refl));
  can_offer = λ c raw.
      let r = offer_answer c raw in
      let x : List ℕ = bytes_after c (offering c raw) in
      (x, (first_lent collection-offer.Kinds.r collection-offer.Reads.Learnt c raw x r.0 (record { answer = r.1; bytes = refl }), refl, refl, refl));
  can_join = λ c o.
      let r = can_change (joining c o) (join_placeless c o) in
      let x : List ℕ = bytes_after c (joining c o) in
      (x, (first_lent collection-join.Kinds.r collection-join.Reads.Learnt c o x r.0 (record { answer = r.1; bytes = refl }), refl, refl, refl));
  can_finish = λ c out.
      let r = can_tell_at (answer_of (finishing c out)) (kept_named (finishing c out) (finishing_named c out)) in
      let x : List ℕ = bytes_after out (finishing c out) in
      (x, told_at r.0, (second_lent finish-finish.Kinds.r finish-finish.Reads.Learnt c out x r.0 (record { answer = r.1; bytes = refl }), refl, refl, refl, refl));
}

-- ---- the functions for C

-- a number that is made of three is read apart as these
apart : (m a b c : ℕ) → m % 256 ≡ a → m / 256 % 256 ≡ b → m / 65536 ≡ c → finish_in m ≡ choose (eqb a 0) (done c) (refused_at a b)
apart m a b c p q r = rw (p, q, r)

finish_apart : (out : List ℕ) (v : Answer (List ℕ)) → ((n k : ℕ) → v ≡ refused_at n k → (1 ≤ n) × (n < 256) × (k < 256))
    → finish_in (packed_finish (answer_of (delivering out v))) ≡ answer_of (delivering out v)
finish_apart out (done d) h = apart (packed 0 0 (length d)) 0 0 (length d) (omega arith) (omega arith) (omega arith)
finish_apart out (refused_at n k) h =
    let b = h n k refl in
    apart (packed n k 0) n k 0 (omega arith) (omega arith) (omega arith) ∙ rw (ne_eqb n 0 (λ e. omega (arith, e)))

pub phone_lawful : Lawful phone
phone_lawful = record {
  opens = λ id c x (k, i, j, l). sym l ∙ (phone_stilt_open_link k).1 ∙ rw (i, j);
  offers = λ c raw x (k, i, j, l). sym l ∙ (phone_stilt_offer_link k).1 ∙ rw (i, j);
  joins = λ c o x (k, i, j, l). sym l ∙ (phone_stilt_join_link k).1 ∙ rw (i, j);
  finishes = λ S c out x a ok m (k, i, j, l, e).
      let w = phone_stilt_finish_link k in
      let n : k.answer ≡ packed_finish (answer_of (finishing c out)) = w.0 ∙ rw (i, j) in
      (sym e ∙ ap finish_in n ∙ finish_apart out (finished c out) (finish_bytes S c out ok m), sym l ∙ w.1 ∙ rw (i, j));
  can_open = λ id c.
      let x : List ℕ = bytes_after c (opening id c) in
      (x, (second_lent phone-stilt-open.Kinds.r phone-stilt-open.Reads.Learnt id c x (packed_answer (answer_of (opening id c))) (refl, refl), refl, refl, refl));
  can_offer = λ c raw.
      let x : List ℕ = bytes_after c (offering c raw) in
      (x, (first_lent phone-stilt-offer.Kinds.r phone-stilt-offer.Reads.Learnt c raw x (packed_kind (answer_of (offering c raw))) (refl, refl), refl, refl, refl));
  can_join = λ c o.
      let x : List ℕ = bytes_after c (joining c o) in
      (x, (first_lent phone-stilt-join.Kinds.r phone-stilt-join.Reads.Learnt c o x (packed_answer (answer_of (joining c o))) (refl, refl), refl, refl, refl));
  can_finish = λ c out.
      let x : List ℕ = bytes_after out (finishing c out) in
      let n : ℕ = packed_finish (answer_of (finishing c out)) in
      (x, finish_in n, (second_lent phone-stilt-finish.Kinds.r phone-stilt-finish.Reads.Learnt c out x n (refl, refl), refl, refl, refl, refl));
}
