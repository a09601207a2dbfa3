-- What finish answers, by the tests that the code makes. Assumes nothing.
use mathlib.Core.Path.{◌≡◌, refl, sym, ap, ◌∙◌}
use mathlib.Core.List.{List}
use Prim.Native.Nat.{ℕ, ◌≤◌, ◌<◌}
use Rattle.std.specs.Prelude.{Result, Err}
use Rattle.std.specs.Result.{IsErr, IsErrAnd}
use Rattle.std.proofs.lemmas.Result.{err_from_is_err_and}
use native.Mathlib.Omega.{arith}
use lib.ListN.{length}
use Rattle.wire.specs.Answer.{Answer, done, refused_at, number_of}
use Rattle.wire.specs.Refusal.{number, Placeless}
use Rattle.wire.specs.declared.Refusal.{Refusal}
use Rattle.wire.specs.declared.Refusal.TheVariants as refusal
use Rattle.wire.specs.declared.RefusedAt.{RefusedAt}
use Rattle.model.specs.Book.{Slot, Book, empty, collecting, disagree}
use Rattle.model.specs.Finish.{is_absent, is_disputed, lowest, joined, finish_pages, finish_book}
use Rattle.model.proofs.Finished.{pages_disputed, pages_missing, pages_held}
use Rattle.book.specs.Head.{read_head}
use Rattle.book.specs.Read.{id_of, read_pages, read_book, book_in}
use Rattle.book.specs.Tally.{in_state}
use Rattle.book.proofs.Judging.{judged_done, judge_passed, judge_err}
use Rattle.book.proofs.Decode.{length_read, ok_head_lem, ok_state, head_allowed, total_range, book_0, book_1, book_2}
use Rattle.book.proofs.Below.{in_absent, in_disputed, lowest_as, take_read}
use Rattle.finish.specs.Finish.{collected, vouched, finished, Closed}

-- a promise for what is the same
pub closed_as : (v w : Answer (List ℕ)) (out out' : List ℕ) (r : Result ℕ RefusedAt) → v ≡ w → Closed w out out' r → Closed v out out' r
closed_as v w out out' r e k = rw e k

-- a refusal changes nothing
denied : (v : Answer (List ℕ)) (out : List ℕ) (e : RefusedAt) → v ≡ refused_at (number e.why) e.place → Closed v out out (Err e)
denied v out e q = rw q (record { answer = refl; bytes = refl })

-- the same of one without a place
bare : (v : Answer (List ℕ)) (out : List ℕ) (w : Refusal) (e : RefusedAt) → Placeless w e → v ≡ refused_at (number w) 0 → Closed v out out (Err e)
bare v out w e (p, k) q = denied v out e (rw (p, k) q)

-- ---- the pages below the total t: k is the lowest that is disputed, and j the lowest that is
-- missing

module _ (c out : List ℕ) (t k : ℕ) (i : ℕ) (two : i ≡ 2) (a : k ≡ lowest (in_state i) (read_pages 0 t c)) where
  abbrev Ended : List ℕ → Result ℕ RefusedAt → Type 0
  Ended out' r = Closed (vouched (id_of c) out (finish_pages (read_pages 0 t c))) out out' r

  ss : List Slot
  ss = read_pages 0 t c

  ended : (v : Answer (List ℕ)) (out' : List ℕ) (r : Result ℕ RefusedAt) → finish_pages ss ≡ v → Closed (vouched (id_of c) out v) out out' r → Ended out' r
  unfolding ss
  ended v out' r e p = rw e p

  lowest_two : k ≡ lowest is_disputed ss
  unfolding ss
  lowest_two = a ∙ rw two refl ∙ lowest_as (in_state 2) is_disputed in_disputed (read_pages 0 t c)

  many : length ss ≡ t
  unfolding ss
  many = length_read 0 t c

  pub page_disputed : k < t → Ended out (Err (record { why = refusal.PageDisputed; place = k }))
  page_disputed h =
      ended (refused_at 15 k) out (Err (record { why = refusal.PageDisputed; place = k })) (pages_disputed ss (omega (arith, lowest_two, many)) ∙ ap (refused_at 15) (sym lowest_two))
      (denied (refused_at 15 k) out (record { why = refusal.PageDisputed; place = k }) refl)

  module _ (none : t ≤ k) (j m : ℕ) (zero : m ≡ 0) (b : j ≡ lowest (in_state m) (read_pages 0 t c)) where
    lowest_none : j ≡ lowest is_absent ss
    unfolding ss
    lowest_none = b ∙ rw zero refl ∙ lowest_as (in_state 0) is_absent in_absent (read_pages 0 t c)

    pub page_missing : j < t → Ended out (Err (record { why = refusal.PageMissing; place = j }))
    page_missing h =
        ended (refused_at 16 j) out (Err (record { why = refusal.PageMissing; place = j }))
        (pages_missing ss (omega (arith, lowest_two, many)) (omega (arith, lowest_none, many)) ∙ ap (refused_at 16) (sym lowest_none))
        (denied (refused_at 16 j) out (record { why = refusal.PageMissing; place = j }) refl)

    pub all_there : t ≤ j → (out' : List ℕ) (r : Result ℕ RefusedAt) → Closed (vouched (id_of c) out (done (joined (read_pages 0 t c)))) out out' r → Ended out' r
    unfolding ss
    all_there h out' r p = ended (done (joined ss)) out' r (pages_held ss (omega (arith, lowest_two, many)) (omega (arith, lowest_none, many))) p

-- ---- the collection itself

module _ (c out : List ℕ) where
  answered : (x : Answer (List ℕ)) → collected c ≡ x → finished c out ≡ vouched (id_of c) out x
  unfolding finished
  answered x e = rw e

  -- what `?` makes of it
  pub bad_collection : (r : Result ℕ RefusedAt) (w : Refusal) → number w ≡ number_of (book_in c) → IsErr r × IsErrAnd r (Placeless w) → Closed (finished c out) out out r
  unfolding collected
  bad_collection r w e (h, k) =
      let p = err_from_is_err_and r k in
      rw p.1 (bare (finished c out) out w p.0 p.2 (answered (refused_at (number w) 0) (rw (judge_err c (number w) e w refl))))

  -- s is the state of a head that passed
  module _ (e : 0 ≡ number_of (book_in c)) (s : ℕ) (es : s ≡ (read_head c).state) where
    said : (b : Book) → read_book c ≡ b → collected c ≡ finish_book b
    unfolding collected
    said b h = rw (judged_done c (judge_passed c 0 e refl), h)

    pub none_yet : (r : RefusedAt) → s ≡ 0 → Placeless refusal.PageMissing r → Closed (finished c out) out out (Err r)
    unfolding finish_book
    none_yet r f p = bare (finished c out) out refusal.PageMissing r p (answered (refused_at 16 0) (said empty (book_0 c (sym es ∙ f))))

    pub totals_disagree : (r : RefusedAt) → (s ≡ 0 → ⊥) → (s ≡ 1 → ⊥) → Placeless refusal.TotalsDisagree r → Closed (finished c out) out out (Err r)
    unfolding finish_book
    totals_disagree r f g p =
        let two : (read_head c).state ≡ 2 = omega (arith, ok_state c (judge_passed c 0 e refl)) in
        bare (finished c out) out refusal.TotalsDisagree r p (answered (refused_at 14 0) (said disagree (book_2 c two)))

    -- collecting: t is the total
    module _ (f : s ≡ 1) (t : ℕ) (et : t ≡ (read_head c).total) where
      pub most_total : t ≤ 96
      most_total = rw et (total_range (read_head c).total (rw (sym es ∙ f) at (head_allowed c (ok_head_lem c (judge_passed c 0 e refl))))).1

      pub has_pages : (out' : List ℕ) (r : Result ℕ RefusedAt) → Closed (vouched (id_of c) out (finish_pages (read_pages 0 t c))) out out' r → Closed (finished c out) out out' r
      unfolding finish_book
      has_pages out' r p =
          let b : read_book c ≡ collecting t (read_pages 0 96 c) = rw et (book_1 c (sym es ∙ f)) in
          closed_as (finished c out) (vouched (id_of c) out (finish_pages (read_pages 0 t c))) out out' r
          (answered (finish_pages (read_pages 0 t c)) (said (collecting t (read_pages 0 96 c)) b ∙ ap finish_pages (take_read 0 96 t c most_total)))
          p
