-- Where a collection stands as numbers, by the counts and the writes that the code makes.
-- Assumes nothing.
use mathlib.Core.Path.{◌≡◌, refl, sym, ap, ◌∙◌}
use mathlib.Core.Bool.{true}
use mathlib.Core.List.{List, [], ◌∷◌, ◌++◌, map}
use Prim.Native.Nat.{ℕ, zero, suc, ◌+◌, ◌*◌, ◌≤◌, ◌<◌}
use native.Mathlib.Numerals.{add-one}
use native.Mathlib.Omega.{arith}
use Rattle.std.specs.Prelude.{Result}
use borrow.Author.Tests.{le-leb, lt-leb, eqb-true}
use lib.ListN.{length, take, get_or, length-map, get_or-map}
use lib.Seq.{take-suc, take_all, length-take-le}
use Rattle.wire.specs.Over.{over}
use Rattle.wire.specs.Answer.{done, refused, number_of, Kept}
use Rattle.wire.specs.Reading.{told}
use Rattle.wire.specs.Refusal.{number}
use Rattle.wire.specs.declared.Refusal.{Refusal}
use Rattle.wire.proofs.Answers as answers
use Rattle.wire.proofs.Overs.{over_none, over_append, length_over}
use Rattle.model.specs.Book.{Slot, absent}
use Rattle.model.specs.Finish.{is_absent, is_held, is_disputed, count}
use Rattle.block.specs.Block.{state_of}
use Rattle.block.specs.Read.{block_at, read_slot}
use Rattle.book.specs.Head.{read_head, ok_total}
use Rattle.book.specs.Read.{read_pages, read_book, book_in}
use Rattle.book.specs.Tally.{in_state}
use Rattle.book.proofs.Judging.{judged_done, judge_passed, judge_err}
use Rattle.book.proofs.Decode.{ok_state, ok_head_lem, head_allowed, total_range, decoded_slots, book_0, book_1, book_2, length_read, read_block}
use Rattle.book.proofs.Below.{in_absent, in_held, in_disputed, count_as, take_read}
use Rattle.status.specs.declared.standing.Numbers.{Numbers}
use Rattle.status.specs.Numbers.{below, uncounted, numbers_of, states_of, standing}

-- what is answered is no more than a number or a refusal
pub told_injective : (r q : Result Numbers Refusal) → told r ≡ told q → r ≡ q
told_injective = answers.told_injective

-- by the counts that the code took
pub counts_are : (t h m d i j k : ℕ) (ss : List Slot) → i ≡ 1 → h ≡ count (in_state i) ss → j ≡ 0 → m ≡ count (in_state j) ss → k ≡ 2 → d ≡ count (in_state k) ss
    → record { stands = 0; total = t; held = h; missing = m; disputed = d } ≡ below t ss
counts_are t h m d i j k ss ei eh ej em ek ed =
    let a : h ≡ count is_held ss = eh ∙ rw ei refl ∙ count_as (in_state 1) is_held in_held ss in
    let b : m ≡ count is_absent ss = em ∙ rw ej refl ∙ count_as (in_state 0) is_absent in_absent ss in
    let e : d ≡ count is_disputed ss = ed ∙ rw ek refl ∙ count_as (in_state 2) is_disputed in_disputed ss in
    rw (a, b, e)

-- ---- the states, one page after another

abbrev states : List ℕ → List ℕ
states c = map state_of (read_pages 0 96 c)

states_length : (c : List ℕ) → length (states c) ≡ 96
states_length c = length-map (read_pages 0 96 c) state_of ∙ length_read 0 96 c

-- those of the first k pages stand in front of x
pub record Shown (c l : List ℕ) (x : List ℕ) (k : ℕ) : Type 0 where
  pub most : k ≤ 96
  pub size : length x ≡ length l
  pub stands : x ≡ over 0 (take k (states c)) l

module _ (c l : List ℕ) where
  pub shown_none : Shown c l l 0
  shown_none = record { most = omega arith; size = refl; stands = sym (over_none 0 l) }

  pub shown_on : (x y : List ℕ) (k i p s n : ℕ) → 96 ≤ length l → k < 96 → p ≡ 512 + 512 * k → i ≡ k → s ≡ n → n ≡ state_of (read_slot (block_at p c)) → y ≡ over i (s ∷ []) x
      → Shown c l x k → Shown c l y (k + 1)
  unfolding state_of
  shown_on x y k i p s n room h place ei en e v g =
      let w : y ≡ over k (s ∷ []) x = v ∙ rw ei refl in
      let here : s ≡ get_or (states c) k 0 =
      en ∙ e ∙ rw (place, ← read_block c k h) (sym (get_or-map state_of (read_pages 0 96 c) k absent)) in
      let more : take (k + 1) (states c) ≡ take k (states c) ++ (s ∷ []) = rw (add-one k, here) (take-suc (states c) k 0 (omega (arith, states_length c))) in
      let long : length (take k (states c)) ≡ k = length-take-le k (states c) (omega (arith, states_length c)) in
      record {
        most = omega arith;
        size = ap length w ∙ length_over k (s ∷ []) x ∙ g.size;
        stands = w
            ∙ ap (over k (s ∷ [])) g.stands
            ∙ over_append 0 (take k (states c)) (s ∷ []) l k (omega (arith, long)) (omega arith)
            ∙ ap (λ (bs : List ℕ). over 0 bs l) (sym more);
      }

  pub shown_all : (x : List ℕ) (k : ℕ) → 96 ≤ k → Shown c l x k → x ≡ over 0 (states c) l
  shown_all x k h g = g.stands ∙ rw (take_all k (states c) (omega (arith, states_length c)))

-- ---- the whole, by what the judge answered

module _ (c out : List ℕ) where
  pub standing_refused : (r : Refusal) → number r ≡ number_of (book_in c) → Kept (standing c out) out out (refused (number r))
  unfolding standing
  standing_refused r e = rw (judge_err c (number r) e r refl) (record { answer = refl; bytes = refl })

  module _ (e : 0 ≡ number_of (book_in c)) where
    pub standing_short : length out < 96 → Kept (standing c out) out out (refused 11)
    unfolding standing
    standing_short h = rw (judged_done c (judge_passed c 0 e refl), lt-leb 96 (length out) h) (record { answer = refl; bytes = refl })

    said : (x : List ℕ) (r : Numbers) → 96 ≤ length out → x ≡ over 0 (states c) out → r ≡ numbers_of (read_book c) → Kept (standing c out) out x (done r)
    unfolding standing states_of
    said x r room w q =
        rw (judged_done c (judge_passed c 0 e refl), le-leb 96 (length out) room, decoded_slots c (judge_passed c 0 e refl))
        (record { answer = ap done q; bytes = w })

    -- t and s are the total and the state of the head
    module _ (x : List ℕ) (r : Numbers) (t s : ℕ) (room : 96 ≤ length out) (w : x ≡ over 0 (states c) out)
        (q : r ≡ below t (read_pages 0 t c)) (et : t ≡ (read_head c).total) (es : s ≡ (read_head c).state) where
      allowed : ok_total s t ≡ true
      allowed = rw (es, et) (head_allowed c (ok_head_lem c (judge_passed c 0 e refl)))

      pub standing_disagree : s ≡ 2 → Kept (standing c out) out x (done (record { stands = 3; total = r.total; held = r.held; missing = r.missing; disputed = r.disputed }))
      unfolding numbers_of ok_total count read_pages
      standing_disagree f =
          let none : t ≡ 0 = eqb-true t 0 (rw f at allowed) in
          let q₀ : r ≡ uncounted 0 = rw none at q in
          said x _ room w (rw (q₀, book_2 c (sym es ∙ f)))

      empty_below : s ≡ 0 → r ≡ numbers_of (read_book c)
      unfolding numbers_of ok_total count read_pages
      empty_below f =
          let none : t ≡ 0 = eqb-true t 0 (rw f at allowed) in
          let q₀ : r ≡ uncounted 0 = rw none at q in
          q₀ ∙ rw (book_0 c (sym es ∙ f))

      pages_below : s ≡ 1 → r ≡ numbers_of (read_book c)
      unfolding numbers_of
      pages_below f =
          let low = total_range t (rw f at allowed) in
          q ∙ rw (book_1 c (sym es ∙ f), ← et, take_read 0 96 t c low.1)

      pub standing_said : (s ≡ 2 → ⊥) → Kept (standing c out) out x (done r)
      standing_said f = said x r room w (go s refl)
        where
          go : (k : ℕ) → s ≡ k → r ≡ numbers_of (read_book c)
          go zero g = empty_below g
          go (suc zero) g = pages_below g
          go (suc (suc k)) g = absurd (f (omega (arith, g, es, ok_state c (judge_passed c 0 e refl))))
