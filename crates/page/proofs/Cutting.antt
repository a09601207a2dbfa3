-- What a page's answer is, from the tests that the code makes. Assumes nothing.
use Prim.Native.Nat.{ℕ, ◌-◌, ◌*◌, ◌≤◌, ◌<◌, min}
use mathlib.Core.Path.{◌≡◌, refl, sym, ap, ◌∙◌}
use mathlib.Core.Bool.{Bool, true, false, ◌&&◌}
use mathlib.Core.Logic.{⊎_elim}
use mathlib.Core.List.{List}
use native.Mathlib.Nat.{mul-le-mul_right}
use native.Mathlib.Omega.{arith}
use borrow.Author.Tests.{lt-ltb, le-ltb, ltb-true, leb-true}
use lib.Dec.{ltb, leb}
use lib.ListN.{length, take, drop, length-drop}
use lib.Seq.{take_all}
use mir.Syntax.{w64}
use mir.Val.{Fits}
use Rattle.std.specs.Prelude.{Err}
use Rattle.wire.specs.Answer.{choose, Answer, done, refused, Kept}
use Rattle.wire.specs.Writing.{Written, writing}
use Rattle.wire.specs.Refusal.{number as told_number}
use Rattle.wire.specs.declared.Refusal.{Refusal}
use Rattle.wire.specs.declared.Refusal.TheVariants as refusal
use Rattle.wire.proofs.Cases.{lt_or_le, both_hold}
use Rattle.wire.proofs.Writes.{denied}
use Rattle.document_id.specs.Id.{document_id_of}
use Rattle.frame.specs.Layout.{layout}
use Rattle.page.specs.Page.{page_count, page_data, printable, count_of, page_verdict}
use Rattle.page.proofs.Pages.{count_fewest}

printable_facts : (n size : ℕ) → printable n size ≡ true → (0 < n) × (0 < size) × (size ≤ 480)
unfolding printable
printable_facts n size e =
    let a = both_hold (ltb 0 n) (ltb 0 size && leb size 480) e in
    let b = both_hold (ltb 0 size) (leb size 480) a.1 in
    (ltb-true 0 n a.0, ltb-true 0 size b.0, leb-true size 480 b.1)

-- where there are pages, all that was asked for holds
pub counted_facts : (n size k : ℕ) → done k ≡ count_of n size → (0 < n) × (0 < size) × (size ≤ 480) × (k ≡ page_count n size) × (k ≤ 96)
unfolding count_of
counted_facts n size k e = go (printable n size) (leb (page_count n size) 96) refl refl e
  where
    go : (a b : Bool) → printable n size ≡ a → leb (page_count n size) 96 ≡ b → done k ≡ choose a (choose b (done (page_count n size)) (refused 9)) (refused 19)
        → (0 < n) × (0 < size) × (size ≤ 480) × (k ≡ page_count n size) × (k ≤ 96)
    go true true p q h =
        let f = printable_facts n size p in
        let s : k ≡ page_count n size = cc in
        (f.0, f.1, f.2, s, omega (arith, leb-true (page_count n size) 96 q))
    go true false p q h = let z : ◌≡◌ {A = ℕ} 0 1 = cc in absurd (omega arith)
    go false b p q h = let z : ◌≡◌ {A = ℕ} 0 1 = cc in absurd (omega arith)

module _ (c : List ℕ) (size number : ℕ) where
  pub refused_count : (e : ℕ) → refused e ≡ count_of (length c) size → page_verdict c size number ≡ refused e
  unfolding page_verdict
  refused_count e h = rw (← h)

  module _ (n : ℕ) (h : done n ≡ count_of (length c) size) where
    pub no_page : n ≤ number → page_verdict c size number ≡ refused 8
    unfolding page_verdict
    no_page l = rw (← h, le-ltb number n l)

    pub page_is : number < n → page_verdict c size number ≡ done (layout 0x44 (document_id_of c) number n (page_data c size number))
    unfolding page_verdict
    page_is l = rw (← h, lt-ltb number n l)

    -- it starts within the ciphertext
    pub page_start : number < n → (number * size ≤ length c) × (number * size < 46081)
    page_start l =
        let f = counted_facts (length c) size n h in
        let t : number ≤ page_count (length c) size - 1 = omega (arith, f.3) in
        let m : number ≤ 96 = omega (arith, f.4) in (
          omega (arith, mul-le-mul_right size t, count_fewest (length c) size f.1 f.0),
          omega (arith, mul-le-mul_right size m, f.2),
        )

-- the part of the ciphertext from a page's start to its end
pub page_part : (c : List ℕ) (size number k : ℕ) → k ≡ min size (length c - number * size) → take k (drop (number * size) c) ≡ page_data c size number
unfolding page_data
page_part c size number k e = ⊎_elim short full (lt_or_le (length c - number * size) size)
  where
    short : length c - number * size < size → take k (drop (number * size) c) ≡ take size (drop (number * size) c)
    short l =
        let n = length-drop (number * size) c in
        take_all k (drop (number * size) c) (omega arith) ∙ sym (take_all size (drop (number * size) c) (omega arith))

    full : size ≤ length c - number * size → take k (drop (number * size) c) ≡ take size (drop (number * size) c)
    full l =
        let q : k ≡ size = omega arith in
        ap (λ (x : ℕ). take x (drop (number * size) c)) q

-- ---- what is answered

module _ (c : List ℕ) (size number : ℕ) where
  pub none_counted : (e : Refusal) (out : List ℕ) → refused (told_number e) ≡ count_of (length c) size → Written 0 (page_verdict c size number) out out (Err e)
  none_counted e out h = rw (refused_count c size number (told_number e) h) (denied 0 out e)

  module _ (n : ℕ) (counted : done n ≡ count_of (length c) size) where
    pub none_there : (out : List ℕ) → n ≤ number → Written 0 (page_verdict c size number) out out (Err refusal.BadPlace)
    none_there out l = rw (no_page c size number n counted l) (denied 0 out refusal.BadPlace)

    module _ (l : number < n) where
      pub start_fits : Fits w64 (number * size)
      start_fits = record { fits = omega (arith, page_start c size number n counted l) }

      pub start_within : number * size ≤ length c
      start_within = (page_start c size number n counted l).0

      pub page_laid : (k : ℕ) (id out out' : List ℕ) (a : Answer ℕ) → k ≡ min size (length c - number * size) → id ≡ document_id_of c
          → Kept (writing 0 out (done (layout 0x44 id number n (take k (drop (number * size) c))))) out out' a
          → Kept (writing 0 out (page_verdict c size number)) out out' a
      page_laid k id out out' a e i w = rw (page_is c size number n counted l, ← i, ← page_part c size number k e) w
