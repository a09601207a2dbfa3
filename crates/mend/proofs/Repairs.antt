-- What mend leaves and answers is what its rule says of each block. Assumes nothing.
use mathlib.Core.Path.{◌≡◌, refl, sym, ap, ◌∙◌, subst}
use mathlib.Core.Bool.{Bool, true, false, false≢true}
use mathlib.Core.List.{List}
use Prim.Native.Nat.{ℕ, zero, suc}
use native.Mathlib.Omega.{arith}
use lib.ListN.{take}
use Rattle.wire.specs.Answer.{choose, Answer}
use Rattle.model.specs.Complete.{Counted, nothing, has, lacks}
use Rattle.block.specs.Read.{read_slot}
use Rattle.book.specs.Head.{read_head}
use Rattle.book.specs.Read.{page_at, ok_at, ok_book}
use Rattle.mend.specs.Mend.{bad_pages, BadAt, Mends}
use Rattle.mend.proofs.Mending.{bad_more}
use Rattle.mend.proofs.Mends.{mended, repair, unmended, unheaded, mended_count, mended_front, mended_kept, mended_absent, mended_held, mended_ok}

-- the number of bad blocks counts them
bad_counted : (c : List ℕ) (n : ℕ) → Counted (BadAt c) n (bad_pages (read_head c) 0 n c)
unfolding bad_pages
bad_counted c zero = nothing
bad_counted c (suc n) = go (ok_at (read_head c) n (page_at n c)) refl (bad_counted c n)
  where
    go : (w : Bool) → ok_at (read_head c) n (page_at n c) ≡ w → Counted (BadAt c) n (bad_pages (read_head c) 0 n c)
        → Counted (BadAt c) (suc n) (bad_pages (read_head c) 0 (suc n) c)
    go true e i =
        let m = bad_more (read_head c) c 0 n n (omega arith) in
        let z : choose {A = ℕ} (ok_at (read_head c) n (page_at n c)) 0 1 ≡ 0 = rw e in
        subst (Counted (BadAt c) (suc n)) (omega arith) (lacks i (λ f. false≢true (sym f ∙ e)))
    go false e i =
        let m = bad_more (read_head c) c 0 n n (omega arith) in
        let z : choose {A = ℕ} (ok_at (read_head c) n (page_at n c)) 0 1 ≡ 1 = rw e in
        subst (Counted (BadAt c) (suc n)) (omega arith) (has i e)

not_bad : (c : List ℕ) (k : ℕ) → (BadAt c k → ⊥) → ok_at (read_head c) k (page_at k c) ≡ true
not_bad c k n = go (ok_at (read_head c) k (page_at k c)) refl
  where
    go : (w : Bool) → ok_at (read_head c) k (page_at k c) ≡ w → ok_at (read_head c) k (page_at k c) ≡ true
    go true e = e
    go false e = absurd (n e)

pub mend_says : (c x : List ℕ) (a : Answer ℕ) → a ≡ repair c → x ≡ mended c → Mends c x a
mend_says c x a p o = record {
  refuses = λ h. (p ∙ unheaded c h, o ∙ unmended c h);
  counts = λ h. (bad_pages (read_head c) 0 96 c, bad_counted c 96, p ∙ mended_count c h);
  head = λ h. ap (take 512) o ∙ mended_front c h;
  empties = λ h k l b. ap (page_at k) o ∙ mended_absent c h k l b;
  keeps = λ h k l n. ap (page_at k) o ∙ mended_kept c h k l (not_bad c k n);
  leaves = λ h. ap ok_book o ∙ mended_ok c h;
  nothing_new = λ h k d l e.
      let m = mended_held c h k d l (ap (λ (b : List ℕ). read_slot (page_at k b)) (sym o) ∙ e) in
      ((λ f. false≢true (sym f ∙ m.0)), m.1);
}
