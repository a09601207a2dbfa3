-- A secret that was split comes back from enough slips, and from fewer nothing does.
-- Assumes nothing.
use Prim.Native.Nat.{ℕ, zero, suc, ◌+◌, ◌-◌, ◌*◌, ◌<◌}
use mathlib.Core.Path.{◌≡◌, refl, sym, ap, ap₂, ◌∙◌, subst}
use mathlib.Core.List.{List, ◌++◌, append_assoc}
use native.Mathlib.Nat.{le_of_suc-le-suc, not-suc-le-zero, zero-mul, suc-mul, add-zero, add_comm}
use native.Mathlib.Omega.{arith}
use lib.ListN.{length, take, drop}
use lib.Seq.{take_at, drop_at, drop-drop}
use lib.Dec.{leb, eqb}
use mathlib.Core.Bool.{◌&&◌}
use Rattle.wire.specs.Answer.{Answer, done, refused, then, Kept}
use Rattle.wire.specs.Sizes.{most_share}
use Rattle.wire.proofs.Cases.{passed, done_value}
use Rattle.wire.specs.Writing.{writing}
use Rattle.wire.proofs.Writes.{done_stood, kept_fits}
use Rattle.split.specs.Split.{blocks_in, share_of, shares_from, shares_of, quorum_allowed, split_verdict}
use Rattle.split.proofs.Sharing.{length_share}
use Rattle.recover.specs.Recover.{Slip, read_slips, combined, recovered}
use Rattle.recover.proofs.Verdicts.{over_front_of}
use Rattle.recover.proofs.Back.{secret_back}
use Rattle.recover.proofs.Changed.{changed_byte_told}
use Rattle.recover.proofs.Secrecy.{any_secret, one_choice}
use Rattle.promises.specs.Secrets.{SplitCall, RecoverCall, Secrets}
use Rattle.promises.proofs.Links.Secrets.{split_split_link, recover_recover_link}

-- ---- shares by their numbers

share_at : (c i n more : ℕ) (secret cs rest : List ℕ) (j : ℕ) → j < c
    → take (n * 16) (drop (j * (n * 16)) (shares_from c i n more secret cs ++ rest)) ≡ share_of n more secret cs (i + j)
unfolding shares_from
share_at zero i n more secret cs rest j h = absurd (not-suc-le-zero h)
share_at (suc c) i n more secret cs rest zero h =
    let S = share_of n more secret cs i in
    let T = shares_from c (suc i) n more secret cs in
    ap (λ (k : ℕ). take (n * 16) (drop k ((S ++ T) ++ rest))) (zero-mul (n * 16))
    ∙ ap (take (n * 16)) (append_assoc S T rest)
    ∙ take_at S (T ++ rest) (n * 16) (length_share n more secret cs i)
    ∙ ap (share_of n more secret cs) (sym (add-zero i))
share_at (suc c) i n more secret cs rest (suc j) h =
    let S = share_of n more secret cs i in
    let T = shares_from c (suc i) n more secret cs in
    ap₂ (λ (k : ℕ) (l : List ℕ). take (n * 16) (drop k l)) (suc-mul j (n * 16) ∙ add_comm (j * (n * 16)) (n * 16)) (append_assoc S T rest)
    ∙ ap (take (n * 16)) (sym (drop-drop (j * (n * 16)) (n * 16) (S ++ (T ++ rest))) ∙ ap (drop (j * (n * 16))) (drop_at S (T ++ rest) (n * 16) (length_share n more secret cs i)))
    ∙ share_at c (suc i) n more secret cs rest j (le_of_suc-le-suc h)
    ∙ ap (share_of n more secret cs) (let e : suc i + j ≡ i + suc j = omega arith in e)

verdict_shares : (secret : List ℕ) (t n : ℕ) (cs w : List ℕ) → split_verdict secret t n cs ≡ done w → shares_of secret t n cs ≡ w
unfolding split_verdict
verdict_shares secret t n cs w e =
    let a = passed (quorum_allowed t n) _ 19 e in
    let b = passed (leb 1 (length secret) && leb (length secret) most_share) _ 19 a.1 in
    let c = passed (eqb (length cs) (blocks_in (length secret) * ((t - 1) * 16))) _ 19 b.1 in
    done_value c.1

-- ---- what a call says

split_said : (secret : List ℕ) (t n : ℕ) (cs lent shares : List ℕ) (a : Answer ℕ) → SplitCall secret t n cs lent shares a → Kept (writing 0 lent (split_verdict secret t n cs)) lent shares a
split_said secret t n cs lent shares a (k, e₀, e₁, e₂, e₃, e₄, e₅, e₆) = rw (sym e₀, sym e₁, sym e₂, sym e₃, sym e₄, sym e₅, sym e₆) (split_split_link k)

recover_said : (payloads : List (List ℕ)) (out x : List ℕ) (a : Answer ℕ) → RecoverCall payloads out x a → Kept (writing 0 out (recovered payloads)) out x a
recover_said payloads out x a (k, e₀, e₁, e₂, e₃) = rw (sym e₀, sym e₁, sym e₂, sym e₃) (recover_recover_link k)

split_verdict_lem : (secret : List ℕ) (t n : ℕ) (cs lent shares : List ℕ) (m : ℕ) → SplitCall secret t n cs lent shares (done m) → split_verdict secret t n cs ≡ done (shares_of secret t n cs)
split_verdict_lem secret t n cs lent shares m c =
    let s = done_stood 0 (split_verdict secret t n cs) lent shares m (split_said secret t n cs lent shares (done m) c) in
    s.meant ∙ ap done (sym (verdict_shares secret t n cs s.what s.meant))

all_written : (secret : List ℕ) (t n : ℕ) (cs lent shares : List ℕ) (m : ℕ) → SplitCall secret t n cs lent shares (done m)
    → (i : ℕ) → i < n → take (blocks_in (length secret) * 16) (drop (i * (blocks_in (length secret) * 16)) shares) ≡ share_of (blocks_in (length secret)) (t - 1) secret cs (1 + i)
all_written secret t n cs lent shares m c i h =
    let s = done_stood 0 (split_verdict secret t n cs) lent shares m (split_said secret t n cs lent shares (done m) c) in
    ap (λ (l : List ℕ). take (blocks_in (length secret) * 16) (drop (i * (blocks_in (length secret) * 16)) l))
    (s.stands ∙ over_front_of s.what lent (omega (arith, s.fits, s.count))
    ∙ ap (λ (w : List ℕ). w ++ drop (length s.what) lent) (sym (verdict_shares secret t n cs s.what s.meant)))
    ∙ share_at n 1 (blocks_in (length secret)) (t - 1) secret cs (drop (length s.what) lent) i h

recovered_read : (payloads : List (List ℕ)) (vs : List Slip) → read_slips payloads ≡ done vs → recovered payloads ≡ combined vs
unfolding recovered
recovered_read payloads vs e = ap (λ (a : Answer (List Slip)). then a combined) e

unwritten : (e : ℕ) (out x : List ℕ) (a : Answer ℕ) → Kept (writing 0 out (refused e)) out x a → (a ≡ refused e) × (x ≡ out)
unfolding writing
unwritten e out x a w = (w.answer, w.bytes)

pub secrets : Secrets
secrets =
    record {
      written = all_written;
      back =
          λ kind hash key secret t n cs lent shares m vs s h payloads e out x a l c.
          kept_fits 0 secret out x (omega arith)
          (subst (λ (v : Answer (List ℕ)). Kept (writing 0 out v) out x a)
          (recovered_read payloads vs e
          ∙ secret_back kind hash key secret t n cs _ vs s.secret_bytes s.coefficients_bytes (split_verdict_lem secret t n cs lent shares m s.split) s.slips h s.once)
          (recover_said payloads out x a c));
      changed =
          λ kind hash key secret t n cs lent shares m before v after s h j b k l d payloads e out x a c.
          unwritten 29 out x a
          (subst (λ (w : Answer (List ℕ)). Kept (writing 0 out w) out x a)
          (recovered_read payloads _ e
          ∙ changed_byte_told kind hash key secret t n cs _ before v after j b s.secret_bytes s.coefficients_bytes
          (split_verdict_lem secret t n cs lent shares m s.split) s.slips h s.once k l d)
          (recover_said payloads out x a c));
      hidden =
          λ secret given y g d.
          let c = any_secret secret (suc (length given)) given y refl g d in
          (c.0, c.1, λ ds f. one_choice secret (suc (length given)) given y refl g d c.0 ds c.1 f);
    }
