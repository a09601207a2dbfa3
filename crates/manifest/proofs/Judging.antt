-- Which files may be written, and what the loop of `judge::list` goes by. Assumes nothing.
use Prim.Native.Nat.{ℕ, ◌+◌, ◌*◌, ◌<◌, ◌≤◌}
use mathlib.Core.Path.{◌≡◌, refl, sym, ap, ap₂, ◌∙◌}
use mathlib.Core.List.{List, [], ◌∷◌, ◌++◌, append_assoc, append-nil, map}
use native.Mathlib.Numerals.{add-one}
use native.Mathlib.Omega.{arith}
use lib.ListN.{length, take, drop, get_or, length-append, length-take, drop_of_length-le}
use lib.Seq.{drop-cons}
use mir.Syntax.{w64}
use mir.Val.{Fits}
use Rattle.wire.specs.Answer.{Answer, done, refused_at, then}
use Rattle.wire.specs.Writing.{outcome}
use Rattle.wire.proofs.Cases.{done_value, then_done}
use Rattle.wire.specs.declared.Span.{Span}
use Rattle.wire.specs.Span.{part_at}
use Rattle.entry.specs.Writing.{entry_in, file_of, file_verdict}
use Rattle.entry.specs.declared.File.{File}
use Rattle.entry.proofs.Writers.{Good, verdict_good, good_verdict, good_length, outcome_done, outcome_refused}
use Rattle.manifest.specs.Writing.{entries_of, files_verdict}

-- ---- the files that may be written

-- each is good after the one before it
abbrev pub AllGood : List ℕ → List ℕ → List File → Type 0
AllGood pool prev [] = Unit
AllGood pool prev (f ∷ fs) = Good pool prev f × AllGood pool (part_at pool f.path) fs

pub files_good : (pool prev : List ℕ) (fs : List File) {bs : List ℕ} → files_verdict pool prev fs ≡ done bs → AllGood pool prev fs × (bs ≡ entries_of (map (entry_in pool) fs))
unfolding files_verdict entries_of file_of
files_good pool prev [] h = (tt, sym (done_value h))
files_good pool prev (f ∷ fs) h =
    let a = then_done (file_verdict pool prev f) _ h in
    let b = then_done (files_verdict pool (part_at pool f.path) fs) _ a.2 in
    let g = verdict_good pool prev f a.1 in
    let r = files_good pool (part_at pool f.path) fs b.1 in
    ((g.0, r.0), sym (done_value b.2) ∙ ap₂ (λ (x y : List ℕ). x ++ y) g.1 r.1)

pub good_files : (pool prev : List ℕ) (fs : List File) → AllGood pool prev fs → files_verdict pool prev fs ≡ done (entries_of (map (entry_in pool) fs))
unfolding files_verdict entries_of file_of
good_files pool prev [] g = refl
good_files pool prev (f ∷ fs) g = rw (good_verdict pool prev f g.0, good_files pool (part_at pool f.path) fs g.1)

pub files_most : (pool prev : List ℕ) (fs : List File) {bs : List ℕ} → files_verdict pool prev fs ≡ done bs → length bs ≤ 300 * length fs
unfolding files_verdict
files_most pool prev [] h = omega (arith, ap length (done_value h))
files_most pool prev (f ∷ fs) h =
    let a = then_done (file_verdict pool prev f) _ h in
    let b = then_done (files_verdict pool (part_at pool f.path) fs) _ a.2 in
    let g = verdict_good pool prev f a.1 in
    let n = good_length pool prev f g.0 in
    omega (
      arith,
      ap length (done_value b.2),
      length-append a.0 b.0,
      ap length g.1,
      n.0,
      n.1,
      files_most pool (part_at pool f.path) fs b.1,
    )

-- ---- the loop

-- what follows the bytes that are done
abbrev pub behind : List ℕ → Answer (List ℕ) → Answer (List ℕ)
behind front v = then v (λ bs. done (front ++ bs))

behind_one : (front b : List ℕ) (v : Answer (List ℕ)) → behind front (then v (λ bs. done (b ++ bs))) ≡ behind (front ++ b) v
behind_one front b (done bs) = ap done (sym (append_assoc front b bs))
behind_one front b (refused_at e place) = refl

-- the file at an index is the first of those that are left
pub file_next : (fs : List File) (i : ℕ) (d : File) → i < length fs → drop i fs ≡ get_or fs i d ∷ drop (i + 1) fs
file_next fs i d l = rw (add-one, drop-cons fs i d l)

-- after i files: the rest of the judgement is the whole of it
pub record Judging (pool : List ℕ) (fs : List File) (i sum : ℕ) (last : Span) : Type 0 where
  pub front : List ℕ
  pub many : sum ≡ length front
  pub small : sum ≤ 300 * i
  pub whole : files_verdict pool [] fs ≡ behind front (files_verdict pool (part_at pool last) (drop i fs))

pub taken_few : (n : ℕ) (fs : List File) → n ≤ 64 → length (take n fs) ≤ 64
taken_few n fs h = simp length-take (omega arith)

module _ (pool : List ℕ) (fs : List File) (i sum : ℕ) (last : Span) (h : Judging pool fs i sum last) where
  pub judge_end : length fs ≤ i → done sum ≡ outcome (files_verdict pool [] fs)
  unfolding files_verdict
  judge_end l =
      let z : drop i fs ≡ [] = drop_of_length-le fs {i = i} l in
      let w : files_verdict pool [] fs ≡ done (h.front ++ []) =
      h.whole ∙ ap (λ (gs : List File). behind h.front (files_verdict pool (part_at pool last) gs)) z in
      ap done h.many ∙ ap (λ (bs : List ℕ). done (length bs)) (sym (append-nil h.front)) ∙ ap outcome (sym w)

  module _ (l : i < length fs) (d : File) (prev : List ℕ) (p : prev ≡ part_at pool last) where
    abbrev f : File
    f = get_or fs i d

    abbrev left : Answer (List ℕ)
    left = files_verdict pool (part_at pool f.path) (drop (i + 1) fs)

    one_more : files_verdict pool [] fs ≡ behind h.front (then (file_verdict pool prev f) (λ b. then left (λ bs. done (b ++ bs))))
    unfolding files_verdict
    one_more =
        h.whole
        ∙ ap (λ (gs : List File). behind h.front (files_verdict pool (part_at pool last) gs)) (file_next fs i d l)
        ∙ ap (λ (q : List ℕ). behind h.front (then (file_verdict pool q f) (λ b. then left (λ bs. done (b ++ bs))))) (sym p)

    pub judge_no : (e k : ℕ) → refused_at e k ≡ outcome (file_verdict pool prev f) → refused_at e k ≡ outcome (files_verdict pool [] fs)
    judge_no e k x =
        let v = outcome_refused (file_verdict pool prev f) e k x in
        ap outcome (sym (one_more ∙ ap (λ (y : Answer (List ℕ)). behind h.front (then y (λ b. then left (λ bs. done (b ++ bs))))) v))

    module _ (n : ℕ) (k : done n ≡ outcome (file_verdict pool prev f)) where
      part_small : n ≤ 300
      part_small =
          let v = outcome_done (file_verdict pool prev f) n k in
          let g = verdict_good pool prev f v.1 in
          let m = good_length pool prev f g.0 in
          omega (arith, v.2, ap length g.1, m.0, m.1)

      pub sum_fits : length fs ≤ 64 → Fits w64 (sum + n)
      sum_fits few = record { fits = omega (arith, part_small, h.small) }

      pub judge_more : Judging pool fs (i + 1) (sum + n) f.path
      judge_more =
          let v = outcome_done (file_verdict pool prev f) n k in
          record {
            front = h.front ++ v.0;
            many = omega (arith, h.many, v.2, length-append h.front v.0);
            small = omega (arith, part_small, h.small);
            whole =
                one_more
                ∙ ap (λ (x : Answer (List ℕ)). behind h.front (then x (λ b. then left (λ bs. done (b ++ bs))))) v.1
                ∙ behind_one h.front v.0 left;
          }
