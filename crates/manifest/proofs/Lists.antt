-- What the loop of `files::run` goes by: files that are read one after the other into an array.
-- Assumes nothing.
use Prim.Native.Nat.{ℕ, suc, ◌+◌, ◌-◌, ◌<◌, ◌≤◌}
use mathlib.Core.Path.{◌≡◌, refl, sym, ap, ◌∙◌}
use mathlib.Core.List.{List, [], ◌∷◌, ◌++◌, append_assoc, append-nil}
use native.Mathlib.Nat.{sub-zero}
use native.Mathlib.Omega.{arith}
use lib.ListN.{length, set, replicate, length-append}
use lib.Seq.{set_at}
use Rattle.wire.specs.Answer.{done, refused_at, then, Got, got}
use Rattle.wire.specs.declared.Span.{Span}
use Rattle.wire.specs.Span.{part_at}
use Rattle.entry.specs.File.{file_at}
use Rattle.entry.specs.declared.File.{File}
use Rattle.manifest.specs.Manifest.{files_at}
use Rattle.manifest.specs.Answer.{blank_file, padded}
use Rattle.manifest.specs.Private.{files_answer}

-- one file more in the array
pub padded_set : (fs : List File) (f : File) (i : ℕ) → length fs ≡ i → i < 64 → set (padded fs) i f ≡ padded (fs ++ (f ∷ []))
unfolding padded
padded_set fs f i e h =
    let k : ℕ = 64 - length (fs ++ (f ∷ [])) in
    let n : 64 - length fs ≡ suc (64 - length (fs ++ (f ∷ []))) = omega (arith, length-append fs (f ∷ [])) in
    ap (λ (j : ℕ). set (fs ++ replicate j blank_file) i f) n
    ∙ set_at fs blank_file (replicate k blank_file) f i e
    ∙ sym (append_assoc fs (f ∷ []) (replicate k blank_file))

-- the files behind those that are done
abbrev pub behind : List File → Got (List File) → Got (List File)
behind front g = then g (λ (fs, next). got (front ++ fs) next)

behind_one : (front : List File) (f : File) (g : Got (List File)) → behind front (then g (λ (fs, next). got (f ∷ fs) next)) ≡ behind (front ++ (f ∷ [])) g
behind_one front f (done (fs, next)) = ap (λ (l : List File). got l next) (sym (append_assoc front (f ∷ []) fs))
behind_one front f (refused_at e place) = refl

-- after i files: those that are done stand in the array, and the rest of the work is the whole of
-- it
pub record Reading (s : List ℕ) (at count : ℕ) (files : List File) (i p : ℕ) (last : Span) : Type 0 where
  pub most : i ≤ count
  pub front : List File
  pub many : length front ≡ i
  pub array : files ≡ padded front
  pub whole : files_at s count at [] ≡ behind front (files_at s (count - i) p (part_at s last))

module _ (s : List ℕ) (at count : ℕ) (files : List File) (i p : ℕ) (last : Span) (h : Reading s at count files i p last) where
  pub read_end : count ≤ i → done ((record { all = files; count = count }), p) ≡ files_answer (files_at s count at [])
  unfolding files_at
  read_end l =
      let z : count - i ≡ 0 = omega arith in
      let n : length h.front ≡ count = omega (arith, h.many, h.most) in
      let w : files_at s count at [] ≡ got h.front p =
      h.whole
      ∙ ap (λ (k : ℕ). behind h.front (files_at s k p (part_at s last))) z
      ∙ ap (λ (l : List File). got l p) (append-nil h.front) in
      rw (w, n, h.array)

  module _ (l : i < count) (prev : List ℕ) (v : prev ≡ part_at s last) where
    rest_of : File × ℕ → Got (List File)
    rest_of (f, q) = then (files_at s (count - (i + 1)) q (part_at s f.path)) (λ (fs, next). got (f ∷ fs) next)

    one_more : files_at s count at [] ≡ behind h.front (then (file_at s p prev) rest_of)
    unfolding files_at rest_of
    one_more = let n : count - i ≡ suc (count - (i + 1)) = omega arith in rw (h.whole, n, ← v)

    pub read_no : (e k : ℕ) → refused_at e k ≡ file_at s p prev → refused_at e k ≡ files_answer (files_at s count at [])
    read_no e k x = rw (one_more, ← x)

    module _ (f : File) (next : ℕ) (k : got f next ≡ file_at s p prev) where
      pub read_more : count ≤ 64 → Reading s at count (set files i f) (i + 1) next f.path
      unfolding rest_of
      read_more b =
          record {
            most = omega arith;
            front = h.front ++ (f ∷ []);
            many = omega (arith, length-append h.front (f ∷ []), h.many);
            array = ap (λ (l : List File). set l i f) h.array ∙ padded_set h.front f i h.many (omega arith);
            whole =
                one_more
                ∙ ap (λ (g : Got File). behind h.front (then g rest_of)) (sym k)
                ∙ behind_one h.front f (files_at s (count - (i + 1)) next (part_at s f.path));
          }
