-- How a chain of items goes on under an answer that is a struct, and how long the array of files
-- is. Assumes nothing.
use Prim.Native.Nat.{ℕ, ◌+◌, ◌-◌, ◌≤◌}
use mathlib.Core.Path.{◌≡◌, sym, ap, ◌∙◌}
use mathlib.Core.List.{List}
use native.Mathlib.Omega.{arith}
use lib.ListN.{length, length-append, length-replicate}
use borrow.Author.Tests.{le-leb}
use Rattle.std.specs.Prelude.{Option}
use Rattle.wire.specs.declared.Span.{Span}
use Rattle.wire.specs.Answer.{done, refused_at, then, Got, got, Answer}
use Rattle.wire.proofs.Answers.{reads}
use Rattle.wire.proofs.Cases.{not_done, got_value, got_next}
use Rattle.entry.specs.declared.File.{File}
use Rattle.cbor.specs.Item.{one_at}
use Rattle.manifest.specs.Manifest.{seed_at, list_at, end_at, manifest_at}
use Rattle.manifest.specs.Answer.{blank_file, padded, answer_for}
use Rattle.manifest.specs.Private.{files_answer}
use Rattle.manifest.specs.declared.FileList.{FileList}
use Rattle.manifest.specs.declared.Ending.{Ending}

pub padded_long : (fs : List File) → length fs ≤ 64 → length (padded fs) ≡ 64
unfolding padded
padded_long fs l = length-append fs _ ∙ ap (λ (k : ℕ). length fs + k) (length-replicate (64 - length fs) blank_file) ∙ omega arith

-- ---- for `search`: one field of a chain, where k makes the answer of what the chain gives

module _ {A B C : Type 0} (g : Answer A) (f : A → Answer B) (k : B → Answer C) where
  pub on_under : (x : A) (y : Answer C) → done x ≡ g → y ≡ then (f x) k → y ≡ then (then g f) k
  on_under x y h e = rw (← h) e

  pub off_under : (e p : ℕ) → refused_at e p ≡ g → refused_at e p ≡ then (then g f) k
  off_under e p h = rw (← h)

-- the files are read as an array
module _ {B C : Type 0} (g : Got (List File)) (f : List File × ℕ → Answer B) (k : B → Answer C) where
  pub on_files : (l : FileList) (next : ℕ) (y : Answer C) → got l next ≡ files_answer g
      → ((fs : List File) → l.count ≡ length fs → l.all ≡ padded fs → y ≡ then (f (fs, next)) k) → y ≡ then (then g f) k
  on_files l next y = go g
    where
      go : (g : Got (List File)) → got l next ≡ files_answer g
          → ((fs : List File) → l.count ≡ length fs → l.all ≡ padded fs → y ≡ then (f (fs, next)) k) → y ≡ then (then g f) k
      go (done (fs, p)) e h =
          let v = got_value e in
          rw (← got_next e) (h fs (ap (λ (x : FileList). x.count) v) (ap (λ (x : FileList). x.all) v))
      go (refused_at m place) e h = not_done (sym e)

  pub off_files : (e p : ℕ) → refused_at e p ≡ files_answer g → refused_at e p ≡ then (then g f) k
  off_files e p = go g
    where
      go : (g : Got (List File)) → refused_at e p ≡ files_answer g → refused_at e p ≡ then (then g f) k
      go (done (fs, q)) h = not_done h
      go (refused_at m place) h = cc

pub ruleset under = (reads, on_under, off_under, on_files, off_files)

-- all was read
pub read_whole : (s : List ℕ) (a b c next : ℕ) (seed : Option Span) (l : FileList) (end : Ending) → length s ≤ 16384 → got tt a ≡ one_at s 0 0xA5 → got seed b ≡ seed_at s a
    → got l c ≡ files_answer (list_at s b) → got end next ≡ end_at s c seed
    → got (record { seed = seed; files = l.all; count = l.count; sealed = end.sealed; created = end.created }) next ≡ answer_for (manifest_at s)
unfolding manifest_at
read_whole s a b c next seed l end h k₁ k₂ k₃ k₄ =
    rw (le-leb (length s) 16384 h, ← k₁, ← k₂)
    (on_files (list_at s b) _ _ l c _ k₃ (λ fs e f. rw (← k₄, e, f)))
