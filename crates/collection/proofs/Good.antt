-- What a good page is, and that its parts are allowed. Assumes nothing.
use mathlib.Core.Path.{◌≡◌, refl, sym, ◌∙◌, subst}
use mathlib.Core.Bool.{Bool, true, false, not, ◌&&◌}
use mathlib.Core.List.{List}
use Prim.Native.Nat.{ℕ, ◌+◌, ◌-◌, ◌≤◌, ◌<◌}
use denote.Enum.Bare.{sameb}
use Rattle.std.specs.Prelude.{Ok}
use native.Mathlib.Omega.{arith}
use borrow.Author.Tests.{eq-eqb, ne_eqb}
use lib.Dec.{eqb}
use lib.ListN.{length, take, drop}
use Rattle.wire.specs.Answer.{refused, got}
use Rattle.wire.specs.Number.{Bytes}
use Rattle.wire.specs.Refusal.{number}
use Rattle.wire.specs.declared.Refusal.{Refusal}
use Rattle.wire.specs.Span.{part_at}
use Rattle.wire.proofs.Cases.{passed, then_passed, got_value, got_next}
use Rattle.wire.proofs.Digits.{small_take, small_drop}
use Rattle.lend.specs.Same.{same}
use Rattle.frame.specs.Frame as F
use Rattle.frame.specs.Answer.{told, seen}
use Rattle.frame.specs.Kind.{type_byte}
use Rattle.frame.specs.declared.Frame as R
use Rattle.frame.specs.declared.Kind.{Kind}
use Rattle.frame.specs.declared.Kind.TheVariants as kind
use Rattle.frame.specs.contracts.Kind.{the_type}
use Rattle.frame.proofs.OnlyLayouts.{Sound, only_layouts, told_sound}
use Rattle.model.specs.Take.{Page}
use Rattle.model.proofs.Valid.{Good}
use Rattle.collection.specs.Collection.{page_of, good_page}
use Rattle.collection.specs.Private.{page, page_told, Fits}
use Rattle.collection.specs.declared.take.PageAt as P

-- ---- what the casts and the slices of the code ask of a frame that was read

module _ (s : List ℕ) (f : R.Frame) (e : told (Ok f) ≡ F.frame_of s) (y : Bytes s) where
  sound : Sound s (seen f) (f.at.start + f.at.len + 4)
  sound = told_sound s (Ok f) f y e refl

  pub frame_total : f.total < 256
  frame_total = omega (arith, sound.allowed.pages)

  pub frame_index : f.index < 256
  frame_index = omega (arith, sound.allowed.below, sound.allowed.pages)

  pub frame_long : 12 ≤ length s
  frame_long = omega (arith, sound.ends, sound.behind)

-- ---- by the tests of the code

not_main : (k : Kind) → not (sameb the_type k kind.Main) ≡ true → type_byte k ≡ 0x44 → ⊥
not_main kind.Main h e = cc
not_main kind.Key h e = omega arith
not_main kind.Auth h e = omega arith

is_main : (k : Kind) → not (sameb the_type k kind.Main) ≡ false → type_byte k ≡ 0x44
is_main kind.Main h = refl
is_main kind.Key h = cc
is_main kind.Auth h = cc

module _ (id s : List ℕ) where
  pub good_refused : (r : Refusal) → refused (number r) ≡ F.frame_of s → refused (number r) ≡ good_page id s
  unfolding good_page
  good_refused r e = rw (← e)

  -- u is what the code finds of the type
  module _ (f : R.Frame) (e : told (Ok f) ≡ F.frame_of s) (u : Bool) (t : u ≡ not (sameb the_type f.kind kind.Main)) where
    pub good_kind : u ≡ true → refused 12 ≡ good_page id s
    unfolding good_page
    good_kind n = rw (← e, ne_eqb (type_byte f.kind) 0x44 (not_main f.kind (sym t ∙ n)))

    module _ (w : Bool) (m : u ≡ false) (q : w ≡ same id (F.id_of s)) where
      main : type_byte f.kind ≡ 0x44
      main = is_main f.kind (sym t ∙ m)

      pub good_id : w ≡ false → refused 12 ≡ good_page id s
      unfolding good_page
      good_id g = rw (← e, eq-eqb (type_byte f.kind) 0x44 main, ← q, g)

      pub good_yes : w ≡ true → got (page f.index f.total (part_at s f.at)) (f.at.start + f.at.len + 4) ≡ good_page id s
      unfolding good_page
      good_yes g = rw (← e, eq-eqb (type_byte f.kind) 0x44 main, ← q, g)

-- ---- what a good page keeps to, where the frame holds bytes

pub record GoodPage (s : List ℕ) (p : Page) (next : ℕ) : Type 0 where
  pub good : Good p
  pub bytes : Bytes p.contents
  pub whole : next ≡ length s

frame_good : (s : List ℕ) (f : F.Frame) (next : ℕ) → Bytes s → Sound s f next → GoodPage s (page_of s f) next
frame_good s f next y w =
    record {
      good = record { below = w.allowed.below; most = w.allowed.pages; short = w.allowed.short };
      bytes = small_take 256 f.at.len (drop f.at.start s) (small_drop 256 f.at.start s y);
      whole = w.past;
    }

pub good_page_lem : (id s : List ℕ) (p : Page) (next : ℕ) → Bytes s → good_page id s ≡ got p next → GoodPage s p next
unfolding good_page
good_page_lem id s p next y h =
    let t = then_passed (F.frame_of s) _ h in
    let u = passed (eqb t.0.kind 0x44 && same id (F.id_of s)) (got (page_of s t.0) t.1) 12 t.3 in
    let g : GoodPage s (page_of s t.0) t.1 = frame_good s t.0 t.1 y (only_layouts s t.0 t.1 y t.2) in
    subst (λ (q : Page). GoodPage s q next) (got_value u.1) (subst (GoodPage s (page_of s t.0)) (got_next u.1) g)

-- ---- what the code asks of a good page that it was told

-- the data as the code cuts them
pub cut : (at len : ℕ) (s : List ℕ) → take (at + len - at) (drop at s) ≡ take len (drop at s)
cut at len s = let n : at + len - at ≡ len = omega arith in rw n

module _ (id s : List ℕ) (p : P.PageAt) (g : page_told s (Ok p) ≡ good_page id s) (y : Bytes s) where
  whole : GoodPage s (page p.index p.total (part_at s p.at)) (p.at.start + p.at.len + 4)
  whole = good_page_lem id s (page p.index p.total (part_at s p.at)) (p.at.start + p.at.len + 4) y (sym g)

  pub page_ends : p.at.start + p.at.len + 4 ≡ length s
  page_ends = whole.whole

  pub page_fits : Fits p.index p.total (take (p.at.start + p.at.len - p.at.start) (drop p.at.start s))
  page_fits = (whole.good.below, whole.good.most, rw (cut p.at.start p.at.len s) whole.good.short)
