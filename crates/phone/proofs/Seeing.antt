-- What is told of a frame, by the tests of the code. Assumes nothing.
use mathlib.Core.Path.{◌≡◌, refl}
use mathlib.Core.List.{List}
use Prim.Native.Nat.{ℕ, ◌+◌, ◌*◌, ◌≤◌, ◌<◌}
use borrow.Author.Tests.{le-leb, lt-leb}
use lib.ListN.{length}
use Rattle.wire.specs.Answer.{bytes_after, answer_of}
use Rattle.wire.specs.Over.{over}
use Rattle.frame.specs.Frame as F
use Rattle.frame.specs.Answer.{told}
use Rattle.std.specs.Prelude.{Result, Ok, Err}
use Rattle.wire.specs.Refusal.{number}
use Rattle.wire.specs.declared.Refusal.{Refusal}
use Rattle.frame.specs.declared.Frame.{Frame}
use Rattle.frame.specs.Kind.{type_byte}
use Rattle.phone.specs.Packed.{packed, seeing, packed_frame}

-- the promise of `stilt_frame`, of its answer m and what it leaves
abbrev pub Seen : (s out x : List ℕ) (m : ℕ) → Type 0
Seen s out x m = (m ≡ packed_frame (answer_of (seeing s out))) × (x ≡ bytes_after out (seeing s out))

module _ (s out : List ℕ) (r : Result Frame Refusal) (e : told r ≡ F.frame_of s) where
  pub seen_refused : (why : Refusal) (m : ℕ) → r ≡ Err why → m ≡ packed (number why) 0 0 → Seen s out out m
  unfolding seeing
  seen_refused why m k p = rw (← e, k) (p, refl)

  module _ (f : Frame) (k : r ≡ Ok f) where
    pub seen_short : (m : ℕ) → length out < 8 → m ≡ packed 11 0 0 → Seen s out out m
    unfolding seeing
    seen_short m h p = rw (← e, k, lt-leb 8 (length out) h) (p, refl)

    pub seen_whole : (x : List ℕ) (b m : ℕ) → 8 ≤ length out → x ≡ over 0 (F.id_of s) out → b ≡ type_byte f.kind → m ≡ packed 0 f.index (f.total + 256 * b) → Seen s out x m
    unfolding seeing
    seen_whole x b m h w q p = rw (← e, k, le-leb 8 (length out) h) (rw q at p, w)
