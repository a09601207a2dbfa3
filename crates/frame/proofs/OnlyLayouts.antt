-- The reader accepts no bytes but layouts of parts that the rules allow. Assumes nothing.
use Prim.Native.Nat.{ℕ, ◌+◌, ◌-◌, ◌≤◌}
use mathlib.Core.Path.{◌≡◌, refl, sym, ap, ◌∙◌, subst}
use mathlib.Core.Bool.{true}
use mathlib.Core.List.{List, [], ◌∷◌, ◌++◌}
use native.Mathlib.Nat.{zero-add}
use native.Mathlib.Omega.{arith}
use borrow.Author.Tests.{ltb-false}
use lib.Dec.{ltb}
use lib.ListN.{length, take, drop}
use lib.Seq.{take_at}
use Rattle.std.specs.Prelude.{Result, Ok}
use Rattle.wire.specs.Answer.{then, got}
use Rattle.wire.specs.declared.Refusal.{Refusal}
use Rattle.wire.specs.Number.{big_endian, Bytes}
use Rattle.wire.proofs.Cases.{passed, escaped, then_passed, got_value, got_next, got_as}
use Rattle.varint.specs.Varint.{varint_at}
use Rattle.varint.proofs.Rounds.{read_stands}
use Rattle.mark.specs.Mark.{mark_of, marked}
use Rattle.mark.proofs.Marks.{mark_length, mark_was}
use Rattle.crc.specs.Crc.{crc32}
use Rattle.frame.specs.Frame.{Frame, Numbers, magic, known, kind_at, id_at, start_of, numbers_at, data_at, in_place, in_size, judged, frame_of, id_of, data_of}
use Rattle.frame.specs.Answer.{seen, told}
use Rattle.frame.specs.declared.Frame as R
use Rattle.frame.specs.Layout.{start, numbers, body, layout}
use Rattle.wire.proofs.Standing.{Stands, stands_join, stands_as, stands_part, byte_stands}
use Rattle.frame.proofs.Lengths.{start_length, numbers_least}
use Rattle.frame.specs.Allowed.{Allowed}
use Rattle.frame.proofs.Allowed.{known_only, place_only, size_only}
use Rattle.frame.proofs.Within.{kind_got, data_got}

kind_was : (s : List ℕ) (at kind next : ℕ) → kind_at s at ≡ got kind next → Stands s at (kind ∷ []) next
kind_was s at kind next h =
    let g = kind_got s at kind next h in
    stands_as (ap (λ (x : ℕ). x ∷ []) (sym g.2)) (sym g.0) (byte_stands at (omega (arith, g.0, g.1)))

id_was : (s : List ℕ) (at : ℕ) (u : Unit) (next : ℕ) → id_at s at ≡ got u next → (at + 8 ≤ length s) × (next ≡ at + 8)
unfolding id_at
id_was s at u next h =
    let t = escaped (ltb (length s - at) 8) (got tt (at + 8)) 3 h in
    let p : next ≡ at + 8 = sym (got_next t.1) in
    (omega (arith, ltb-false (length s - at) 8 t.0), p)

abbrev framed : ℕ → Numbers → ℕ → Frame
framed kind n at = record { kind = kind; index = n.index; total = n.total; at = record { start = at; len = n.len } }

-- what stands before the varints
record Started (s : List ℕ) (kind next : ℕ) : Type 0 where
  stood : Stands s 0 (start kind (id_of s)) next
  eight : length (id_of s) ≡ 8
  type : known kind ≡ true

started : (s : List ℕ) (kind a b next : ℕ) → Stands s 0 (marked magic) a → Stands s a (kind ∷ []) b → known kind ≡ true
    → (b + 8 ≤ length s) × (next ≡ b + 8) → Started s kind next
unfolding start
started s kind a b next m k y (room, e) =
    let four : b ≡ 4 = omega (arith, m.ends, k.ends, mark_length magic) in
    let id : Stands s 4 (id_of s) 12 = stands_part 4 8 (omega arith) in
    record {
      stood = stands_as refl (omega arith) (stands_join (stands_as refl four (stands_join m k)) id);
      eight = omega (arith, id.ends);
      type = y;
    }

-- the type byte and the id behind the version
type_was : (s : List ℕ) (b kind next : ℕ) → then (kind_at s b) (λ (k, c). then (id_at s c) (λ (_, d). got k d)) ≡ got kind next
    → (c : ℕ) × (Stands s b (kind ∷ []) c) × (known kind ≡ true) × (c + 8 ≤ length s) × (next ≡ c + 8)
type_was s b kind next h =
    let t = then_passed (kind_at s b) _ h in
    let u = then_passed (id_at s t.1) (λ (_, d). got t.0 d) t.3 in
    let k : kind_at s b ≡ got kind t.1 = got_as t.2 (got_value u.3) refl in
    let i = id_was s t.1 u.0 next (got_as u.2 refl (got_next u.3)) in
    (t.1, kind_was s b kind t.1 k, (kind_got s b kind t.1 k).3, i.0, i.1)

start_was : (s : List ℕ) (kind next : ℕ) → Bytes s → start_of s ≡ got kind next → Started s kind next
unfolding start_of
start_was s kind next y h =
    let t = then_passed (mark_of magic s) _ h in
    let w = type_was s t.1 kind next t.3 in
    started s kind t.1 w.0 next (mark_was magic s t.0 t.1 y t.2) w.1 w.2 (w.3, w.4)

numbers_was : (s : List ℕ) (at : ℕ) (n : Numbers) (next : ℕ) → Bytes s → numbers_at s at ≡ got n next → Stands s at (numbers n.index n.total n.len) next
unfolding numbers_at numbers
numbers_was s at n next y h =
    let t₁ = then_passed (varint_at s at) _ h in
    let t₂ = then_passed (varint_at s t₁.1) _ t₁.3 in
    let t₃ = then_passed (varint_at s t₂.1) _ t₂.3 in
    let e = got_value t₃.3 in
    stands_join
    (stands_join (read_stands s at n.index t₁.1 y (got_as t₁.2 (ap (λ (m : Numbers). m.index) e) refl)).0
    (read_stands s t₁.1 n.total t₂.1 y (got_as t₂.2 (ap (λ (m : Numbers). m.total) e) refl)).0)
    (read_stands s t₂.1 n.len next y (got_as t₃.2 (ap (λ (m : Numbers). m.len) e) (got_next t₃.3))).0

judged_was : (kind : ℕ) (n : Numbers) (at end : ℕ) (f : Frame) (next : ℕ) → judged kind n at end ≡ got f next
    → (in_place kind n.index n.total ≡ true) × (in_size n.total n.len ≡ true) × (framed kind n at ≡ f) × (end ≡ next)
unfolding judged
judged_was kind n at end f next h =
    let p = passed (in_place kind n.index n.total) _ 8 h in
    let z = passed (in_size n.total n.len) (got (framed kind n at) end) 9 p.1 in
    (p.0, z.0, got_value z.1, got_next z.1)

-- ---- the frame as a whole

-- what is known of a frame that was read: its parts are allowed, the input is their layout, and so
-- where the data stand
pub record Sound (s : List ℕ) (f : Frame) (next : ℕ) : Type 0 where
  pub allowed : Allowed f.kind (id_of s) f.index f.total (data_of s f)
  pub whole : s ≡ layout f.kind (id_of s) f.index f.total (data_of s f)
  pub held : length (data_of s f) ≡ f.at.len
  pub ends : f.at.start + f.at.len + 4 ≡ length s
  pub behind : 15 ≤ f.at.start
  pub past : next ≡ length s

-- bytes, and their checksum behind them
abbrev sealed : List ℕ → List ℕ
sealed l = l ++ big_endian 4 (crc32 l)

module _ (s : List ℕ) (kind : ℕ) (n : Numbers) (a at next : ℕ) where
  abbrev bs : List ℕ
  bs = start kind (id_of s) ++ numbers n.index n.total n.len ++ data_of s (framed kind n at)

  -- the start, the varints and the data, each where the one before it ended
  sound : Started s kind a → Stands s a (numbers n.index n.total n.len) at → at + n.len + 4 ≡ length s
      → drop (at + n.len) s ≡ big_endian 4 (crc32 (take (at + n.len) s)) → in_place kind n.index n.total ≡ true → in_size n.total n.len ≡ true
      → next ≡ at + n.len + 4 → Sound s (framed kind n at) next
  unfolding layout body
  sound b v e c p z q =
      let cut : Stands s at (data_of s (framed kind n at)) (at + n.len) = stands_part at n.len (omega arith) in
      let held : length (data_of s (framed kind n at)) ≡ n.len = omega (arith, cut.ends) in
      let place = place_only kind n.index n.total p in
      let size = size_only n.total n.len z in
      let w = stands_join (stands_join b.stood v) cut in
      let front : take (at + n.len) s ≡ bs = ap (take (at + n.len)) w.split ∙ take_at bs (drop (at + n.len) s) (at + n.len) (sym (w.ends ∙ zero-add (length bs))) in
      record {
        allowed =
            record {
              type = known_only kind b.type;
              eight = b.eight;
              below = place.0;
              pages = size.0;
              single = place.1;
              short = omega (arith, size.1);
            };
        whole =
            w.split
            ∙ ap (λ (l : List ℕ). bs ++ l) (c ∙ ap (λ (l : List ℕ). big_endian 4 (crc32 l)) front)
            ∙ ap (λ (k : ℕ). sealed (start kind (id_of s) ++ numbers n.index n.total k ++ data_of s (framed kind n at))) (sym held);
        held = held;
        ends = e;
        behind = omega (arith, b.stood.ends, start_length kind (id_of s) b.eight, v.ends, numbers_least n.index n.total n.len);
        past = omega arith;
      }

-- a frame that is read is the layout of its parts, and these are allowed
pub only_layouts : (s : List ℕ) (f : Frame) (next : ℕ) → Bytes s → frame_of s ≡ got f next → Sound s f next
unfolding frame_of
only_layouts s f next y h =
    let t₁ = then_passed (start_of s) _ h in
    let t₂ = then_passed (numbers_at s t₁.1) _ t₁.3 in
    let t₃ = then_passed (data_at s t₂.1 t₂.0.len) _ t₂.3 in
    let j = judged_was t₁.0 t₂.0 t₂.1 t₃.1 f next t₃.3 in
    let d = data_got s t₂.1 t₂.0.len t₃.1 t₃.0 t₃.2 in
    subst (λ (g : Frame). Sound s g next) j.2
    (sound s t₁.0 t₂.0 t₁.1 t₂.1 next (start_was s t₁.0 t₁.1 y t₁.2) (numbers_was s t₁.1 t₂.0 t₂.1 y t₂.2) d.1 d.2 j.0
    j.1 (sym j.3 ∙ d.0))

-- what a caller of `read` knows of a frame that it was told
pub told_sound : (s : List ℕ) (r : Result R.Frame Refusal) (f : R.Frame) → Bytes s → told r ≡ frame_of s → r ≡ Ok f
    → Sound s (seen f) (f.at.start + f.at.len + 4)
told_sound s r f y e k = only_layouts s _ (f.at.start + f.at.len + 4) y (sym e ∙ ap told k)
