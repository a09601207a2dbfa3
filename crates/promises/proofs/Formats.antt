-- What R1.3 says of a format follows from its rules (what is written reads back, and what is read
-- is written) and from what its reader's and its writer's contracts say. Frames are such. Assumes
-- nothing.
use Prim.Native.Nat.{ℕ, ◌≤◌}
use mathlib.Core.Path.{◌≡◌, refl, sym, ap, ◌∙◌}
use mathlib.Core.List.{List, []}
use native.Mathlib.Omega.{arith}
use lib.ListN.{length, take}
use Rattle.wire.specs.Answer.{Answer, done, refused_at, value_of}
use Rattle.wire.specs.Over.{over}
use Rattle.std.specs.Prelude.{Ok}
use Rattle.wire.proofs.Cases.{done_value, value_passed}
use Rattle.frame.specs.Frame as F
use Rattle.frame.specs.Layout.{layout}
use Rattle.frame.specs.Allowed.{Allowed}
use Rattle.frame.specs.Answer as frame
use Rattle.frame.proofs.ReadsBack.{reads_back}
use Rattle.frame.proofs.OnlyLayouts.{only_layouts}
use Rattle.frame.proofs.read as frame-read
use Rattle.frame.proofs.lay as frame-lay
use Rattle.promises.specs.Calls.{Call}
use Rattle.promises.specs.Formats.{Slice, Format, Exact, Frame, frame_says, frames}
use Rattle.promises.proofs.Writers.{slice, lent, Stands, stands_front, wrote_done, can_write}
use Rattle.promises.proofs.Answered.{frame_answer}
use Rattle.promises.proofs.Links.Frame.{frame_lay_link, frame_read_link}

-- ---- what all formats share

-- the rules of a format, where `Form v s` says that s is the written form of v; and what its calls
-- say
pub record Ruled {Place Value : Type 0} (f : Format Place Value) (Form : Value → List ℕ → Type 0) : Type 0 where
  pub back : (v : Value) (s : List ℕ) → Form v s → (p : Place) × (f.read s ≡ done p) × (f.says s p ≡ v)
  pub only : (s : List ℕ) (p : Place) → Slice s → f.read s ≡ done p → Form (f.says s p) (f.counting s)
  pub form : (v : Value) (s t : List ℕ) → Form v s → Form v t → s ≡ t
  pub can_read : (s : List ℕ) → (a : Answer Place) × f.Reads s a
  pub reads : (s : List ℕ) (a : Answer Place) → f.Reads s a → a ≡ f.read s
  pub writes : (v : Value) (out x : List ℕ) (n : ℕ) → f.Writes v out x (done n) → (s : List ℕ) × Form v s × Stands s out x n
  pub write : (v : Value) (s : List ℕ) → Form v s → (out : List ℕ) → length s ≤ length out → f.Writes v out (over 0 s out) (done (length s))

module _ {Place Value : Type 0} (f : Format Place Value) (Form : Value → List ℕ → Type 0) (w : Ruled f Form) where
  exact_back : (v : Value) (out x : List ℕ) (n : ℕ) (a : Answer Place) → f.Writes v out x (done n) → f.Reads (take n x) a
      → (p : Place) × (a ≡ done p) × (f.says (take n x) p ≡ v)
  exact_back v out x n a k r =
      let t = w.writes v out x n k in
      let e : take n x ≡ t.0 = stands_front t.2 in
      let b = w.back v t.0 t.1 in
      (b.0, w.reads (take n x) a r ∙ ap f.read e ∙ b.1, ap (λ (s : List ℕ). f.says s b.0) e ∙ b.2)

  exact_only : (s : List ℕ) (p : Place) → Slice s → f.Reads s (done p) → (out : List ℕ) → length (f.counting s) ≤ length out
      → f.Writes (f.says s p) out (over 0 (f.counting s) out) (done (length (f.counting s)))
  exact_only s p y r = w.write (f.says s p) (f.counting s) (w.only s p y (sym (w.reads s (done p) r)))

  exact_form : (v : Value) (out x : List ℕ) (m : ℕ) (out' y : List ℕ) (n : ℕ) → f.Writes v out x (done m) → f.Writes v out' y (done n) → take m x ≡ take n y
  exact_form v out x m out' y n k l =
      let t = w.writes v out x m k in
      let u = w.writes v out' y n l in
      stands_front t.2 ∙ w.form v t.0 u.0 t.1 u.1 ∙ sym (stands_front u.2)

  exact_refused : (s : List ℕ) (a : Answer Place) → Slice s
      → ((v : Value) (out x : List ℕ) (n : ℕ) → f.Writes v out x (done n) → take n x ≡ f.counting s → ⊥) → f.Reads s a
      → (n : ℕ) × (place : ℕ) × (a ≡ refused_at n place)
  exact_refused s a y none r = go (f.read s) refl
    where
      go : (x : Answer Place) → f.read s ≡ x → (n : ℕ) × (place : ℕ) × (a ≡ refused_at n place)
      go (done p) e =
          let c : List ℕ = f.counting s in
          let k = w.write (f.says s p) c (w.only s p y e) c (omega arith) in
          absurd (none (f.says s p) c (over 0 c c) (length c) k (stands_front (w.writes (f.says s p) c (over 0 c c) (length c) k).2 ∙ w.form (f.says s p) _ c (w.writes (f.says s p) c (over 0 c c) (length c) k).1 (w.only s p y e)))
      go (refused_at n place) e = (n, place, w.reads s a r ∙ e)

  pub exact : Exact f
  exact = record { happens = w.can_read; reason = w.reads; back = exact_back; only = exact_only; form = exact_form; refused = exact_refused }

-- ---- frames

abbrev FrameForm : Frame → List ℕ → Type 0
FrameForm v s = Allowed v.kind v.id v.index v.total v.contents × (s ≡ layout v.kind v.id v.index v.total v.contents)

frame_back : (v : Frame) (s : List ℕ) → FrameForm v s → (p : F.Frame) × (frames.read s ≡ done p) × (frames.says s p ≡ v)
frame_back v s (a, e) =
    let r = reads_back v.kind v.id v.index v.total v.contents a in
    rw e (r.frame, ap value_of r.read, rw (r.kind_is, r.index_is, r.total_is, r.id_is, r.data_is))

frame_only : (s : List ℕ) (p : F.Frame) → Slice s → frames.read s ≡ done p → FrameForm (frame_says s p) s
frame_only s p y e =
    let g = value_passed (F.frame_of s) e in
    let k = only_layouts s p g.0 y.0 g.1 in
    (k.allowed, k.whole)

module _ (v : Frame) (s out : List ℕ) (e : s ≡ layout v.kind v.id v.index v.total v.contents) (h : length s ≤ length out) where
  abbrev laying : Call frame-lay.Kinds.ps frame-lay.Kinds.r frame-lay.Reads.Learnt
  laying = record {
    lifetimes = ([], ([], ([], tt)));
    args = (v.kind, (slice v.id, (v.index, (v.total, (slice v.contents, (lent out, tt))))));
    answer = Ok (length s);
    left = (tt, (tt, (tt, (tt, (tt, (over 0 s out, tt))))));
    kept = can_write (done (layout v.kind v.id v.index v.total v.contents)) s out (ap done (sym e)) h;
  }

abbrev reading : List ℕ → Call frame-read.Kinds.ps frame-read.Kinds.r frame-read.Reads.Learnt
reading s = record { lifetimes = ([], tt); args = (slice s, tt); answer = (frame_answer s).0; left = (tt, tt); kept = (frame_answer s).1 }

frames_ruled : Ruled frames FrameForm
frames_ruled = record {
  back = frame_back;
  only = frame_only;
  form = λ v s t a b. a.1 ∙ sym b.1;
  can_read = λ s. (value_of (frame.told (frame_answer s).0), (reading s, refl, refl));
  reads = λ s a (k, i, e). sym e ∙ ap value_of (frame_read_link k ∙ ap F.frame_of i);
  writes = λ v out x n (al, (k, a, b, c, d, g, i, j, e)).
      let t = wrote_done (done (layout v.kind v.id v.index v.total v.contents)) out x n (rw (a, b, c, d, g, i, j, e) at (frame_lay_link k)) in
      (t.0, (al, sym (done_value t.1)), t.2);
  write = λ v s (al, e) out h. (al, (laying v s out e h, refl, refl, refl, refl, refl, refl, refl, refl));
}

pub frames_exact : Exact frames
frames_exact = exact frames FrameForm frames_ruled
