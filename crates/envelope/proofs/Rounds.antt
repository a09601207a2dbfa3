-- What is written reads back, and what is read would be written again, byte for byte.
-- Assumes nothing.
use Prim.Native.Nat.{ℕ, ◌^◌, ◌<◌, ◌≤◌}
use mathlib.Core.Path.{◌≡◌, sym, ap, subst, ◌∙◌}
use mathlib.Core.List.{List}
use native.Mathlib.Omega.{arith}
use lib.ListN.{length}
use Rattle.wire.specs.Answer.{done, then, value_of}
use Rattle.wire.specs.Number.{Bytes}
use Rattle.wire.specs.Span.{part_at}
use Rattle.wire.proofs.Cases.{then_done, done_value, value_passed}
use Rattle.cover.specs.declared.Cover.{Cover}
use Rattle.cover.specs.Cover.{cover_at, cover_of}
use Rattle.cover.proofs.ReadsBack.{cover_back}
use Rattle.cover.proofs.OnlyLayouts.{cover_only}
use Rattle.manifest.specs.Manifest.{manifest_at}
use Rattle.manifest.proofs.Rounds.{manifest_small}
use Rattle.envelope.specs.Envelope.{contents, judged, envelope_at, verdict}

-- the two parts that an envelope may have
abbrev pub Accepted : List ℕ → List ℕ → Type 0
Accepted m p = judged m p ≡ done tt

-- a manifest that is accepted is no longer than R3.3 allows
accepted_most : (m p : List ℕ) → Accepted m p → length m ≤ 16384
unfolding judged
accepted_most m p h =
    let t = then_done (value_of (manifest_at m)) (λ v. contents m v.files p) h in
    let u = value_passed (manifest_at m) t.1 in
    manifest_small m u.1

-- a list of bytes is read as an envelope of these two parts
pub record ReadsAs (s manifest payload : List ℕ) : Type 0 where
  pub cover : Cover
  pub read : envelope_at s ≡ done cover
  pub manifest_is : part_at s cover.manifest ≡ manifest
  pub payload_is : part_at s cover.payload ≡ payload

pub envelope_back : (m p : List ℕ) → length p < 2 ^ 64 → Accepted m p → ReadsAs (cover_of m p) m p
unfolding envelope_at
envelope_back m p l h =
    let c = cover_back m p (omega (arith, accepted_most m p h)) l in
    record {
      cover = c.cover;
      read = rw (c.read, c.manifest_is, c.payload_is, h);
      manifest_is = c.manifest_is;
      payload_is = c.payload_is;
    }

-- what is read, of bytes, is the layout of its parts, which the writer accepts
pub record Sound (s : List ℕ) (c : Cover) : Type 0 where
  pub whole : s ≡ cover_of (part_at s c.manifest) (part_at s c.payload)
  pub accepted : Accepted (part_at s c.manifest) (part_at s c.payload)
  pub rewritten : verdict (part_at s c.manifest) (part_at s c.payload) ≡ done s

sound : (s : List ℕ) (c : Cover) → s ≡ cover_of (part_at s c.manifest) (part_at s c.payload) → Accepted (part_at s c.manifest) (part_at s c.payload) → Sound s c
unfolding verdict
sound s c w a =
    let v : verdict (part_at s c.manifest) (part_at s c.payload) ≡ done (cover_of (part_at s c.manifest) (part_at s c.payload)) = rw a in
    record { whole = w; accepted = a; rewritten = v ∙ ap done (sym w) }

pub envelope_only : (s : List ℕ) (c : Cover) → Bytes s → envelope_at s ≡ done c → Sound s c
unfolding envelope_at
envelope_only s c y h =
    let t = then_done (value_of (cover_at s)) (λ c. then (judged (part_at s c.manifest) (part_at s c.payload)) (λ _. done c)) h in
    let u = value_passed (cover_at s) t.1 in
    let j = then_done (judged (part_at s t.0.manifest) (part_at s t.0.payload)) (λ _. done t.0) t.2 in
    let e : t.0 ≡ c = done_value j.2 in
    subst (λ (x : Cover). Sound s x) e (sound s t.0 (cover_only s t.0 u.0 y u.1) j.1)
