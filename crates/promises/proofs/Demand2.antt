-- The second demand, R1.3, holds (specs/Demand2.antt). Assumes nothing.
use Prim.Native.Nat.{ℕ, ◌≤◌, ◌<◌}
use mathlib.Core.Path.{◌≡◌, refl, sym, ap, ◌∙◌, subst}
use mathlib.Core.Logic.{inl, inr}
use mathlib.Core.List.{List}
use native.Mathlib.Omega.{arith}
use lib.ListN.{length, take}
use Rattle.wire.specs.Answer.{Answer, done, Got, value_of, Kept}
use Rattle.wire.specs.Number.{Bytes}
use Rattle.wire.specs.Writing.{writing}
use Rattle.wire.proofs.Cases.{done_value}
use Rattle.text.specs.Text.{Form, base64, zbase32, read_text, text_of}
use Rattle.text.proofs.Forms.{Lawful, base64_lawful, zbase32_lawful}
use Rattle.frame.specs.Layout.{layout}
use Rattle.frame.specs.Allowed.{Kind}
use Rattle.frame.proofs.ReadsBack.{ReadsAs}
use Rattle.page.specs.Page.{page_count, page_verdict, page_frame, Printed, typed}
use Rattle.page.proofs.Pages.{pages_join}
use Rattle.page.proofs.Round.{page_written, page_reads, page_typed}
use Rattle.page.proofs.Typing.{frame_short}
use Rattle.auth.specs.Auth.{auth_at}
use Rattle.shard.specs.Shard.{shard_at}
use Rattle.payload_frame.specs.Payload.{payload_frame_of}
use Rattle.payload_frame.proofs.Round.{payload_frame_carried, payload_frame_reads, payload_frame_short, shard_carried, auth_carried}
use Rattle.promises.specs.Formats.{Format, Exact, frames, scans, typing, auths, shards}
use Rattle.promises.specs.Demand2.{ReadAs, Framed, Scanned, Typed, page_of, ThroughText, Pages, Keyed, Signed, payload_says, Carries, Demand2}
use Rattle.promises.proofs.Writers.{Stands, stands_front, wrote_done, written_room}
use Rattle.promises.proofs.Formats.{frames_exact}
use Rattle.promises.proofs.Texts.{scans_exact, typing_exact}
use Rattle.promises.proofs.TypedLines.{lines_exact}
use Rattle.promises.proofs.Payloads.{envelopes_exact, manifests_exact, auths_ruled, auths_exact, shards_ruled, shards_exact}
use Rattle.promises.proofs.Links.Page.{page_write_base64_link, page_write_link, page_write_zbase32_link}
use Rattle.promises.proofs.Links.PayloadFrame.{payload_frame_auth_link, payload_frame_key_link}

-- bytes that the rules read as a value are read so by every call
by_rule : {Place Value : Type 0} (f : Format Place Value) → Exact f → (s : List ℕ) (v : Value) (p : Place) → f.read s ≡ done p → f.says s p ≡ v → ReadAs f s v
by_rule f x s v p e h a r = (p, x.reason s a r ∙ e, h)

-- a frame that is read as its parts says them
read_as : {s : List ℕ} {kind : ℕ} {id : List ℕ} {index total : ℕ} {contents : List ℕ} → ReadsAs s kind id index total contents
    → ReadAs frames s (record { kind = kind; id = id; index = index; total = total; contents = contents })
read_as {s} {kind} {id} {index} {total} {contents} r =
    by_rule frames frames_exact s (record { kind = kind; id = id; index = index; total = total; contents = contents }) r.frame (ap value_of r.read)
    (rw (r.kind_is, r.index_is, r.total_is, r.id_is, r.data_is))

-- ---- the pages of a document

module _ (c : List ℕ) (size : ℕ) (y : Bytes c) (p : Printed c size) (i : ℕ) (here : i < page_count (length c) size) where
  -- what a call of page::write says
  framed : (out x : List ℕ) (a : Answer ℕ) → Framed c size i out x a → Kept (writing 0 out (done (page_frame c size i))) out x a
  framed out x a (k, d, e, f, g, h, t) = rw (page_written c size p i here) at (rw (d, e, f, g, h, t) at (page_write_link k))

  framed_front : (out x : List ℕ) (n : ℕ) → Framed c size i out x (done n) → take n x ≡ page_frame c size i
  framed_front out x n k =
      let t = wrote_done (done (page_frame c size i)) out x n (framed out x (done n) k) in
      stands_front t.2 ∙ sym (done_value t.1)

  page_room : (out x : List ℕ) (a : Answer ℕ) → 500 ≤ length out → Framed c size i out x a → (n : ℕ) × (a ≡ done n)
  page_room out x a h k =
      let s = frame_short c size i (page_frame c size i) (page_written c size p i here) in
      (length (page_frame c size i), (written_room (page_frame c size i) out x a (omega arith) (framed out x a k)).0)

  page_back : (out x : List ℕ) (n : ℕ) → Framed c size i out x (done n) → ReadAs frames (take n x) (page_of c size i)
  page_back out x n k = subst (λ (s : List ℕ). ReadAs frames s (page_of c size i)) (sym (framed_front out x n k)) (read_as (page_reads c size p i here))

  -- a text that was written of the page is the text of its frame
  text_front : (f : Form) (out x : List ℕ) (n : ℕ) → Kept (writing 0 out (typed f (page_verdict c size i))) out x (done n) → take n x ≡ text_of f (page_frame c size i)
  text_front f out x n w =
      let t = wrote_done (done (text_of f (page_frame c size i))) out x n (rw (page_written c size p i here) at w) in
      stands_front t.2 ∙ sym (done_value t.1)

  -- and reads as it
  text_back : (f : Form) → Lawful f → read_text f (text_of f (page_frame c size i)) ≡ done (page_frame c size i)
  text_back f law = page_typed c size p i here y f law

module _ (c : List ℕ) (size : ℕ) (y : Bytes c) (p : Printed c size) where
  through_scans : ThroughText Scanned scans.Reads c size
  through_scans i here out x m out' z n a k (l, d, e, f, g, h, t) r =
      let s = text_front c size y p i here base64 out' z n (rw (d, e, f, g, h, t) at (page_write_base64_link l)) in
      scans_exact.reason (take n z) a r
      ∙ ap (read_text base64) s
      ∙ text_back c size y p i here base64 base64_lawful
      ∙ ap (λ (w : List ℕ). done w) (sym (framed_front c size y p i here out x m k))

  through_typing : ThroughText Typed typing.Reads c size
  through_typing i here out x m out' z n a k (l, d, e, f, g, h, t) r =
      let s = text_front c size y p i here zbase32 out' z n (rw (d, e, f, g, h, t) at (page_write_zbase32_link l)) in
      typing_exact.reason (take n z) a r
      ∙ ap (read_text zbase32) s
      ∙ text_back c size y p i here zbase32 zbase32_lawful
      ∙ ap (λ (w : List ℕ). done w) (sym (framed_front c size y p i here out x m k))

  printed_pages : Pages c size
  printed_pages = record {
    written = λ i here. page_room c size y p i here;
    each = λ i here. page_back c size y p i here;
    scanned = through_scans;
    typed_in = through_typing;
    whole = pages_join c size p.least;
  }

-- ---- key and auth frames

-- a key or auth frame for the payload f: each call of its writer keeps what `payload_frame_of`
-- says, and whatever the payload's writer wrote is carried
module _ {Place Value : Type 0} (f : Format Place Value) (exactly : Exact f) (kind : ℕ) (k : Kind kind) (reader : List ℕ → Got Place) (rule : (s : List ℕ) → f.read s ≡ value_of (reader s))
    (Writer : List ℕ → List ℕ → List ℕ → List ℕ → Answer ℕ → Type 0)
    (keeps : (id contents out x : List ℕ) (a : Answer ℕ) → Writer id contents out x a → Kept (writing 0 out (payload_frame_of kind id contents (reader contents))) out x a)
    (carried : (v : Value) (lent y : List ℕ) (m : ℕ) → f.Writes v lent y (done m) → (id : List ℕ) → length id ≡ 8
    → (frame : List ℕ) × (payload_frame_of kind id (take m y) (reader (take m y)) ≡ done frame)) where
  wrote_payload : (id contents out x : List ℕ) (n : ℕ) → Writer id contents out x (done n) → (frame : List ℕ) × (payload_frame_of kind id contents (reader contents) ≡ done frame) × Stands frame out x n
  wrote_payload id contents out x n c = wrote_done (payload_frame_of kind id contents (reader contents)) out x n (keeps id contents out x (done n) c)

  carries : Carries f kind Writer
  carries = record {
    taken = λ v lent y m w id out x a i l c.
        let h = carried v lent y m w id i in
        let s = payload_frame_short kind id (take m y) (reader (take m y)) h.0 h.1 in
        (length h.0, (written_room h.0 out x a (omega arith) (rw h.1 at (keeps id (take m y) out x a c))).0);
    back = λ id contents out x n c.
        let t = wrote_payload id contents out x n c in
        subst (λ (s : List ℕ). ReadAs frames s (payload_says kind id contents)) (sym (stands_front t.2)) (read_as (payload_frame_reads kind id contents (reader contents) t.0 k t.1));
    accepted = λ id contents out x n c a r.
        let t = wrote_payload id contents out x n c in
        let u = payload_frame_carried kind id contents (reader contents) t.0 t.1 in
        (u.value, exactly.reason contents a r ∙ rule contents ∙ ap value_of u.accepted);
  }

key_carries : Carries shards 0x4B Keyed
key_carries =
    carries shards shards_exact 0x4B (inr (inl refl)) shard_at (λ s. refl) Keyed
    (λ id contents out x a (k, i, c, o, l, e). rw (i, c, o, l, e) at (payload_frame_key_link k))
    (λ v lent y m w id i.
    let t = shards_ruled.writes v lent y m w in
    let h = shard_carried id i v.signed.public v.signed.sig v.signed.hash v.kind v.share v.len v.quorum t.1 in
    (layout 0x4B id 0 1 t.0, rw (stands_front t.2) h))

auth_carries : Carries auths 0x41 Signed
auth_carries =
    carries auths auths_exact 0x41 (inr (inr refl)) auth_at (λ s. refl) Signed
    (λ id contents out x a (k, i, c, o, l, e). rw (i, c, o, l, e) at (payload_frame_auth_link k))
    (λ v lent y m w id i.
    let t = auths_ruled.writes v lent y m w in
    let h = auth_carried id i v.public v.sig v.hash t.1 in
    (layout 0x41 id 0 1 t.0, rw (stands_front t.2) h))

-- ---- the demand

pub demand2 : Demand2
demand2 = record {
  pages = frames_exact;
  printed = printed_pages;
  keys = key_carries;
  signatures = auth_carries;
  scan = scans_exact;
  typed = typing_exact;
  lines = lines_exact;
  envelope = envelopes_exact;
  manifest = manifests_exact;
  auth = auths_exact;
  shard = shards_exact;
}
