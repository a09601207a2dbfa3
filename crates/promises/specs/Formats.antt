-- What R1.3 says of one format, and the formats. A reader and a writer are said by calls of the
-- public functions whose contracts held (Calls.antt), so what is said of a format is said of the
-- contracts in the sources. Of a call's parameters `.0` is the first, `.1 .0` the second, and so
-- on.
use Rattle.std.specs.Prelude.{ℕ, ◌≤◌, ◌<◌, ◌^◌, ◌≡◌, List, length, take, drop, Result, Ok, Err}
use borrow.Fn.Kinds.{Out}
use Rattle.wire.specs.Answer.{Answer, done, refused_at, refused, then, value_of}
use Rattle.wire.specs.Number.{Bytes}
use Rattle.wire.specs.Over.{over}
use Rattle.wire.specs.Writing.{told}
use Rattle.wire.specs.Span.{part_at}
use Rattle.text.specs.Text.{Form, base64, zbase32, read_text, kept}
use Rattle.typed.specs.Typed.{plain, read_typed, most_typed}
use Rattle.frame.specs.Frame as F
use Rattle.frame.specs.Allowed.{Allowed}
use Rattle.frame.specs.Answer as frame
use Rattle.cover.specs.declared.Cover.{Cover}
use Rattle.envelope.specs.Envelope.{envelope_at}
use Rattle.wire.specs.Refusal.{number}
use Rattle.wire.specs.Reading.{told_at}
use Rattle.wire.specs.declared.Refusal.{Refusal}
use Rattle.manifest.specs.Manifest.{Listing, manifest_at}
use Rattle.manifest.specs.Writing.{Said, said_in, listed, Typed}
use Rattle.manifest.specs.declared.Manifest.{Manifest}
use Rattle.auth.specs.Auth.{Claim, auth_at}
use Rattle.auth.specs.Answer.{claim_told}
use Rattle.shard.specs.Shard.{Shard, shard_at}
use Rattle.shard.specs.Answer.{shard_told}
use Rattle.shard.specs.declared.Quorum.{Quorum}
use Rattle.frame.proofs.read as frame-read
use Rattle.frame.proofs.lay as frame-lay
use Rattle.text.proofs.base64_read as text-base64-read
use Rattle.text.proofs.base64_write as text-base64-write
use Rattle.text.proofs.zbase32_read as text-zbase32-read
use Rattle.text.proofs.zbase32_write as text-zbase32-write
use Rattle.typed.proofs.read as typed-read
use Rattle.typed.proofs.write as typed-write
use Rattle.envelope.proofs.read as envelope-read
use Rattle.envelope.proofs.write as envelope-write
use Rattle.manifest.proofs.read as manifest-read
use Rattle.manifest.proofs.write as manifest-write
use Rattle.auth.proofs.read as auth-read
use Rattle.auth.proofs.write as auth-write
use Rattle.shard.proofs.read as shard-read
use Rattle.shard.proofs.write as shard-write
use Rattle.promises.specs.Calls.{Call}

-- what a byte slice can hold
abbrev pub Slice : List ℕ → Type 0
Slice s = Bytes s × (length s < 2 ^ 64)

-- ---- a format

-- Place is what the reader answers with 0, places in its input and numbers; Value what they say, as
-- bytes and numbers
pub record Format (Place Value : Type 0) : Type 1 where
  pub says : List ℕ → Place → Value
  -- what counts of the input: all of it, except for what a text's reader skips
  pub counting : List ℕ → List ℕ
  -- the answer that the rules give for any bytes at all
  pub read : List ℕ → Answer Place
  -- Reads s a: a call of the reader on s answered a
  pub Reads : List ℕ → Answer Place → Type 0
  -- Writes v out x a: a call of the writer with the value v, lent out, answered a and left x
  pub Writes : Value → List ℕ → List ℕ → Answer ℕ → Type 0

-- a format is read and written exactly (R1.3)
pub record Exact {Place Value : Type 0} (f : Format Place Value) : Type 0 where
  -- nothing below is said of calls that cannot be: the reader can be called on any bytes (R1.1)
  pub happens : (s : List ℕ) → (a : Answer Place) × f.Reads s a
  -- whatever is read, the reader's answer is the one that the rules give: accepted with this value,
  -- or refused with this number and place (R1.2)
  pub reason : (s : List ℕ) (a : Answer Place) → f.Reads s a → a ≡ f.read s
  -- what is written reads back equal (R1.3)
  pub back : (v : Value) (out x : List ℕ) (n : ℕ) (a : Answer Place) → f.Writes v out x (done n) → f.Reads (take n x) a
      → (p : Place) × (a ≡ done p) × (f.says (take n x) p ≡ v)
  -- what is read is what the writer writes of the value read, into any output with room for it
  -- (R1.3), and behind it the output stays (R1.2)
  pub only : (s : List ℕ) (p : Place) → Slice s → f.Reads s (done p) → (out : List ℕ) → length (f.counting s) ≤ length out
      → f.Writes (f.says s p) out (over 0 (f.counting s) out) (done (length (f.counting s)))
  -- one form for each value
  pub form : (v : Value) (out x : List ℕ) (m : ℕ) (out' y : List ℕ) (n : ℕ) → f.Writes v out x (done m) → f.Writes v out' y (done n) → take m x ≡ take n y
  -- bytes that no value is written as are refused (R1.3)
  pub refused : (s : List ℕ) (a : Answer Place) → Slice s
      → ((v : Value) (out x : List ℕ) (n : ℕ) → f.Writes v out x (done n) → take n x ≡ f.counting s → ⊥)
      → f.Reads s a → (n : ℕ) × (place : ℕ) × (a ≡ refused_at n place)

-- a format in which all of the input counts
abbrev pub whole : {Place Value : Type 0} (says : List ℕ → Place → Value) (read : List ℕ → Answer Place)
    (Reads : List ℕ → Answer Place → Type 0) (Writes : Value → List ℕ → List ℕ → Answer ℕ → Type 0) → Format Place Value
whole says read Reads Writes = record { says = says; counting = λ s. s; read = read; Reads = Reads; Writes = Writes }

-- ---- a page: any frame

pub record Frame : Type 0 where
  pub kind : ℕ
  pub id : List ℕ
  pub index : ℕ
  pub total : ℕ
  pub contents : List ℕ

abbrev pub frame_says : List ℕ → F.Frame → Frame
frame_says s f = record { kind = f.kind; id = F.id_of s; index = f.index; total = f.total; contents = F.data_of s f }

-- the writer lays out any parts; those of a frame are the allowed ones
abbrev pub frames : Format F.Frame Frame
frames = whole frame_says (λ s. value_of (F.frame_of s))
    (λ s a.
    (k : Call frame-read.Kinds.ps frame-read.Kinds.r frame-read.Reads.Learnt) × (k.args.0.now ≡ s) × (value_of (frame.told k.answer) ≡ a))
    (λ v out x a.
    Allowed v.kind v.id v.index v.total v.contents
    × ((k : Call frame-lay.Kinds.ps frame-lay.Kinds.r frame-lay.Reads.Learnt)
    × (k.args.0 ≡ v.kind) × (k.args.1.0.now ≡ v.id) × (k.args.1.1.0 ≡ v.index) × (k.args.1.1.1.0 ≡ v.total)
    × (k.args.1.1.1.1.0.now ≡ v.contents) × (k.args.1.1.1.1.1.0.now ≡ out) × (k.left.1.1.1.1.1.0 ≡ x) × (told k.answer ≡ a)))

-- ---- both text forms

-- what was read stands in front of the lent output
abbrev pub text_said : Answer ℕ → List ℕ → Answer (List ℕ)
text_said a x = then a (λ n. done (take n x))

-- over the calls of a reader and a writer: (what was given) (what was lent) (what was left) (the
-- answer). A reader is lent as many bytes as the text has
abbrev pub texts : Form → (Reader Writer : List ℕ → List ℕ → List ℕ → Answer ℕ → Type 0) → Format (List ℕ) (List ℕ)
texts f Reader Writer = record {
  says = λ s bs. bs;
  counting = kept f;
  read = read_text f;
  Reads = λ s a. (out : List ℕ) × (x : List ℕ) × (r : Answer ℕ) × Reader s out x r × (length s ≤ length out) × (text_said r x ≡ a);
  Writes = λ v out x a. Bytes v × Writer v out x a;
}

-- a call of any of the four functions: all take a slice and are lent one
abbrev pub TextCall : (contract : Out 2 text-base64-read.Kinds.ps text-base64-read.Kinds.r) (s out x : List ℕ) (a : Answer ℕ) → Type 0
TextCall contract s out x a =
    (k : Call text-base64-read.Kinds.ps text-base64-read.Kinds.r contract)
    × (k.args.0.now ≡ s) × (k.args.1.0.now ≡ out) × (k.left.1.0 ≡ x) × (told k.answer ≡ a)

abbrev pub scans : Format (List ℕ) (List ℕ)
scans = texts base64 (TextCall text-base64-read.Reads.Learnt) (TextCall text-base64-write.Reads.Learnt)

abbrev pub typing : Format (List ℕ) (List ℕ)
typing = texts zbase32 (TextCall text-zbase32-read.Reads.Learnt) (TextCall text-zbase32-write.Reads.Learnt)

-- ---- typed lines

abbrev pub LinesCall : (s out x : List ℕ) (a : Answer ℕ) → Type 0
LinesCall s out x a =
    (k : Call typed-read.Kinds.ps typed-read.Kinds.r typed-read.Reads.Learnt)
    × (k.args.0.now ≡ s) × (k.args.1.0.now ≡ out) × (k.left.1.0 ≡ x) × (told_at k.answer ≡ a)

-- the reader is lent as many bytes as typed lines can have
abbrev pub typed_lines : Format (List ℕ) (List ℕ)
typed_lines = record {
  says = λ s bs. bs;
  counting = plain;
  read = read_typed;
  Reads = λ s a. (out : List ℕ) × (x : List ℕ) × (r : Answer ℕ) × LinesCall s out x r × (most_typed ≤ length out) × (text_said r x ≡ a);
  Writes = λ v out x a. Bytes v × TextCall typed-write.Reads.Learnt v out x a;
}

-- ---- the envelope

pub record Enclosed : Type 0 where
  pub manifest : List ℕ
  pub payload : List ℕ

abbrev pub envelopes : Format Cover Enclosed
envelopes = whole (λ s c. record { manifest = part_at s c.manifest; payload = part_at s c.payload }) envelope_at
    (λ s a.
    (k : Call envelope-read.Kinds.ps envelope-read.Kinds.r envelope-read.Reads.Learnt) × (k.args.0.now ≡ s) × (told_at k.answer ≡ a))
    (λ v out x a.
    (length v.payload < 2 ^ 64)
    × ((k : Call envelope-write.Kinds.ps envelope-write.Kinds.r envelope-write.Reads.Learnt)
    × (k.args.0.now ≡ v.manifest) × (k.args.1.0.now ≡ v.payload) × (k.args.1.1.0.now ≡ out) × (k.left.1.1.0 ≡ x)
    × (told_at k.answer ≡ a)))

-- ---- the manifest: the writer's value names its bytes by places in a pool

abbrev pub manifest_told : Result (Manifest × ℕ) Refusal → Answer Listing
manifest_told (Ok (m, next)) = done (listed m)
manifest_told (Err e) = refused (number e)

abbrev pub manifests : Format Listing Said
manifests = whole said_in (λ s. value_of (manifest_at s))
    (λ s a.
    (k : Call manifest-read.Kinds.ps manifest-read.Kinds.r manifest-read.Reads.Learnt)
    × (k.args.0.now ≡ s) × (manifest_told k.answer ≡ a))
    (λ v out x a.
    (k : Call manifest-write.Kinds.ps manifest-write.Kinds.r manifest-write.Reads.Learnt)
    × Typed k.args.1.0 × (said_in k.args.0.now (listed k.args.1.0) ≡ v) × (k.args.1.1.0.now ≡ out) × (k.left.1.1.0 ≡ x)
    × (told k.answer ≡ a))

-- ---- the auth payload

pub record Auth : Type 0 where
  pub public : List ℕ
  pub sig : List ℕ
  pub hash : List ℕ

abbrev pub auth_says : List ℕ → Claim → Auth
auth_says s c = record { public = take 32 (drop c.public s); sig = take 64 (drop c.sig s); hash = take 32 (drop c.hash s) }

abbrev pub auths : Format Claim Auth
auths = whole auth_says (λ s. value_of (auth_at s))
    (λ s a.
    (k : Call auth-read.Kinds.ps auth-read.Kinds.r auth-read.Reads.Learnt) × (k.args.0.now ≡ s) × (value_of (claim_told k.answer) ≡ a))
    (λ v out x a.
    (k : Call auth-write.Kinds.ps auth-write.Kinds.r auth-write.Reads.Learnt)
    × (k.args.0.now ≡ v.public) × (k.args.1.0.now ≡ v.sig) × (k.args.1.1.0.now ≡ v.hash)
    × (k.args.1.1.1.0.now ≡ out) × (k.left.1.1.1.0 ≡ x) × (told k.answer ≡ a))

-- ---- the shard payload

pub record Share : Type 0 where
  pub signed : Auth
  pub kind : List ℕ
  pub share : List ℕ
  pub len : ℕ
  pub quorum : Quorum

abbrev pub shard_says : List ℕ → Shard → Share
shard_says s v = record {
  signed = auth_says s v.claim;
  kind = part_at s v.content.kind;
  share = part_at s v.content.share;
  len = v.content.length;
  quorum = v.quorum;
}

abbrev pub shards : Format Shard Share
shards = whole shard_says (λ s. value_of (shard_at s))
    (λ s a.
    (k : Call shard-read.Kinds.ps shard-read.Kinds.r shard-read.Reads.Learnt) × (k.args.0.now ≡ s) × (value_of (shard_told k.answer) ≡ a))
    (λ v out x a.
    (k : Call shard-write.Kinds.ps shard-write.Kinds.r shard-write.Reads.Learnt)
    × (k.args.0.now ≡ v.signed.public) × (k.args.1.0.now ≡ v.signed.sig) × (k.args.1.1.0.now ≡ v.signed.hash)
    × (k.args.1.1.1.0.now ≡ v.kind) × (k.args.1.1.1.1.0.now ≡ v.share) × (k.args.1.1.1.1.1.0 ≡ v.len)
    × (k.args.1.1.1.1.1.1.0 ≡ v.quorum)
    × (k.args.1.1.1.1.1.1.1.0.now ≡ out) × (k.left.1.1.1.1.1.1.1.0 ≡ x) × (told k.answer ≡ a))
