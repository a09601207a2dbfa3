-- The payloads are read and written exactly: the theorems of their crates, and what their contracts
-- say, in the words of specs/Formats.antt. Assumes nothing.
use Prim.Native.Nat.{ℕ, ◌^◌, ◌≤◌, ◌<◌}
use mathlib.Core.Path.{◌≡◌, refl, sym, ap, ◌∙◌, subst}
use mathlib.Core.List.{List, []}
use native.Mathlib.Omega.{arith}
use native.Mathlib.Nat.{min-le_right}
use lib.ListN.{length, take, drop, length-take, length-drop}
use Rattle.wire.specs.Answer.{Answer, done, refused_at, refused, then, Got, value_of}
use Rattle.wire.specs.Over.{over}
use Rattle.std.specs.Prelude.{Result, Ok, Err}
use Rattle.wire.proofs.Cases.{not_done, then_done, done_value, got_value, value_passed}
use Rattle.cover.specs.Cover.{cover_of}
use Rattle.cover.specs.declared.Cover.{Cover}
use Rattle.envelope.specs.Envelope.{judged, envelope_at, verdict}
use Rattle.envelope.proofs.Rounds.{Accepted, envelope_back, envelope_only}
use Rattle.manifest.specs.Manifest.{Listing, manifest_at}
use Rattle.manifest.specs.Answer.{answer_for, padded}
use Rattle.manifest.specs.Writing.{Said, said_in, said_of, listed, manifest_of, manifest_verdict, Typed}
use Rattle.manifest.specs.declared.Manifest.{Manifest}
use Rattle.wire.specs.Reading.{told, told_at}
use Rattle.wire.specs.declared.RefusedAt.{RefusedAt}
use Rattle.wire.specs.declared.Refusal.{Refusal}
use Rattle.wire.proofs.Placeless.{placeless_done, placeless_then}
use Rattle.promises.proofs.Manifests.{manifest_placeless, envelope_named}
use Rattle.manifest.proofs.Rounds.{manifest_back, manifest_only, manifest_within, manifest_steps, listed_value}
use Rattle.manifest.proofs.Answers.{padded_long}
use Rattle.manifest.proofs.Parts.{created_only}
use Rattle.manifest.proofs.Lengths.{verdict_fit}
use Rattle.auth.specs.Auth.{Claim, auth_at, auth_verdict}
use Rattle.auth.proofs.Rounds.{auth_written_back, auth_again}
use Rattle.shard.specs.Shard.{Shard, shard_at, shard_verdict}
use Rattle.shard.proofs.Rounds.{shard_written_back, shard_again}
use Rattle.envelope.proofs.read as envelope-read
use Rattle.envelope.proofs.write as envelope-write
use Rattle.manifest.proofs.read as manifest-read
use Rattle.manifest.proofs.write as manifest-write
use Rattle.auth.proofs.read as auth-read
use Rattle.auth.proofs.write as auth-write
use Rattle.shard.proofs.read as shard-read
use Rattle.shard.proofs.write as shard-write
use Rattle.promises.specs.Calls.{Call}
use Rattle.promises.specs.Formats.{Slice, Exact, Enclosed, envelopes, manifest_told, manifests, Auth, auths, Share, shards}
use Rattle.promises.proofs.Writers.{slice, lent, wrote_done, can_write}
use Rattle.auth.specs.Answer.{claim_told}
use Rattle.shard.specs.Answer.{shard_told}
use Rattle.promises.proofs.Answered.{can_tell, can_tell_at, claim_answer, shard_answer}
use Rattle.promises.proofs.Formats.{Ruled, exact}
use Rattle.promises.proofs.Links.Auth.{auth_read_link, auth_write_link}
use Rattle.promises.proofs.Links.Envelope.{envelope_read_link, envelope_write_link}
use Rattle.promises.proofs.Links.Manifest.{manifest_read_link, manifest_write_link}
use Rattle.promises.proofs.Links.Shard.{shard_read_link, shard_write_link}

-- ---- the envelope

abbrev EnvelopeForm : Enclosed → List ℕ → Type 0
EnvelopeForm v s = (length v.payload < 2 ^ 64) × (verdict v.manifest v.payload ≡ done s)

-- what the writer takes is judged fine, and is laid out
taken : (m p s : List ℕ) → verdict m p ≡ done s → Accepted m p × (cover_of m p ≡ s)
unfolding verdict
taken m p s e = let t = then_done (judged m p) _ e in (t.1, done_value t.2)

enclosed_back : (v : Enclosed) (s : List ℕ) → EnvelopeForm v s → (p : Cover) × (envelope_at s ≡ done p) × (envelopes.says s p ≡ v)
enclosed_back v s (l, e) =
    let t = taken v.manifest v.payload s e in
    let r = envelope_back v.manifest v.payload l t.0 in
    subst (λ (x : List ℕ). (p : Cover) × (envelope_at x ≡ done p) × (envelopes.says x p ≡ v)) t.1
    (r.cover, r.read, rw (r.manifest_is, r.payload_is))

-- a part of a slice is no longer
part_short : (k n : ℕ) (s : List ℕ) → length (take n (drop k s)) ≤ length s
part_short k n s = omega (arith, length-take n (drop k s), length-drop k s, min-le_right n (length (drop k s)))

enclosed_only : (s : List ℕ) (p : Cover) → Slice s → envelope_at s ≡ done p → EnvelopeForm (envelopes.says s p) s
enclosed_only s p y e = (omega (arith, y.1, part_short p.payload.start p.payload.len s), (envelope_only s p y.0 e).rewritten)

module _ (v : Enclosed) (s out : List ℕ) (e : verdict v.manifest v.payload ≡ done s) (h : length s ≤ length out) where
  abbrev enclosing : Call envelope-write.Kinds.ps envelope-write.Kinds.r envelope-write.Reads.Learnt
  enclosing = record {
    lifetimes = ([], ([], ([], tt)));
    args = (slice v.manifest, (slice v.payload, (lent out, tt)));
    answer = Ok (length s);
    left = (tt, (tt, (over 0 s out, tt)));
    kept = can_write (verdict v.manifest v.payload) s out e h;
  }

envelope_answer : (s : List ℕ) → (r : Result Cover RefusedAt) × (told_at r ≡ envelope_at s)
envelope_answer s = can_tell_at (envelope_at s) (envelope_named s)

abbrev envelope_reading : List ℕ → Call envelope-read.Kinds.ps envelope-read.Kinds.r envelope-read.Reads.Learnt
envelope_reading s = record { lifetimes = ([], tt); args = (slice s, tt); answer = (envelope_answer s).0; left = (tt, tt); kept = (envelope_answer s).1 }

envelopes_ruled : Ruled envelopes EnvelopeForm
envelopes_ruled = record {
  back = enclosed_back;
  only = enclosed_only;
  form = λ v s t a b. done_value (sym a.1 ∙ b.1);
  can_read = λ s. (told_at (envelope_answer s).0, (envelope_reading s, refl, refl));
  reads = λ s a (k, i, e). sym e ∙ envelope_read_link k ∙ ap envelope_at i;
  writes = λ v out x n (l, (k, i, j, o, p, e)).
      let t = wrote_done (verdict v.manifest v.payload) out x n (rw (i, j, o, p, e) at (envelope_write_link k)) in
      (t.0, (l, t.1), t.2);
  write = λ v s (l, e) out h. (l, (enclosing v s out e h, refl, refl, refl, refl, refl));
}

pub envelopes_exact : Exact envelopes
envelopes_exact = exact envelopes EnvelopeForm envelopes_ruled

-- ---- the manifest

abbrev ManifestForm : Said → List ℕ → Type 0
ManifestForm v s = (pool : List ℕ) × (m : Manifest) × Typed m × (said_in pool (listed m) ≡ v) × (manifest_verdict pool m ≡ done s)

listed_back : (v : Said) (s : List ℕ) → ManifestForm v s → (p : Listing) × (manifests.read s ≡ done p) × (said_in s p ≡ v)
listed_back v s (pool, m, typed, says, e) = let r = manifest_back pool m typed e in (r.0, ap value_of r.1, r.2 ∙ says)

-- the value that was read, with the input as its pool, is what is written
listed_only : (s : List ℕ) (p : Listing) → Slice s → manifests.read s ≡ done p → ManifestForm (said_in s p) s
listed_only s p y e =
    let g = value_passed (manifest_at s) e in
    let w = manifest_within s g.1 in
    let d = created_only y.0 (manifest_steps s g.1).ended.created_read in
    let typed : Typed (value p) = record { array = padded_long p.files w.1; bits = d.2 } in
    (s, value p, typed, ap (said_in s) (listed_value p), sym (ap (λ (r : Got Listing). then (answer_for r) (λ (m, p). manifest_verdict s m)) g.1) ∙ (manifest_only y.0 g.1).2)
  where
    value : Listing → Manifest
    value p = record { seed = p.seed; files = padded p.files; count = length p.files; sealed = p.sealed; created = p.created }

-- what is written is the form of what the value says
listed_form : (v : Said) (s : List ℕ) → ManifestForm v s → said_of v ≡ s
unfolding manifest_of
listed_form v s (pool, m, typed, says, e) = ap said_of (sym says) ∙ sym (verdict_fit pool m e).1

-- the reader's answer says what was read
listed_said : (g : Got Listing) (r : Result (Manifest × ℕ) Refusal) → told r ≡ answer_for g → manifest_told r ≡ value_of g
listed_said (done (p, n)) (Ok (m, next)) e = ap (λ (x : Manifest). done (listed x)) (got_value e) ∙ ap done (listed_value p)
listed_said (done (p, n)) (Err w) e = not_done e
listed_said (refused_at k place) (Ok x) e = not_done (sym e)
listed_said (refused_at k place) (Err w) e = ap refused cc

-- some answer says it
manifest_answer : (s : List ℕ) → (r : Result (Manifest × ℕ) Refusal) × (told r ≡ answer_for (manifest_at s))
manifest_answer s = can_tell (answer_for (manifest_at s)) (placeless_then (manifest_at s) _ (manifest_placeless s) (λ v. placeless_done _))

module _ (pool : List ℕ) (m : Manifest) (s out : List ℕ) (e : manifest_verdict pool m ≡ done s) (h : length s ≤ length out) where
  abbrev listing : Call manifest-write.Kinds.ps manifest-write.Kinds.r manifest-write.Reads.Learnt
  listing = record {
    lifetimes = ([], ([], tt));
    args = (slice pool, (m, (lent out, tt)));
    answer = Ok (length s);
    left = (tt, (tt, (over 0 s out, tt)));
    kept = can_write (manifest_verdict pool m) s out e h;
  }

abbrev manifest_reading : List ℕ → Call manifest-read.Kinds.ps manifest-read.Kinds.r manifest-read.Reads.Learnt
manifest_reading s = record { lifetimes = ([], tt); args = (slice s, tt); answer = (manifest_answer s).0; left = (tt, tt); kept = (manifest_answer s).1 }

manifests_ruled : Ruled manifests ManifestForm
manifests_ruled = record {
  back = listed_back;
  only = listed_only;
  form = λ v s t a b. sym (listed_form v s a) ∙ listed_form v t b;
  can_read = λ s. (manifest_told (manifest_answer s).0, (manifest_reading s, refl, refl));
  reads = λ s a (k, i, e).
      sym e ∙ listed_said (manifest_at s) k.answer (manifest_read_link k ∙ ap (λ (x : List ℕ). answer_for (manifest_at x)) i);
  writes = λ v out x n (k, t, i, o, p, e).
      let u = wrote_done (manifest_verdict k.args.0.now k.args.1.0) out x n (rw (o, p, e) at (manifest_write_link k)) in
      (u.0, (k.args.0.now, k.args.1.0, t, i, u.1), u.2);
  write = λ v s (pool, m, t, i, e) out h. (listing pool m s out e h, t, i, refl, refl, refl);
}

pub manifests_exact : Exact manifests
manifests_exact = exact manifests ManifestForm manifests_ruled

-- ---- the auth payload

abbrev pub AuthForm : Auth → List ℕ → Type 0
AuthForm v s = auth_verdict v.public v.sig v.hash ≡ done s

signed_back : (v : Auth) (s : List ℕ) → AuthForm v s → (p : Claim) × (auths.read s ≡ done p) × (auths.says s p ≡ v)
signed_back v s e =
    let r = auth_written_back v.public v.sig v.hash e in
    (r.0, ap value_of r.1, rw (r.2.public_is, r.2.sig_is, r.2.hash_is))

signed_only : (s : List ℕ) (p : Claim) → Slice s → auths.read s ≡ done p → AuthForm (auths.says s p) s
signed_only s p y e = let g = value_passed (auth_at s) e in auth_again y.0 g.1

module _ (v : Auth) (s out : List ℕ) (e : AuthForm v s) (h : length s ≤ length out) where
  abbrev signing : Call auth-write.Kinds.ps auth-write.Kinds.r auth-write.Reads.Learnt
  signing = record {
    lifetimes = ([], ([], ([], ([], tt))));
    args = (slice v.public, (slice v.sig, (slice v.hash, (lent out, tt))));
    answer = Ok (length s);
    left = (tt, (tt, (tt, (over 0 s out, tt))));
    kept = can_write (auth_verdict v.public v.sig v.hash) s out e h;
  }

abbrev auth_reading : List ℕ → Call auth-read.Kinds.ps auth-read.Kinds.r auth-read.Reads.Learnt
auth_reading s = record { lifetimes = ([], tt); args = (slice s, tt); answer = (claim_answer s).0; left = (tt, tt); kept = (claim_answer s).1 }

pub auths_ruled : Ruled auths AuthForm
auths_ruled = record {
  back = signed_back;
  only = signed_only;
  form = λ v s t a b. done_value (sym a ∙ b);
  can_read = λ s. (value_of (claim_told (claim_answer s).0), (auth_reading s, refl, refl));
  reads = λ s a (k, i, e). sym e ∙ ap value_of (auth_read_link k ∙ ap auth_at i);
  writes = λ v out x n (k, i, j, g, o, p, e).
      wrote_done (auth_verdict v.public v.sig v.hash) out x n (rw (i, j, g, o, p, e) at (auth_write_link k));
  write = λ v s e out h. (signing v s out e h, refl, refl, refl, refl, refl, refl);
}

pub auths_exact : Exact auths
auths_exact = exact auths AuthForm auths_ruled

-- ---- the shard payload

abbrev verdict_of : Share → Answer (List ℕ)
verdict_of v = shard_verdict v.signed.public v.signed.sig v.signed.hash v.kind v.share v.len v.quorum

abbrev pub ShardForm : Share → List ℕ → Type 0
ShardForm v s = verdict_of v ≡ done s

share_back : (v : Share) (s : List ℕ) → ShardForm v s → (p : Shard) × (shards.read s ≡ done p) × (shards.says s p ≡ v)
share_back v s e =
    let r = shard_written_back v.signed.public v.signed.sig v.signed.hash v.kind v.share v.len v.quorum e in
    let c = r.2.claim_is in
    let d = r.2.content_is in
    (r.0, ap value_of r.1, rw (c.public_is, c.sig_is, c.hash_is, d.kind_is, d.share_is, d.length_is, r.2.quorum_is))

share_only : (s : List ℕ) (p : Shard) → Slice s → shards.read s ≡ done p → ShardForm (shards.says s p) s
share_only s p y e = let g = value_passed (shard_at s) e in shard_again y.0 g.1

module _ (v : Share) (s out : List ℕ) (e : ShardForm v s) (h : length s ≤ length out) where
  abbrev sharing : Call shard-write.Kinds.ps shard-write.Kinds.r shard-write.Reads.Learnt
  sharing = record {
    lifetimes = ([], ([], ([], ([], ([], ([], tt))))));
    args = (slice v.signed.public, (slice v.signed.sig, (slice v.signed.hash, (slice v.kind, (slice v.share, (v.len, (v.quorum, (lent out, tt))))))));
    answer = Ok (length s);
    left = (tt, (tt, (tt, (tt, (tt, (tt, (tt, (over 0 s out, tt))))))));
    kept = can_write (verdict_of v) s out e h;
  }

abbrev shard_reading : List ℕ → Call shard-read.Kinds.ps shard-read.Kinds.r shard-read.Reads.Learnt
shard_reading s = record { lifetimes = ([], tt); args = (slice s, tt); answer = (shard_answer s).0; left = (tt, tt); kept = (shard_answer s).1 }

pub shards_ruled : Ruled shards ShardForm
shards_ruled = record {
  back = share_back;
  only = share_only;
  form = λ v s t a b. done_value (sym a ∙ b);
  can_read = λ s. (value_of (shard_told (shard_answer s).0), (shard_reading s, refl, refl));
  reads = λ s a (k, i, e). sym e ∙ ap value_of (shard_read_link k ∙ ap shard_at i);
  writes = λ v out x n (k, a, b, c, d, g, l, q, o, p, e).
      wrote_done (verdict_of v) out x n (rw (a, b, c, d, g, l, q, o, p, e) at (shard_write_link k));
  write = λ v s e out h. (sharing v s out e h, refl, refl, refl, refl, refl, refl, refl, refl, refl, refl);
}

pub shards_exact : Exact shards
shards_exact = exact shards ShardForm shards_ruled
