-- One answer, by each contract itself: payloads. Assumes nothing.
use mathlib.Core.Path.{refl, sym, ◌∙◌}
use Rattle.promises.specs.Once.{Once}
use Rattle.promises.proofs.Lasts.{here, past, past3}
use Rattle.wire.proofs.Answers.{told_injective, told_at_injective}
use Rattle.wire.proofs.Writes.{written_once}
use Rattle.cbor.proofs.Runs.{put_once}
use Rattle.auth.proofs.Answers.{claim_injective}
use Rattle.shard.proofs.Answers.{shard_injective}
use Rattle.cover.proofs.Answers as cover
use Rattle.envelope.proofs.Answers as envelope
use Rattle.auth.proofs.claim as auth-claim
use Rattle.auth.proofs.read as auth-read
use Rattle.auth.proofs.write as auth-write
use Rattle.auth.proofs.signed as auth-signed
use Rattle.shard.proofs.read as shard-read
use Rattle.shard.proofs.write as shard-write
use Rattle.shard.proofs.signed as shard-signed
use Rattle.entry.proofs.read.integer as entry-read-integer
use Rattle.entry.proofs.read.file as entry-read-file
use Rattle.entry.proofs.write.digest as entry-write-digest
use Rattle.entry.proofs.write.judge as entry-write-judge
use Rattle.entry.proofs.write.integer as entry-write-integer
use Rattle.entry.proofs.write.file as entry-write-file
use Rattle.manifest.proofs.read as manifest-read
use Rattle.manifest.proofs.write as manifest-write
use Rattle.cover.proofs.read as cover-read
use Rattle.cover.proofs.lay as cover-lay
use Rattle.envelope.proofs.read as envelope-read
use Rattle.envelope.proofs.write as envelope-write

pub auth_claim_once : Once auth-claim.Kinds.ps auth-claim.Kinds.r auth-claim.Reads.Learnt
auth_claim_once κs args x y u v p q = (claim_injective x y (p ∙ sym q), refl)

pub auth_read_once : Once auth-read.Kinds.ps auth-read.Kinds.r auth-read.Reads.Learnt
auth_read_once κs args x y u v p q = (claim_injective x y (p ∙ sym q), refl)

pub auth_write_once : Once auth-write.Kinds.ps auth-write.Kinds.r auth-write.Reads.Learnt
auth_write_once κs args x y u v p q = let e = written_once x y p q in (e.0, past3 (here e.1))

pub auth_signed_once : Once auth-signed.Kinds.ps auth-signed.Kinds.r auth-signed.Reads.Learnt
auth_signed_once κs args x y u v p q = let e = written_once x y p q in (e.0, past (past (here e.1)))

pub shard_read_once : Once shard-read.Kinds.ps shard-read.Kinds.r shard-read.Reads.Learnt
shard_read_once κs args x y u v p q = (shard_injective x y (p ∙ sym q), refl)

pub shard_write_once : Once shard-write.Kinds.ps shard-write.Kinds.r shard-write.Reads.Learnt
shard_write_once κs args x y u v p q = let e = written_once x y p q in (e.0, past3 (past3 (past (here e.1))))

pub shard_signed_once : Once shard-signed.Kinds.ps shard-signed.Kinds.r shard-signed.Reads.Learnt
shard_signed_once κs args x y u v p q = let e = written_once x y p q in (e.0, past3 (past3 (here e.1)))

pub entry_read_integer_once : Once entry-read-integer.Kinds.ps entry-read-integer.Kinds.r entry-read-integer.Reads.Learnt
entry_read_integer_once κs args x y u v p q = (told_injective x y (p ∙ sym q), refl)

pub entry_read_file_once : Once entry-read-file.Kinds.ps entry-read-file.Kinds.r entry-read-file.Reads.Learnt
entry_read_file_once κs args x y u v p q = (told_injective x y (p ∙ sym q), refl)

pub entry_write_digest_once : Once entry-write-digest.Kinds.ps entry-write-digest.Kinds.r entry-write-digest.Reads.Learnt
entry_write_digest_once κs args x y u v p q = (p ∙ sym q, refl)

pub entry_write_judge_once : Once entry-write-judge.Kinds.ps entry-write-judge.Kinds.r entry-write-judge.Reads.Learnt
entry_write_judge_once κs args x y u v p q = (told_injective x y (p ∙ sym q), refl)

pub entry_write_integer_once : Once entry-write-integer.Kinds.ps entry-write-integer.Kinds.r entry-write-integer.Reads.Learnt
entry_write_integer_once κs args x y u v p q = let e = put_once p q in (e.0, here e.1)

pub entry_write_file_once : Once entry-write-file.Kinds.ps entry-write-file.Kinds.r entry-write-file.Reads.Learnt
entry_write_file_once κs args x y u v p q = let e = put_once p q in (e.0, past3 (here e.1))

pub manifest_read_once : Once manifest-read.Kinds.ps manifest-read.Kinds.r manifest-read.Reads.Learnt
manifest_read_once κs args x y u v p q = (told_injective x y (p ∙ sym q), refl)

pub manifest_write_once : Once manifest-write.Kinds.ps manifest-write.Kinds.r manifest-write.Reads.Learnt
manifest_write_once κs args x y u v p q = let e = written_once x y p q in (e.0, past (past (here e.1)))

pub cover_read_once : Once cover-read.Kinds.ps cover-read.Kinds.r cover-read.Reads.Learnt
cover_read_once κs args x y u v p q = (cover.told_injective x y (p ∙ sym q), refl)

pub cover_lay_once : Once cover-lay.Kinds.ps cover-lay.Kinds.r cover-lay.Reads.Learnt
cover_lay_once κs args x y u v p q = let e = written_once x y p q in (e.0, past (past (here e.1)))

pub envelope_read_once : Once envelope-read.Kinds.ps envelope-read.Kinds.r envelope-read.Reads.Learnt
envelope_read_once κs args x y u v p q = (told_at_injective x y (p ∙ sym q), refl)

pub envelope_write_once : Once envelope-write.Kinds.ps envelope-write.Kinds.r envelope-write.Reads.Learnt
envelope_write_once κs args x y u v p q = let e = envelope.written_once x y p q in (e.0, past (past (here e.1)))
