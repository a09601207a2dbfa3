-- What `read` promises leaves one answer. Assumes nothing.
use Prim.Native.Nat.{ℕ}
use mathlib.Core.Path.{◌≡◌, refl, sym, ap, ◌∙◌}
use mathlib.Core.List.{List}
use Rattle.std.specs.Prelude.{Result, Ok, Err}
use Rattle.wire.specs.declared.Refusal.{Refusal}
use Rattle.wire.specs.declared.RefusedAt.{RefusedAt}
use Rattle.wire.specs.declared.Span.{Span}
use Rattle.wire.proofs.Answers.{number_injective}
use Rattle.frame.specs.declared.Kind.{Kind}
use Rattle.frame.proofs.Answers.{type_injective}
use Rattle.shard.specs.declared.Quorum.{Quorum}
use Rattle.slips.specs.Slip.{Seen, read_told, Told}
use Rattle.slips.specs.declared.Share.{Share}
use Rattle.slips.specs.declared.NoSlip.{NoSlip}
use Rattle.slips.specs.declared.NoSlip.TheVariants as N

share : ℕ → Span → Quorum → Result Share NoSlip
share n at q = Ok (record { len = n; payload = at; quorum = q })

read_same : (r q : Share) → r.len ≡ q.len → r.payload ≡ q.payload → r.quorum ≡ q.quorum → ◌≡◌ {A = Result Share NoSlip} (Ok r) (Ok q)
unfolding share
read_same r q a b c = let z : share r.len r.payload r.quorum ≡ share q.len q.payload q.quorum = cc in z

text : Refusal → ℕ → Result Share NoSlip
text why place = Err (N.Text (record { why = why; place = place }))

text_same : (r q : RefusedAt) → r.why ≡ q.why → r.place ≡ q.place → ◌≡◌ {A = Result Share NoSlip} (Err (N.Text r)) (Err (N.Text q))
unfolding text
text_same r q a b = let z : text r.why r.place ≡ text q.why q.place = cc in z

-- an answer says no more than its numbers and values do
pub read_injective : (r q : Result Share NoSlip) → read_told r ≡ read_told q → r ≡ q
read_injective (Ok r) (Ok q) e = read_same r q (cc) (cc) (cc)
read_injective (Ok r) (Err (N.Text q)) e = cc
read_injective (Ok r) (Err (N.Frame q)) e = cc
read_injective (Ok r) (Err (N.Other q)) e = cc
read_injective (Ok r) (Err (N.Shard q)) e = cc
read_injective (Ok r) (Err N.Short) e = cc
read_injective (Err (N.Text r)) (Ok q) e = cc
read_injective (Err (N.Text r)) (Err (N.Text q)) e = text_same r q (number_injective r.why q.why (cc)) (cc)
read_injective (Err (N.Text r)) (Err (N.Frame q)) e = cc
read_injective (Err (N.Text r)) (Err (N.Other q)) e = cc
read_injective (Err (N.Text r)) (Err (N.Shard q)) e = cc
read_injective (Err (N.Text r)) (Err N.Short) e = cc
read_injective (Err (N.Frame r)) (Ok q) e = cc
read_injective (Err (N.Frame r)) (Err (N.Text q)) e = cc
read_injective (Err (N.Frame r)) (Err (N.Frame q)) e = ap (λ (x : Refusal). Err (N.Frame x)) (number_injective r q (cc))
read_injective (Err (N.Frame r)) (Err (N.Other q)) e = cc
read_injective (Err (N.Frame r)) (Err (N.Shard q)) e = cc
read_injective (Err (N.Frame r)) (Err N.Short) e = cc
read_injective (Err (N.Other r)) (Ok q) e = cc
read_injective (Err (N.Other r)) (Err (N.Text q)) e = cc
read_injective (Err (N.Other r)) (Err (N.Frame q)) e = cc
read_injective (Err (N.Other r)) (Err (N.Other q)) e = ap (λ (x : Kind). Err (N.Other x)) (type_injective r q (cc))
read_injective (Err (N.Other r)) (Err (N.Shard q)) e = cc
read_injective (Err (N.Other r)) (Err N.Short) e = cc
read_injective (Err (N.Shard r)) (Ok q) e = cc
read_injective (Err (N.Shard r)) (Err (N.Text q)) e = cc
read_injective (Err (N.Shard r)) (Err (N.Frame q)) e = cc
read_injective (Err (N.Shard r)) (Err (N.Other q)) e = cc
read_injective (Err (N.Shard r)) (Err (N.Shard q)) e = ap (λ (x : Refusal). Err (N.Shard x)) (number_injective r q (cc))
read_injective (Err (N.Shard r)) (Err N.Short) e = cc
read_injective (Err N.Short) (Ok q) e = cc
read_injective (Err N.Short) (Err (N.Text q)) e = cc
read_injective (Err N.Short) (Err (N.Frame q)) e = cc
read_injective (Err N.Short) (Err (N.Other q)) e = cc
read_injective (Err N.Short) (Err (N.Shard q)) e = cc
read_injective (Err N.Short) (Err N.Short) e = refl

-- For the reader: one answer, and one content of the output
pub told_once : {seen : Seen} {out x y : List ℕ} {r q : Result Share NoSlip} → Told seen out x r → Told seen out y q → (r ≡ q) × (x ≡ y)
told_once {r = r} {q = q} p k = (read_injective r q (p.answer ∙ sym k.answer), p.bytes ∙ sym k.bytes)
