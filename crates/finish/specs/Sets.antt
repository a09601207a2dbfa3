-- What finish answers, said of the SET of pages that a collection is the meaning of: R1.6.
use Rattle.std.specs.Prelude.{◌≡◌, ◌↔◌, List, ℕ, ◌≤◌, ◌<◌, length}
use Rattle.wire.specs.Answer.{Answer, done, refused_at, refused}
use Rattle.wire.specs.Over.{over}
use Rattle.wire.specs.Sizes.{most_ciphertext}
use Rattle.document_id.specs.Id.{document_id_of}
use Rattle.model.specs.Take.{Page}
use Rattle.model.specs.Complete.{TotalsDisagree, Complete, FirstDisputed, FirstMissing}

-- the whole ciphertext d was answered: its length with 0, and d in front of out
abbrev pub Gives : (out out' : List ℕ) (a : Answer ℕ) (d : List ℕ) → Type 0
Gives out out' a d = (a ≡ done (length d)) × (out' ≡ over 0 d out)

-- all that finish says of a set of pages of the document id: each answer exactly when its condition
-- holds (R1.6, R9.10), and nothing changed by a refusal (R1.2)
pub record Answers (S : Page → Type 0) (id out out' : List ℕ) (a : Answer ℕ) : Type 0 where
  pub gives : (d : List ℕ) → length d ≤ length out → Gives out out' a d ↔ (Complete S d × (document_id_of d ≡ id))
  pub no_room : (a ≡ refused 11) ↔ ((d : List ℕ) × Complete S d × (length out < length d))
  pub other_document : (a ≡ refused 17) ↔ ((d : List ℕ) × Complete S d × (length d ≤ length out) × (document_id_of d ≡ id → ⊥))
  pub totals : (a ≡ refused 14) ↔ TotalsDisagree S
  pub disputed : (k : ℕ) → (a ≡ refused_at 15 k) ↔ FirstDisputed S k
  pub missing : (k : ℕ) → (a ≡ refused_at 16 k) ↔ FirstMissing S k
  pub unchanged : (n k : ℕ) → a ≡ refused_at n k → out' ≡ out
  -- so many bytes are room for every document (R3.8): 11 is not answered, and the ciphertext is,
  -- exactly when it is complete and the document's own (R1.6)
  pub enough : most_ciphertext ≤ length out → (a ≡ refused 11 → ⊥) × ((d : List ℕ) → Gives out out' a d ↔ (Complete S d × (document_id_of d ≡ id)))
