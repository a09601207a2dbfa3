-- `stilt_offer` meets its contract. Assumes nothing.
use mathlib.Core.Path.{ap, ◌∙◌}
use Prim.Native.Nat.{ℕ}
use borrow.Author.Rules.{rules}
use Rattle.collection.specs.Answer.{told_kind}
use Rattle.phone.specs.Packed.{packed, packed_kind}
use Rattle.phone.proofs.Packing.{packs}
use Rattle.phone.proofs.stilt_offer.Goals as goal

pub returns-in-Ok : goal.returns-in-Ok
returns-in-Ok c =
    record {
      value = packs packed_kind told_kind _ _ _ _ _ _ c.offer.ensures c.in-Ok.is (c.pack.ensures ∙ ap (λ (k : ℕ). packed 0 k 0) c.from.ensures);
      c_after = search rules;
    }

pub returns-in-Err : goal.returns-in-Err
returns-in-Err c = record { value = search (packs packed_kind told_kind); c_after = search rules }
