-- `notes::line::refused` meets its contract. Assumes nothing.
use Rattle.notes.proofs.Offers.{refused_else}
use Rattle.notes.proofs.line.refused.Goals as goal

pub returns-in_default : goal.returns-in_default
returns-in_default c = refused_else _ c.in_default.not-OtherDocument
