-- Why a call refuses: section 2 of docs/RULES.md.
use Rattle.std.specs.Prelude.{◌≡◌, ℕ}
use Rattle.wire.specs.declared.Refusal.{Refusal}
use Rattle.wire.specs.declared.Refusal.TheVariants as refusal
use Rattle.wire.specs.declared.RefusedAt.{RefusedAt}

-- the number of each refusal (R2.2)
abbrev pub number : Refusal → ℕ
number refusal.BadCharacter = 1
number refusal.BadTextLength = 2
number refusal.CutOrLeftOver = 3
number refusal.BadMagic = 4
number refusal.BadVersion = 5
number refusal.BadFrameType = 6
number refusal.BadVarint = 7
number refusal.BadPlace = 8
number refusal.TooLarge = 9
number refusal.BadChecksum = 10
number refusal.NoRoom = 11
number refusal.OtherDocument = 12
number refusal.BadCollection = 13
number refusal.TotalsDisagree = 14
number refusal.PageDisputed = 15
number refusal.PageMissing = 16
number refusal.OtherCiphertext = 17
number refusal.NotCanonical = 18
number refusal.OutOfRange = 19
number refusal.BadPath = 20
number refusal.BadContents = 21
number refusal.Mistyped = 23
number refusal.TooFewSlips = 26
number refusal.UnlikeSlips = 27
number refusal.SlipTwice = 28
number refusal.OffTheCurve = 29
number refusal.BadPadding = 30

-- a refusal that comes without a place (R2.3)
abbrev pub Placeless : Refusal → RefusedAt → Type 0
Placeless why r = (r.why ≡ why) × (r.place ≡ 0)
