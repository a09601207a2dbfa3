-- What a frame carries, and its type byte: section 6 of docs/RULES.md.
use Rattle.std.specs.Prelude.{ℕ}
use Rattle.frame.specs.declared.Kind.{Kind}
use Rattle.frame.specs.declared.Kind.TheVariants as kind

-- main, key and auth (R6.2)
abbrev pub type_byte : Kind → ℕ
type_byte kind.Main = 0x44
type_byte kind.Key = 0x4B
type_byte kind.Auth = 0x41
