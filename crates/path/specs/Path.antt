-- The path rule: section 12 of docs/RULES.md. `path_allowed` is its one definition; Ticket 6 made
-- the rule as narrow as it is.
use Rattle.std.specs.Prelude.{ℕ, Bool, ◌&&◌, List, leb, length}
use Rattle.wire.specs.Sizes.{most_path}
use Rattle.wire.specs.Every.{every, within, without}
use Rattle.path.specs.Utf8.{code_points}
use Rattle.path.specs.Names.{parts, is_name}

-- a path has at least so many bytes (R3.5)
abbrev pub path_least : ℕ
path_least = 1

-- and at most so many (R3.5)
abbrev pub path_most : ℕ
path_most = most_path

-- UTF-8 of code points below U+0300 (R12.1)
unfoldable pub plain_text : List ℕ → Bool
plain_text s = within 0x300 (code_points s)

-- not too long (R3.5), plain text (R12.1), each part of it a name (R12.2), and no byte of it 00
-- (R12.3). The empty text is one empty part, so it is no path
unfoldable pub path_allowed : List ℕ → Bool
path_allowed s =
    leb (length s) path_most && (plain_text s && (every is_name (parts s) && without 0 s))
