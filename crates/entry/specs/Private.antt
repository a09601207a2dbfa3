-- What a part of the code answers, for the contract of a private function: nothing here is promised
-- to a caller.
use Rattle.std.specs.Prelude.{ℕ, ◌+◌, List, ◌++◌, Option, Some, None}
use Rattle.cbor.specs.Form.{head_size, string_of}
use Rattle.wire.specs.Ascii.{ascii}
use Rattle.entry.specs.Writing.{mtime_of}
use Rattle.entry.specs.declared.Integer.{Integer}
use Rattle.entry.specs.declared.File.{File}

-- the key and the value
unfoldable pub mtime_field_of : Option Integer → List ℕ
mtime_field_of t = string_of 3 (ascii "mtime") ++ mtime_of t

unfoldable pub mtime_size : Option Integer → ℕ
mtime_size None = 1
mtime_size (Some v) = head_size v.n

-- the length of a file that may be written
unfoldable pub file_size : File → ℕ
file_size f = 56 + head_size f.path.len + f.path.len + head_size f.size + mtime_size f.mtime
