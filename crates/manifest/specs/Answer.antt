-- What `read` answers: the value in a struct every field of which is fixed, and the position past
-- it.
use Rattle.std.specs.Prelude.{◌-◌, None, List, ◌++◌, length, replicate}
use Rattle.wire.specs.Answer.{then, Got, got}
use Rattle.wire.specs.Sizes.{most_files}
use Rattle.entry.specs.declared.File.{File}
use Rattle.manifest.specs.Manifest.{Listing}
use Rattle.manifest.specs.declared.Manifest.{Manifest}

-- what stands where no file is (R13.7)
unfoldable pub blank_file : File
blank_file = record { hash = record { start = 0; len = 0 }; path = record { start = 0; len = 0 }; size = 0; mtime = None }

-- the files in an array with room for the most (R3.4), and blank ones behind them (R13.7)
unfoldable pub padded : List File → List File
padded fs = fs ++ replicate (most_files - length fs) blank_file

-- the whole answer: the value and the position, or the number of the refusal (R18.5)
abbrev pub answer_for : Got Listing → Got Manifest
answer_for g =
    then g (λ (v, next).
    got (record { seed = v.seed; files = padded v.files; count = length v.files; sealed = v.sealed; created = v.created }) next)
