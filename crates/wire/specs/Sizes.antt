-- The sizes of the house: section 3 of docs/RULES.md.
use Rattle.std.specs.Prelude.{ℕ, ◌+◌, ◌*◌, ◌-◌, ◌^◌}

-- a document has 1 to so many pages (R3.1)
abbrev pub most_pages : ℕ
most_pages = 96

-- a frame has 0 to so many bytes of data (R3.2)
abbrev pub most_data : ℕ
most_data = 480

-- so many bytes a manifest may have (R3.3)
abbrev pub most_manifest : ℕ
most_manifest = 16384

-- a manifest lists 1 to so many files (R3.4)
abbrev pub most_files : ℕ
most_files = 64

-- a path has 1 to so many bytes (R3.5)
abbrev pub most_path : ℕ
most_path = 200

-- so many bytes a file may have, a number of 32 bits (R3.6)
abbrev pub most_file_size : ℕ
most_file_size = 2 ^ 32 - 1

-- so many bytes a share may have (R3.7)
abbrev pub most_share : ℕ
most_share = 224

-- a document's id has so many bytes, in a frame and in a block (R3.8)
abbrev pub id_size : ℕ
id_size = 8

-- a block of a collection has so many bytes (R3.8)
abbrev pub block_size : ℕ
block_size = 512

-- its last bytes are the CRC of so many before them (R8.2)
abbrev pub summed_size : ℕ
summed_size = block_size - 4

-- a collection is its head's block and a block for each page (R3.8)
abbrev pub collection_size : ℕ
collection_size = (1 + most_pages) * block_size

-- every page full: no document has more bytes of ciphertext (R3.8)
abbrev pub most_ciphertext : ℕ
most_ciphertext = most_pages * most_data
