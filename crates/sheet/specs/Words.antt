-- What `press` says beside the number of a refusal, as one line: what was wrong, and what to do
-- (R15.5).
use Rattle.std.specs.Prelude.{ℕ, ◌*◌, List, [], ◌++◌, eqb}
use Rattle.wire.specs.Answer.{choose}
use Rattle.wire.specs.Ascii.{ascii}
use Rattle.wire.specs.Sizes.{most_pages}
use Rattle.digits.specs.Decimal.{decimal, numeral, line_feed, refused_name}

-- the words of which the sentences are made
abbrev pub colon : List ℕ
colon = ascii ": "

abbrev pub too_large : List ℕ
too_large = ascii "too large: "

abbrev pub were_given : List ℕ
were_given = ascii " bytes were given, and "

abbrev pub pages_of : List ℕ
pages_of = ascii "96 pages of "

abbrev pub bytes_hold : List ℕ
bytes_hold = ascii " bytes hold "

abbrev pub split_it : List ℕ
split_it = ascii ": split the ciphertext, and print each part as a document of its own"

abbrev pub nothing_read : List ℕ
nothing_read = ascii "nothing was read: give the ciphertext on standard input"

abbrev pub no_such_page : List ℕ
no_such_page = ascii "no such page: the document has fewer pages, and the first is page 0"

abbrev pub not_printed : List ℕ
not_printed = ascii "this cannot be printed"

-- how many bytes came, where that is known: 0 where it is not
unfoldable pub given_words : ℕ → List ℕ
given_words given = choose (eqb given 0) [] (numeral given ++ were_given)

-- 9: how much 96 pages of this size hold
unfoldable pub large_words : ℕ → ℕ → List ℕ
large_words size given =
    too_large
    ++ given_words given
    ++ pages_of
    ++ numeral size
    ++ bytes_hold
    ++ numeral (size * most_pages)
    ++ split_it

-- 19, which is left for an empty input, 9, 8, and any other number
unfoldable pub reason_words : ℕ → ℕ → ℕ → List ℕ
reason_words e size given =
    choose (eqb e 19) nothing_read
    (choose (eqb e 9) (large_words size given)
    (choose (eqb e 8) no_such_page not_printed))

unfoldable pub refusal_words : ℕ → ℕ → ℕ → List ℕ
refusal_words e size given = refused_name ++ decimal e ++ colon ++ reason_words e size given ++ line_feed
