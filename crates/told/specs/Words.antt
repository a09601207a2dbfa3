-- What a refusal means and what to do, in words (R15.9, R15.10). A text is one line.
use Rattle.std.specs.Prelude.{ℕ, List, ◌++◌, eqb}
use Rattle.wire.specs.Answer.{choose}
use Rattle.wire.specs.Ascii.{ascii}
use Rattle.digits.specs.Decimal.{line_feed, refused_line}
use Rattle.digits.specs.Hex.{hex_of}

-- what finish or the kept file answered: 0 is done; a number that neither gives has no words
unfoldable pub advice : ℕ → List ℕ
advice n =
    choose (eqb n 0) (ascii "complete: every page is here, and together they are the document" ++ line_feed)
    (choose (eqb n 11) (ascii "refused 11: the file named above cannot be read or written: mend that, and run pantry again on the same scans" ++ line_feed)
    (choose (eqb n 13) (ascii "refused 13: the kept file is damaged, or no collection, and stays as it is: move it away, and scan every page again" ++ line_feed)
    (choose (eqb n 14) (ascii "refused 14: the pages name different totals, so some are of another print: scan into a new collection without those" ++ line_feed)
    (choose (eqb n 15) (ascii "refused 15: a disputed page was read in two versions: scan every page into a new collection, and these with care" ++ line_feed)
    (choose (eqb n 16) (ascii "refused 16: not complete: scan the pages that are missing" ++ line_feed)
    (choose (eqb n 17) (ascii "refused 17: every page is here, but they are not the document of this id: compare the id, and scan into a new collection" ++ line_feed)
    (refused_line n)))))))

-- what is wrong with the first line (notes, Line); 0 where there is no line at all
unfoldable pub first_advice : ℕ → List ℕ
first_advice f =
    choose (eqb f 0) (ascii "refused 19: the input is empty: the first line is the document's id, and each further one a scan" ++ line_feed)
    (choose (eqb f 1) (ascii "refused 19: the first line is not 16 digits long: it must be the document's id" ++ line_feed)
    (choose (eqb f 2) (ascii "refused 19: the first line has a carriage return: the document's id ends with a line feed alone" ++ line_feed)
    (choose (eqb f 3) (ascii "refused 19: the first line has a blank: the document's id is 16 digits and nothing else" ++ line_feed)
    (choose (eqb f 4) (ascii "refused 19: the first line has a capital letter: the document's id is in small letters" ++ line_feed)
    (choose (eqb f 5) (ascii "refused 19: the first line has a sign beyond ASCII, perhaps a byte order mark in front: it must be the document's id alone" ++ line_feed)
    (ascii "refused 19: the first line is not the document's id, which is 16 digits of 0 to 9 and a to f" ++ line_feed))))))

-- the file that was kept is of one document, and what was scanned now of another (R15.7)
unfoldable pub stranger_line : (kept scanned : List ℕ) → List ℕ
stranger_line kept scanned =
    ascii "refused 12: the kept file is of document " ++ hex_of kept ++ ascii ", and this input of " ++ hex_of scanned
    ++ (ascii ": name another file" ++ line_feed)
