-- The characters of a line: a letter is neither skipped nor a line feed, and stands for its value
-- alone. Assumes nothing.
use Prim.Native.Nat.{ℕ, ◌<◌}
use mathlib.Core.Path.{◌≡◌, refl, sym, ap, ◌∙◌}
use mathlib.Core.Bool.{true, false, false≢true}
use mathlib.Core.List.{List, [], ◌∷◌}
use borrow.Author.Tests.{lt-ltb, ltb-true, ne_eqb}
use lib.Dec.{eqb}
use Rattle.wire.specs.Every.{every}
use Rattle.wire.proofs.Cases.{both_hold}
use Rattle.text.specs.Text.{zbase32, zooko32, place, value, letter, kept}
use Rattle.text.proofs.Forms.{zbase32_lawful}
use Rattle.text.proofs.Characters.{place_back}
use Rattle.text.proofs.Singles.{letter_plain}
use Rattle.typed.specs.Typed.{skipped, is_letter, feed}

-- ---- a letter and its value

pub value_small : (c : ℕ) → is_letter c ≡ true → value zbase32 c < 32
unfolding is_letter
value_small c h = ltb-true (value zbase32 c) 32 h

pub letter_is : (v : ℕ) → v < 32 → is_letter (letter zbase32 v) ≡ true
unfolding is_letter zbase32
letter_is v h = rw (zbase32_lawful.inverse v h) (lt-ltb v 32 h)

-- two letters of one value are one
pub value_once : (c d : ℕ) → is_letter c ≡ true → is_letter d ≡ true → value zbase32 c ≡ value zbase32 d → c ≡ d
unfolding zbase32 zooko32
value_once c d hc hd e =
    sym (place_back c zooko32 (value_small c hc)) ∙ ap (letter zbase32) e ∙ place_back d zooko32 (value_small d hd)

-- two values of one letter are one
pub letter_once : (v w : ℕ) → v < 32 → w < 32 → letter zbase32 v ≡ letter zbase32 w → v ≡ w
unfolding zbase32
letter_once v w hv hw e = sym (zbase32_lawful.inverse v hv) ∙ ap (value zbase32) e ∙ zbase32_lawful.inverse w hw

-- ---- what a letter is not

other : (x c : ℕ) → is_letter x ≡ false → is_letter c ≡ true → eqb c x ≡ false
other x c hx hc = ne_eqb c x (λ e. false≢true (sym hx ∙ ap is_letter (sym e) ∙ hc))

pub letter_unskipped : (c : ℕ) → is_letter c ≡ true → skipped c ≡ false
unfolding skipped is_letter zbase32 zooko32 place
letter_unskipped c h = rw (other 0x20 c refl h, other 0x09 c refl h, other 0x2D c refl h)

pub letter_not_feed : (c : ℕ) → is_letter c ≡ true → eqb c feed ≡ false
unfolding is_letter zbase32 zooko32 place
letter_not_feed c h = other feed c refl h

pub feed_unskipped : skipped feed ≡ false
unfolding skipped
feed_unskipped = refl

-- letters are all kept by the reader of z-base-32
pub letters_kept : (cs : List ℕ) → every is_letter cs ≡ true → kept zbase32 cs ≡ cs
unfolding kept every zbase32
letters_kept [] h = refl
letters_kept (c ∷ cs) h =
    let b = both_hold (is_letter c) (every is_letter cs) h in
    rw (letter_plain zbase32 zbase32_lawful c (value_small c b.0)) (ap (λ (r : List ℕ). c ∷ r) (letters_kept cs b.1))
