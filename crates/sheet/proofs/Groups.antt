-- The lines to type, in groups: as the code lays them out of their text, how long they are, and
-- that without spaces they are the lines again. Assumes nothing.
use Prim.Native.Nat.{ℕ, zero, suc, ◌+◌, ◌*◌, ◌≤◌, ◌<◌}
use mathlib.Core.Path.{◌≡◌, refl, sym, ap, ap₂, ◌∙◌}
use mathlib.Core.Bool.{Bool, true, false, not}
use mathlib.Core.List.{List, [], ◌∷◌, ◌++◌, append_assoc, append-nil}
use native.Mathlib.Numerals.{add-one}
use native.Mathlib.Omega.{arith}
use borrow.Author.Tests.{eq-eqb, ne_eqb, eqb-true}
use lib.Dec.{eqb}
use lib.ListN.{length, get_or, take, drop, length-append, length-take, drop_of_length-le}
use lib.Seq.{drop-cons}
use Rattle.wire.specs.Answer.{choose}
use Rattle.wire.specs.Every.{every}
use Rattle.wire.specs.Over.{over}
use Rattle.wire.proofs.Cases.{both_hold}
use Rattle.wire.proofs.Overs.{over_none}
use Rattle.digits.specs.Decimal.{line_feed}
use Rattle.digits.specs.Private.{Laid}
use Rattle.digits.proofs.Laying.{laid_one, laid_then, laid_as}
use Rattle.typed.specs.Typed.{full_data, feed, plain, skipped, is_letter, check_letters, rows, with_check, numbered, fed, parted}
use Rattle.typed.proofs.Letters.{letter_not_feed}
use Rattle.typed.proofs.Cutting.{plain_append, plain_letter}
use Rattle.sheet.specs.Sheet.{grouped_from, grouped, printed_lines}
use Rattle.sheet.specs.Private.{standing, begins, shown, spread}

-- ---- one character

module _ (n c : ℕ) where
  pub feed_stands : c ≡ feed → (0 ≡ standing n c) × (0 ≤ 6)
  unfolding standing
  feed_stands e = (rw (eq-eqb c feed e), omega arith)

  pub first_stands : (c ≡ feed → ⊥) → n ≡ 6 → (1 ≡ standing n c) × (1 ≤ 6)
  unfolding standing
  first_stands d e = (rw (ne_eqb c feed d, eq-eqb n 6 e), omega arith)

  pub next_stands : n ≤ 6 → (c ≡ feed → ⊥) → (n ≡ 6 → ⊥) → (n + 1 ≡ standing n c) × (n + 1 ≤ 6)
  unfolding standing
  next_stands h d e = (rw (ne_eqb c feed d, ne_eqb n 6 e, add-one n), omega (arith, h, e))

  pub feed_begins_none : c ≡ feed → not (eqb c feed) ≡ begins n c
  unfolding begins
  feed_begins_none e = rw (eq-eqb c feed e)

  pub other_begins : (c ≡ feed → ⊥) → eqb n 6 ≡ begins n c
  unfolding begins
  other_begins d = rw (ne_eqb c feed d)

  module _ (at : ℕ) (l x : List ℕ) (b : Bool) (told : b ≡ begins n c) where
    pub shown_behind : (y : List ℕ) → b ≡ true → at + 2 ≤ length l → x ≡ over at (0x20 ∷ []) l → y ≡ over (at + 1) (c ∷ []) x → Laid at 2 (shown n c) l y (at + 2)
    unfolding shown
    shown_behind y e room p q =
        rw (← told, e)
        (laid_then at 1 (at + 1) 1 (at + 2) (0x20 ∷ []) (c ∷ []) l x y (laid_one at 1 (0x20 ∷ []) l x (at + 1) refl (omega arith) p)
        (laid_one (at + 1) 1 (c ∷ []) x y (at + 2) (omega arith) (omega arith) q) (omega arith))

    pub shown_alone : b ≡ false → x ≡ over at (c ∷ []) l → Laid at 2 (shown n c) l x (at + 1)
    unfolding shown
    shown_alone e p = rw (← told, e) (laid_one at 2 (c ∷ []) l x (at + 1) refl (omega arith) p)

  shown_some : 1 ≤ length (shown n c)
  unfolding shown
  shown_some = go (begins n c)
    where
      go : (b : Bool) → 1 ≤ length (choose b (0x20 ∷ c ∷ []) (c ∷ []))
      go true = omega arith
      go false = omega arith

-- ---- the loop

spread_some : (n : ℕ) (cs : List ℕ) → 1 ≤ length (spread n cs)
unfolding spread
spread_some n [] = omega arith
spread_some n (c ∷ cs) = omega (arith, length-append (shown n c) (spread (standing n c) cs), shown_some n c)

-- of a text the first i characters stand in x, as they are printed, and behind them is room for
-- what the others become
pub record Grouping (text l : List ℕ) (at to n i : ℕ) (x : List ℕ) : Type 0 where
  pub within : i ≤ length text
  pub group : n ≤ 6
  pub made : List ℕ
  pub whole : spread 0 text ≡ made ++ spread n (drop i text)
  pub laid : Laid at (length made) made l x to
  pub same : length x ≡ length l
  pub room : at + length (spread 0 text) ≤ length l

module _ (text l : List ℕ) (at : ℕ) where
  pub grouping_none : at + length (spread 0 text) ≤ length l → Grouping text l at at 0 0 l
  grouping_none room =
      record {
        within = omega arith;
        group = omega arith;
        made = [];
        whole = refl;
        laid = laid_one at 0 [] l l at (omega arith) (omega arith) (sym (over_none at l));
        same = refl;
        room = room;
      }

  module _ (to n i : ℕ) (x : List ℕ) (g : Grouping text l at to n i x) where
    -- all of it, with the next character for itself
    step : i < length text → spread 0 text ≡ g.made ++ (shown n (get_or text i 0) ++ spread (standing n (get_or text i 0)) (drop (i + 1) text))
    unfolding spread
    step h = g.whole ∙ ap (λ (cs : List ℕ). g.made ++ spread n cs) (drop-cons text i 0 h) ∙ rw (add-one i)

    pub grouping_room : i < length text → to + 2 ≤ length x
    grouping_room h =
        let c = get_or text i 0 in
        let rest = spread (standing n c) (drop (i + 1) text) in
        omega (arith, ap length (step h), length-append g.made (shown n c ++ rest), length-append (shown n c) rest, shown_some n c, spread_some (standing n c) (drop (i + 1) text), g.laid.next, g.same, g.room)

    pub grouping_on : (r m : ℕ) (y : List ℕ) → i < length text → length y ≡ length x → Laid to 2 (shown n (get_or text i 0)) x y r → (m ≡ standing n (get_or text i 0)) × (m ≤ 6)
        → Grouping text l at r m (i + 1) y
    grouping_on r m y h s p (e, small) =
        let c = get_or text i 0 in
        let both = laid_then at (length g.made) to 2 r g.made (shown n c) l x y g.laid p (omega (arith, grouping_room h, g.same)) in
        record {
          within = omega arith;
          group = small;
          made = g.made ++ shown n c;
          whole = step h ∙ rw e (sym (append_assoc g.made (shown n c) (spread (standing n c) (drop (i + 1) text))));
          laid = laid_one at (length (g.made ++ shown n c)) (g.made ++ shown n c) l y r both.next (omega arith) both.stands;
          same = s ∙ g.same;
          room = g.room;
        }

    last : length text ≤ i → spread 0 text ≡ g.made ++ line_feed
    unfolding spread
    last h = g.whole ∙ ap (λ (cs : List ℕ). g.made ++ spread n cs) (drop_of_length-le text {i = i} h)

    pub grouping_fits : length text ≤ i → to + 1 ≤ length x
    grouping_fits h = omega (arith, ap length (last h), length-append g.made line_feed, g.laid.next, g.same, g.room)

    pub grouping_end : (y : List ℕ) → length text ≤ i → y ≡ over to line_feed x → Laid at (length (spread 0 text)) (spread 0 text) l y (to + 1)
    grouping_end y h p =
        laid_as at (length g.made + 1) (length (spread 0 text)) (to + 1) (g.made ++ line_feed) (spread 0 text) l y
        (laid_then at (length g.made) to 1 (to + 1) g.made line_feed l x y g.laid (laid_one to 1 line_feed x y (to + 1) refl (omega arith) p) (omega (arith, grouping_fits h, g.same)))
        (sym (last h)) (omega (arith, ap length (last h), length-append g.made line_feed))

-- ---- the text of lines is spread into their groups

-- a line, whatever follows it
spread_line : (n : ℕ) (l rest tail : List ℕ) → every is_letter l ≡ true → ((m : ℕ) → spread m rest ≡ tail) → spread n (l ++ rest) ≡ grouped_from n l ++ tail
unfolding spread shown standing begins grouped_from every
spread_line n [] rest tail h t = t n
spread_line n (c ∷ l) rest tail h t =
    let b = both_hold (is_letter c) (every is_letter l) h in
    rw (letter_not_feed c b.0) (go (eqb n 6) (spread_line 1 l rest tail b.1 t) (spread_line (suc n) l rest tail b.1 t))
  where
    go : (t : Bool) → spread 1 (l ++ rest) ≡ grouped_from 1 l ++ tail → spread (suc n) (l ++ rest) ≡ grouped_from (suc n) l ++ tail
        → choose t (0x20 ∷ c ∷ []) (c ∷ []) ++ spread (choose t 1 (suc n)) (l ++ rest) ≡ choose t (0x20 ∷ c ∷ grouped_from 1 l) (c ∷ grouped_from (suc n) l) ++ tail
    go true e f = ap (λ (r : List ℕ). 0x20 ∷ c ∷ r) e
    go false e f = ap (λ (r : List ℕ). c ∷ r) f

-- the lines behind one
spread_fed : (ls : List (List ℕ)) → every (every is_letter) ls ≡ true → (m : ℕ) → spread m (fed ls) ≡ line_feed ++ printed_lines ls
unfolding spread shown standing begins printed_lines fed every
spread_fed [] h m = refl
spread_fed (l ∷ ls) h m =
    let b = both_hold (every is_letter l) (every (every is_letter) ls) h in
    ap (λ (r : List ℕ). feed ∷ r) (spread_line 0 l (fed ls) (line_feed ++ printed_lines ls) b.0 (spread_fed ls b.1))

pub spread_lines : (l : List ℕ) (ls : List (List ℕ)) → every (every is_letter) (l ∷ ls) ≡ true → spread 0 (parted (l ∷ ls)) ≡ printed_lines (l ∷ ls)
unfolding parted printed_lines every
spread_lines l ls h =
    let b = both_hold (every is_letter l) (every (every is_letter) ls) h in
    spread_line 0 l (fed ls) (line_feed ++ printed_lines ls) b.0 (spread_fed ls b.1)

-- ---- how long it is

-- a space for each six characters, but none in front of the first
grouped_length : (n c : ℕ) (l : List ℕ) → 6 * length (grouped_from n (c ∷ l)) + 1 ≤ 7 * suc (length l) + n
unfolding grouped_from
grouped_length n c [] = go (eqb n 6) refl
  where
    go : (t : Bool) → eqb n 6 ≡ t → 6 * length (choose t (0x20 ∷ c ∷ []) (c ∷ [])) + 1 ≤ 7 + n
    go true e = omega (arith, eqb-true n 6 e)
    go false e = omega arith
grouped_length n c (d ∷ l) = go (eqb n 6) refl (grouped_length 1 d l) (grouped_length (suc n) d l)
  where
    go : (t : Bool) → eqb n 6 ≡ t → 6 * length (grouped_from 1 (d ∷ l)) + 1 ≤ 7 * suc (length l) + 1 → 6 * length (grouped_from (suc n) (d ∷ l)) + 1 ≤ 7 * suc (length l) + suc n
        → 6 * length (choose t (0x20 ∷ c ∷ grouped_from 1 (d ∷ l)) (c ∷ grouped_from (suc n) (d ∷ l))) + 1 ≤ 7 * suc (suc (length l)) + n
    go true e f g = omega (arith, eqb-true n 6 e, f)
    go false e f g = omega (arith, g)

grouped_short : (l : List ℕ) → length l ≤ 42 → length (grouped l) ≤ 48
unfolding grouped_from
grouped_short [] h = omega arith
grouped_short (c ∷ l) h = omega (arith, grouped_length 0 c l)

line_short : (n : ℕ) (cs : List ℕ) → length (with_check n (take full_data cs)) ≤ 42
unfolding check_letters
line_short n cs = omega (arith, length-append (take full_data cs) (check_letters n (take full_data cs)), length-take full_data cs)

pub printed_short : (k n : ℕ) (cs : List ℕ) → length (printed_lines (numbered n (rows k cs))) ≤ 49 * k
unfolding rows numbered printed_lines
printed_short zero n cs = omega arith
printed_short (suc k) n [] = omega arith
printed_short (suc k) n (c ∷ cs) =
    let l = with_check n (take full_data (c ∷ cs)) in
    let rest = printed_lines (numbered (suc n) (rows k (drop full_data (c ∷ cs)))) in
    omega (arith, length-append (grouped l) (line_feed ++ rest), length-append line_feed rest, grouped_short l (line_short n (c ∷ cs)), printed_short k (suc n) (drop full_data (c ∷ cs)))

-- ---- without spaces it is the lines again

plain_space : (cs : List ℕ) → plain (0x20 ∷ cs) ≡ plain cs
unfolding plain skipped
plain_space cs = refl

plain_feed : (cs : List ℕ) → plain (feed ∷ cs) ≡ feed ∷ plain cs
unfolding plain skipped
plain_feed cs = refl

plain_grouped : (n : ℕ) (l : List ℕ) → every is_letter l ≡ true → plain (grouped_from n l) ≡ l
unfolding grouped_from every plain
plain_grouped n [] h = refl
plain_grouped n (c ∷ l) h =
    let b = both_hold (is_letter c) (every is_letter l) h in
    go (eqb n 6) b.0 (plain_grouped 1 l b.1) (plain_grouped (suc n) l b.1)
  where
    go : (t : Bool) → is_letter c ≡ true → plain (grouped_from 1 l) ≡ l → plain (grouped_from (suc n) l) ≡ l → plain (choose t (0x20 ∷ c ∷ grouped_from 1 l) (c ∷ grouped_from (suc n) l)) ≡ c ∷ l
    go true i e f = plain_space (c ∷ grouped_from 1 l) ∙ plain_letter c (grouped_from 1 l) i ∙ ap (λ (r : List ℕ). c ∷ r) e
    go false i e f = plain_letter c (grouped_from (suc n) l) i ∙ ap (λ (r : List ℕ). c ∷ r) f

-- what is printed ends with a line feed, and in front of it stand the lines
pub printed_plain : (l : List ℕ) (ls : List (List ℕ)) → every (every is_letter) (l ∷ ls) ≡ true
    → (text : List ℕ) × (printed_lines (l ∷ ls) ≡ text ++ line_feed) × (plain text ≡ parted (l ∷ ls))
unfolding printed_lines parted fed every
printed_plain l [] h =
    let b = both_hold (every is_letter l) true h in
    (grouped l, refl, plain_grouped 0 l b.0 ∙ sym (append-nil l))
printed_plain l (m ∷ ls) h =
    let b = both_hold (every is_letter l) (every (every is_letter) (m ∷ ls)) h in
    let (text, e, p) = printed_plain m ls b.1 in (
      grouped l ++ (feed ∷ text),
      ap (λ (r : List ℕ). grouped l ++ (feed ∷ r)) e ∙ sym (append_assoc (grouped l) (feed ∷ text) line_feed),
      plain_append (grouped l) (feed ∷ text) ∙ ap₂ (λ (r q : List ℕ). r ++ q) (plain_grouped 0 l b.0) (plain_feed text ∙ ap (λ (r : List ℕ). feed ∷ r) p),
    )
