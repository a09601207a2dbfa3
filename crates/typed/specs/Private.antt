-- What the parts of the code answer, for the contracts of private functions: nothing here is
-- promised to a caller.
use Rattle.std.specs.Prelude.{ℕ, Option, Some, None, Result, Ok, Err, suc, ◌-◌, ◌*◌, ◌≤◌, Bool, ◌&&◌, ◌||◌, List, [], ◌∷◌, ◌++◌, ltb, leb, eqb, length, take}
use Rattle.wire.specs.Answer.{choose, Answer, done, refused, refused_at, then, demand}
use Rattle.wire.specs.Refusal.{number}
use Rattle.wire.specs.declared.Refusal.{Refusal}
use Rattle.wire.specs.declared.RefusedAt.{RefusedAt}
use Rattle.typed.specs.Typed.{most_lines, full_data, full_line, feed, skipped, is_letter, count_right, data_of, right}
use Rattle.typed.specs.declared.lines.Typing.{Typing}

-- a character that a text may have, or a line by itself, which has no line feed
unfoldable pub typable : (feeds : Bool) → ℕ → Bool
typable feeds c = (feeds && eqb c feed) || is_letter c

-- a line of this number may have so many characters
unfoldable pub possible : (last : Bool) → ℕ → ℕ → Bool
possible last number n = (leb 1 number && leb number most_lines) && count_right last n

-- what is known of a text's first characters: the number of the line that they end in and its
-- characters so far; of the lines before it the data, and the number of the first whose check is
-- wrong, if one is
pub record Held : Type 0 where
  pub number : ℕ
  pub wrong : Option ℕ
  pub line : List ℕ
  pub contents : List ℕ

-- the same, as the code has it, with its two buffers
unfoldable pub held : Typing → (line contents : List ℕ) → Held
held t line contents =
    record { number = t.n; wrong = t.wrong; line = take t.at line; contents = take t.made contents }

-- there is room for the line, and for the data of the lines that may come
pub record Fits (t : Typing) : Type 0 where
  pub short : t.at ≤ full_line
  pub first : 1 ≤ t.n
  pub last : t.n ≤ most_lines
  pub made : t.made ≤ full_data * (t.n - 1)

-- the first wrong line, once line n has ended
unfoldable pub wrong_after : ℕ → Option ℕ → List ℕ → Option ℕ
wrong_after n (Some k) l = Some k
wrong_after n None l = choose (right n l) None (Some n)

-- the line ends
unfoldable pub closed : Held → Held
closed h =
    record {
      number = suc h.number;
      wrong = wrong_after h.number h.wrong h.line;
      line = [];
      contents = h.contents ++ data_of h.line;
    }

-- one character more, of which it is known that the text may have it
unfoldable pub stepped : Held → ℕ → Answer Held
stepped h c =
    choose (eqb c feed) (demand (eqb (length h.line) full_line) 2 (demand (ltb h.number most_lines) 2 (done (closed h))))
    (choose (skipped c) (done h)
    (demand (ltb (length h.line) full_line) 2 (done (record { number = h.number; wrong = h.wrong; line = h.line ++ (c ∷ []); contents = h.contents }))))

unfoldable pub ran : Held → List ℕ → Answer Held
ran h [] = done h
ran h (c ∷ cs) = then (stepped h c) (λ k. ran k cs)

-- what a step says, the buffers being as it left them
abbrev pub step_told : Result Typing Refusal → (line contents : List ℕ) → Answer Held
step_told (Ok t) line contents = done (held t line contents)
step_told (Err e) line contents = refused (number e)

-- where it goes on there is room
abbrev pub Going : Result Typing Refusal → Type 0
Going (Ok t) = Fits t
Going (Err e) = Unit

abbrev pub start : ℕ → Held
start n = record { number = n; wrong = None; line = []; contents = [] }

-- the verdict on all lines, once the last has ended
abbrev pub unless : {A : Type 0} → Option ℕ → Answer A → Answer A
unless None a = a
unless (Some line) a = refused_at 23 line

unfoldable pub verdict : Held → Answer (List ℕ)
verdict h = unless h.wrong (done h.contents)

unfoldable pub ending : Held → Answer (List ℕ)
ending h = demand (leb 3 (length h.line)) 2 (verdict (closed h))

-- what all lines say, the data being in front of a buffer
abbrev pub gathered_told : Result ℕ RefusedAt → List ℕ → Answer (List ℕ)
gathered_told (Ok len) contents = done (take len contents)
gathered_told (Err e) contents = refused_at (number e.why) e.place

-- the buffer has as many
abbrev pub Ample : Result ℕ RefusedAt → Type 0
Ample (Ok len) = len ≤ full_data * most_lines
Ample (Err e) = Unit
