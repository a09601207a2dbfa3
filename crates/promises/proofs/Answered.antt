-- Every reader can be called on any bytes: there is an answer that its contract allows, whatever
-- its definition gives. So what R1.3 says of calls is not said of none. Assumes nothing.
use Prim.Native.Nat.{ℕ, ◌+◌, ◌-◌}
use mathlib.Core.Path.{◌≡◌, refl, sym, ap, ap₂, ◌∙◌}
use mathlib.Core.Logic.{inl, inr}
use mathlib.Core.Bool.{Bool, true, false}
use mathlib.Core.List.{List}
use lib.Dec.{eqb, leb}
use lib.ListN.{length, take, drop, get_or}
use Rattle.std.specs.Prelude.{Result, Ok, Err}
use Rattle.wire.specs.Answer.{choose, Answer, done, refused_at, refused, then, demand, Got, got, Change, answer_of, bytes_after, Kept}
use Rattle.wire.specs.Number.{big_endian}
use Rattle.wire.specs.Refusal.{number}
use Rattle.wire.specs.Reading as reading
use Rattle.wire.specs.Writing.{writing, Written}
use Rattle.wire.specs.declared.Refusal.{Refusal}
use Rattle.wire.specs.declared.RefusedAt.{RefusedAt}
use Rattle.wire.proofs.Cases.{then_passed, escaped, passed, got_value}
use Rattle.wire.proofs.Placeless.{Placeless, HasName, placeless, placeless_done, placeless_then, name_placeless, name_then, names}
use Rattle.auth.specs.Auth.{Claim, auth_at}
use Rattle.auth.proofs.Placeless.{auth_placeless}
use Rattle.auth.specs.Answer.{claim_told}
use Rattle.auth.specs.declared.Claimed.{Claimed}
use Rattle.shard.specs.Shard.{Shard, shard_at}
use Rattle.shard.proofs.Placeless.{shard_placeless}
use Rattle.shard.specs.Answer.{shard_told}
use Rattle.shard.specs.declared.Shard as sharded
use Rattle.model.specs.Book.{Book, Slot, empty, collecting, disagree}
use Rattle.model.specs.Finish.{finish_pages, finish_book}
use Rattle.book.specs.Read.{book_in}
use Rattle.book.proofs.Judging.{book_placeless}
use Rattle.finish.specs.Finish.{collected, finished, delivering}
use Rattle.lend.specs.Same.{same}
use Rattle.crc.specs.Crc.{crc32}
use Rattle.mark.specs.Mark.{mark_of}
use Rattle.frame.specs.Frame as F
use Rattle.frame.specs.declared.fields.Numbers.{Numbers}
use Rattle.frame.specs.Allowed as A
use Rattle.frame.specs.Kind.{type_byte}
use Rattle.frame.specs.Answer as frame
use Rattle.frame.specs.declared.Frame.{Frame}
use Rattle.frame.specs.declared.Kind.{Kind}
use Rattle.frame.specs.declared.Kind.TheVariants as kind
use Rattle.frame.proofs.Allowed.{known_only}
use Rattle.frame.proofs.Placeless.{start_placeless, numbers_placeless, frame_placeless}

-- ---- an answer for each value and each refusal that has a name

pub can_tell : {A : Type 0} (a : Answer A) → Placeless a → (r : Result A Refusal) × (reading.told r ≡ a)
can_tell (done x) p = (Ok x, refl)
can_tell (refused_at e place) p = (Err p.named.0, ap₂ refused_at p.named.1 (sym p.none))

pub can_tell_at : {A : Type 0} (a : Answer A) → HasName a → (r : Result A RefusedAt) × (reading.told_at r ≡ a)
can_tell_at (done x) p = (Ok x, refl)
can_tell_at (refused_at e place) p = (Err (record { why = p.named.0; place = place }), ap (λ (n : ℕ). refused_at n place) p.named.1)

-- the change's answer is refused where the change is
kept_placeless : {A : Type 0} (d : Change A) → Placeless d → Placeless (answer_of d)
kept_placeless (done (x, a)) p = placeless_done a
kept_placeless (refused_at e place) p = record { none = p.none; named = p.named }

pub kept_named : {A : Type 0} (d : Change A) → HasName d → HasName (answer_of d)
kept_named (done (x, a)) p = record { named = tt }
kept_named (refused_at e place) p = record { named = p.named }

pub can_change : {A : Type 0} (d : Change A) → Placeless d → (r : Result A Refusal) × (reading.told r ≡ answer_of d)
can_change d p = can_tell (answer_of d) (kept_placeless d p)

-- ---- a reader into lent output, of any length

writing_placeless : (at : ℕ) (out : List ℕ) (v : Answer (List ℕ)) → Placeless v → Placeless (writing at out v)
unfolding writing
writing_placeless at out v p = placeless_then v _ p (λ bs. search placeless)

pub can_answer : (v : Answer (List ℕ)) → Placeless v → (out : List ℕ) → (r : Result ℕ Refusal) × Written 0 v out (bytes_after out (writing 0 out v)) r
can_answer v p out = let r = can_change (writing 0 out v) (writing_placeless 0 out v p) in (r.0, record { answer = r.1; bytes = refl })

-- ---- payloads: an answer for each value and each refusal

pub claim_answer : (s : List ℕ) → (r : Result Claimed Refusal) × (claim_told r ≡ auth_at s)
claim_answer s = go (auth_at s) (auth_placeless s)
  where
    go : (g : Got Claim) → Placeless g → (r : Result Claimed Refusal) × (claim_told r ≡ g)
    go (done (c, next)) p = (Ok (record { public = c.public; sig = c.sig; hash = c.hash; next = next }), refl)
    go (refused_at e place) p = (Err p.named.0, ap₂ refused_at p.named.1 (sym p.none))

pub shard_answer : (s : List ℕ) → (r : Result sharded.Shard Refusal) × (shard_told r ≡ shard_at s)
shard_answer s = go (shard_at s) (shard_placeless s)
  where
    go : (g : Got Shard) → Placeless g → (r : Result sharded.Shard Refusal) × (shard_told r ≡ g)
    go (done (v, next)) p =
        (Ok (record { public = v.claim.public; sig = v.claim.sig; hash = v.claim.hash; content = v.content; quorum = v.quorum; next = next }), refl)
    go (refused_at e place) p = (Err p.named.0, ap₂ refused_at p.named.1 (sym p.none))

-- ---- finish: what it refuses has a name, with a place or without

pages_named : (ss : List Slot) → HasName (finish_pages ss)
unfolding finish_pages
pages_named ss = search names

book_named : (b : Book) → HasName (finish_book b)
unfolding finish_book
book_named empty = search names
book_named (collecting t ss) = pages_named (take t ss)
book_named disagree = search names

finished_named : (c out : List ℕ) → HasName (finished c out)
unfolding finished collected
finished_named c out =
    name_then (collected c) _ (name_then (book_in c) finish_book (name_placeless _ (book_placeless c)) book_named) (λ d. search names)

pub finishing_named : (c out : List ℕ) → HasName (delivering out (finished c out))
finishing_named c out = name_then (finished c out) _ (finished_named c out) (λ d. search names)

-- ---- a frame: its answer's position is past its checksum, as the definition has it

abbrev Answers : Got F.Frame → Type 0
Answers g = (r : Result Frame Refusal) × (frame.told r ≡ g)

-- a refusal that has a name
refusal : (e place : ℕ) → Placeless {A = F.Frame × ℕ} (refused_at e place) → Answers (refused_at e place)
refusal e place p = (Err p.named.0, ap₂ refused_at p.named.1 (sym p.none))

-- the type of a frame is one of three
named_kind : (k : ℕ) → A.Kind k → (t : Kind) × (type_byte t ≡ k)
named_kind k (inl e) = (kind.Main, sym e)
named_kind k (inr (inl e)) = (kind.Key, sym e)
named_kind k (inr (inr e)) = (kind.Auth, sym e)

module _ (s : List ℕ) where
  known_kind : (k next : ℕ) → F.start_of s ≡ got k next → (t : Kind) × (type_byte t ≡ k)
  unfolding F.start_of F.kind_at
  known_kind k next e =
      let (x, a, e0, e1) = then_passed (mark_of F.magic s) _ e in
      let (t, b, e2, e3) = then_passed (F.kind_at s a) _ e1 in
      let (y, c, e4, e5) = then_passed (F.id_at s b) _ e3 in
      let p = escaped (leb (length s) a) _ 3 e2 in
      let q = passed (F.known (get_or s a 0)) _ 6 p.1 in
      named_kind k (rw (got_value q.1 ∙ got_value e5) at (known_only (get_or s a 0) q.0))

  placed : (t : Kind) (n : Numbers) (b : ℕ) (v w : Bool)
      → Answers (choose v (choose w (got (record { kind = type_byte t; index = n.index; total = n.total; at = record { start = b; len = n.len } }) (b + n.len + 4)) (refused 9)) (refused 8))
  placed t n b true true = (Ok (record { kind = t; index = n.index; total = n.total; at = record { start = b; len = n.len } }), refl)
  placed t n b true false = refusal 9 0 (search placeless)
  placed t n b false w = refusal 8 0 (search placeless)

  summed : (t : Kind) (n : Numbers) (b : ℕ) (u v : Bool)
      → Answers (then {A = Unit {0} × ℕ} (choose u (choose v (got tt (b + n.len + 4)) (refused 10)) (refused 3)) (λ (_, next). F.judged (type_byte t) n b next))
  unfolding F.judged
  summed t n b true true = placed t n b (F.in_place (type_byte t) n.index n.total) (F.in_size n.total n.len)
  summed t n b true false = refusal 10 0 (search placeless)
  summed t n b false v = refusal 3 0 (search placeless)

  numbered : (t : Kind) (g : Got Numbers) → Placeless g → Answers (then g (λ (n, b). then (F.data_at s b n.len) (λ (_, next). F.judged (type_byte t) n b next)))
  unfolding F.data_at
  numbered t (done (n, b)) p =
      summed t n b (eqb (length s - b) (n.len + 4)) (same (drop (b + n.len) s) (big_endian 4 (crc32 (take (b + n.len) s))))
  numbered t (refused_at e place) p = refusal e place (record { none = p.none; named = p.named })

  started : (g : Got ℕ) → Placeless g → ((k next : ℕ) → g ≡ got k next → (t : Kind) × (type_byte t ≡ k))
      → Answers (then g (λ (kind, a). then (F.numbers_at s a) (λ (n, b). then (F.data_at s b n.len) (λ (_, next). F.judged kind n b next))))
  started (done (k, a)) p known =
      let t = known k a refl in
      rw (sym t.1) (numbered t.0 (F.numbers_at s a) (numbers_placeless s a))
  started (refused_at e place) p known = refusal e place (record { none = p.none; named = p.named })

  pub frame_answer : Answers (F.frame_of s)
  unfolding F.frame_of
  frame_answer = started (F.start_of s) (start_placeless s) known_kind
