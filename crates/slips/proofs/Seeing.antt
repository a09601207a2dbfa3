-- What is seen in the text of a slip, step by step. Assumes nothing.
use Prim.Native.Nat.{ℕ, ◌/◌, ◌≤◌, ◌<◌}
use mathlib.Core.Path.{◌≡◌, refl, sym, ap, ◌∙◌}
use mathlib.Core.Logic.{⊎_elim}
use mathlib.Core.Bool.{Bool, true, false}
use mathlib.Core.List.{List}
use native.Mathlib.Omega.{arith}
use native.Mathlib.Nat.{zero-add}
use borrow.Author.Tests.{eq-eqb, ne_eqb, le-leb, lt-leb}
use lib.Dec.{leb}
use lib.ListN.{length, take, replicate, length-replicate}
use lib.Seq.{length-take-le}
use Rattle.std.specs.Prelude.{Result, Ok, Err}
use Rattle.std.specs.Result.{IsErr, IsErrAnd}
use Rattle.wire.specs.Answer.{Answer, done, refused_at, demand, then, leaves}
use Rattle.wire.specs.Over.{over}
use Rattle.wire.specs.Reading.{told}
use Rattle.wire.specs.Span.{part_at}
use Rattle.wire.specs.Writing.{writing, Written}
use Rattle.wire.specs.declared.Span.{Span}
use Rattle.wire.specs.declared.Refusal.{Refusal}
use Rattle.wire.specs.declared.Refusal.TheVariants.{OutOfRange}
use Rattle.wire.specs.declared.RefusedAt.{RefusedAt}
use Rattle.wire.specs.Refusal.{number, Placeless}
use Rattle.wire.proofs.Answers.{handed_at}
use Rattle.wire.proofs.Cases.{not_done, done_value}
use Rattle.wire.proofs.Overs.{read_over}
use Rattle.wire.proofs.Writes.{Stood, done_stood, refused_why, written_over}
use Rattle.text.specs.Text.{base64, read_text}
use Rattle.typed.specs.Typed.{read_typed, ReadLines}
use Rattle.frame.specs.Frame.{frame_of}
use Rattle.frame.specs.Answer as frame
use Rattle.frame.specs.Kind.{type_byte}
use Rattle.frame.specs.declared.Frame.{Frame}
use Rattle.frame.specs.declared.Kind.TheVariants.{Key}
use Rattle.frame.proofs.Answers.{type_injective}
use Rattle.shard.specs.Shard.{shard_at}
use Rattle.shard.specs.Answer.{shard_told}
use Rattle.shard.specs.declared.Shard.{Shard}
use Rattle.digits.specs.Hex.{hex_verdict}
use Rattle.slips.specs.Slip.{slip_read, text_in, bytes_in, shard_seen, frame_seen, slip_seen, Told}
use Rattle.slips.specs.Digits.{sized_hex}
use Rattle.slips.specs.declared.Share.{Share}
use Rattle.slips.specs.declared.NoSlip.{NoSlip}
use Rattle.slips.specs.declared.NoSlip.TheVariants as N

-- ---- the text

module _ (cs room room' : List ℕ) (typed : Bool) where
  pub typed_text : typed ≡ true → (r : Result ℕ RefusedAt) → ReadLines (read_typed cs) room room' r → ReadLines (text_in typed cs) room room' r
  unfolding text_in
  typed_text e r w = rw e w

  module _ (e : typed ≡ false) (v : Result ℕ Refusal) (w : Written 0 (read_text base64 cs) room room' v) where
    pub scan_text : (n : ℕ) → v ≡ Ok n → ReadLines (text_in typed cs) room room' (Ok n)
    unfolding text_in
    scan_text n q = rw e (rw q at w)

    pub scan_no_text : (k : Refusal) → v ≡ Err k → (r : Result ℕ RefusedAt) → IsErr r × IsErrAnd r (Placeless k) → ReadLines (text_in typed cs) room room' r
    unfolding text_in
    scan_no_text k q r f = rw e (record { answer = handed_at r k f _ (ap told (sym q) ∙ w.answer); bytes = w.bytes })

-- ---- the shard

module _ (bs part out out' : List ℕ) (at : Span) (g : part ≡ part_at bs at) (r : Result Shard Refusal) (h : shard_told r ≡ shard_at part) where
  shard_is : shard_told r ≡ shard_at (part_at bs at)
  shard_is = h ∙ ap shard_at g

  module _ (x : Shard) (q : r ≡ Ok x) (v : Result ℕ Refusal) (w : Written 0 (done bs) out out' v) where
    pub shard_given : (n : ℕ) → v ≡ Ok n → Told (shard_seen bs at (shard_at (part_at bs at))) out out' (Ok (record { len = n; payload = at; quorum = x.quorum }))
    shard_given n p =
        let s = done_stood 0 (done bs) out out' n (rw p at w) in
        let z : s.what ≡ bs = done_value (sym s.meant) in
        let k : n ≡ length bs = s.count ∙ ap length z in
        rw (← shard_is, q)
        (record {
          answer = rw (le-leb (length bs) (length out) (omega (arith, s.fits))) (ap (λ (m : ℕ). slip_read m at x.quorum) k);
          bytes = written_over 0 bs out out' w;
        })

    pub shard_short : (e : Refusal) → v ≡ Err e → Told (shard_seen bs at (shard_at (part_at bs at))) out out' (Err N.Short)
    shard_short e p =
        let small : length out < length bs =
        ⊎_elim (λ o. not_done (sym o)) (λ o. omega (arith, o.2, ap length (done_value o.1))) (refused_why 0 (done bs) out out' (number e) 0 (rw p at w)) in
        rw (← shard_is, q) (record { answer = rw (lt-leb (length bs) (length out) small); bytes = written_over 0 bs out out' w })

-- ---- the frame

module _ (bs out out' : List ℕ) (r : Result Frame Refusal) (h : frame.told r ≡ frame_of bs) where
  pub frame_refused : (e : Refusal) → r ≡ Err e → Told (frame_seen bs (frame_of bs)) out out (Err (N.Frame e))
  frame_refused e q = rw (← h, q) (record { answer = refl; bytes = refl })

  module _ (f : Frame) (q : r ≡ Ok f) where
    pub frame_other : (f.kind ≡ Key → ⊥) → Told (frame_seen bs (frame_of bs)) out out (Err (N.Other f.kind))
    frame_other n =
        rw (← h, q, ne_eqb (type_byte f.kind) 0x4B (λ (e : type_byte f.kind ≡ 0x4B). n (type_injective f.kind Key e))) (record { answer = refl; bytes = refl })

    pub frame_key : f.kind ≡ Key → (a : Result Share NoSlip) → Told (shard_seen bs f.at (shard_at (part_at bs f.at))) out out' a → Told (frame_seen bs (frame_of bs)) out out' a
    frame_key e a k = rw (← h, q, eq-eqb (type_byte f.kind) 0x4B (ap type_byte e)) k

-- ---- the whole

module _ (cs y out out' : List ℕ) (typed : Bool) (r : Result ℕ RefusedAt) (w : ReadLines (text_in typed cs) (replicate 500 0) y r) where
  module _ (n : ℕ) (q : r ≡ Ok n) where
    stood : Stood 0 (text_in typed cs) (replicate 500 0) y n
    stood = done_stood 0 (text_in typed cs) (replicate 500 0) y n (rw q at w)

    pub text_within : length y ≡ length (replicate {A = ℕ} 500 0) → n ≤ length y
    text_within l = omega (arith, stood.fits)

    pub text_room : length y ≡ length (replicate {A = ℕ} 500 0) → n ≡ length (take n y)
    text_room l = sym (length-take-le n y (omega (arith, stood.fits)))

    text_is_lem : bytes_in typed cs ≡ done (take n y)
    unfolding bytes_in
    text_is_lem =
        let bs = stood.what in
        let z : n ≡ length bs = omega (arith, stood.count) in
        let f : length bs ≤ 500 = omega (arith, stood.fits, stood.count, length-replicate {A = ℕ} 500 0) in
        let e : take n y ≡ bs =
        ap (λ (k : ℕ). take k y) z ∙ ap (λ (x : List ℕ). take (length bs) x) stood.stands
        ∙ read_over 0 bs (replicate 500 0) (omega (arith, stood.fits, stood.count)) in
        rw (stood.meant, le-leb (length bs) 500 f) (ap (λ (b : List ℕ). done b) (sym e))

    pub text_seen_lem : (a : Result Share NoSlip) → Told (frame_seen (take n y) (frame_of (take n y))) out out' a → Told (slip_seen typed cs) out out' a
    unfolding slip_seen
    text_seen_lem a k = rw text_is_lem k

  module _ (x : RefusedAt) (q : r ≡ Err x) where
    no_bytes : bytes_in typed cs ≡ refused_at (number x.why) x.place
    unfolding bytes_in writing
    no_bytes = go (text_in typed cs) (rw q at w.answer)
      where
        go : (v : Answer (List ℕ)) → refused_at (number x.why) x.place ≡ then (writing 0 (replicate 500 0) v) (λ (y, k). done k) → then v (λ bs. demand (leb (length bs) 500) 11 (done bs)) ≡ refused_at (number x.why) x.place
        go (refused_at f k) p = cc
        go (done bs) p = more (leb (length bs) 500) (rw (length-replicate {A = ℕ} 500 0, zero-add (length bs)) at p)
          where
            more : (t : Bool) → refused_at (number x.why) x.place ≡ then (demand t 11 (leaves (over 0 bs (replicate 500 0)) (length bs))) (λ (y, k). done k)
                → demand t 11 (done bs) ≡ refused_at (number x.why) x.place
            more true p = not_done p
            more false p = cc

    pub no_text_seen : Told (slip_seen typed cs) out out (Err (N.Text x))
    unfolding slip_seen
    no_text_seen = rw no_bytes (record { answer = refl; bytes = refl })

-- ---- digits

module _ (cs out out' : List ℕ) (size : ℕ) where
  pub hex_refused : (length cs / 2 ≡ size → ⊥) → Written 0 (sized_hex size cs) out out (Err OutOfRange)
  unfolding sized_hex writing
  hex_refused n = rw (ne_eqb (length cs / 2) size n) (record { answer = refl; bytes = refl })

  pub hex_given : (r : Result ℕ Refusal) → length cs / 2 ≡ size → Written 0 (hex_verdict cs) out out' r → Written 0 (sized_hex size cs) out out' r
  unfolding sized_hex
  hex_given r e w = rw (eq-eqb (length cs / 2) size e) w
