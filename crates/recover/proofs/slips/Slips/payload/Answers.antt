-- `recover::slips::Slips::payload` meets its contract. Assumes nothing.
use mathlib.Core.Path.{◌≡◌, ap, ◌∙◌}
use mathlib.Core.List.{List, []}
use Prim.Native.Nat.{ℕ}
use native.Mathlib.Omega.{arith}
use lib.ListN.{length, get_or}
use Rattle.recover.specs.Recover.{slips_at}
use Rattle.recover.proofs.Payloads.{slips_long, slip_at}
use Rattle.recover.proofs.slips.Slips.payload.Goals as goal

pub offset_bounds-starts-i : goal.offset_bounds-starts-i
offset_bounds-starts-i c =
    let l = c.self.inside in omega (arith, slips_long l.pool.now l.starts.now l.lens.now, ap length c.self.view_is)

pub bounds-starts-i : goal.bounds-starts-i
bounds-starts-i c =
    let l = c.self.inside in omega (arith, slips_long l.pool.now l.starts.now l.lens.now, ap length c.self.view_is)

pub offset_bounds-lens-i : goal.offset_bounds-lens-i
offset_bounds-lens-i c =
    let l = c.self.inside in omega (arith, slips_long l.pool.now l.starts.now l.lens.now, ap length c.self.view_is)

pub bounds-lens-i : goal.bounds-lens-i
bounds-lens-i c =
    let l = c.self.inside in omega (arith, slips_long l.pool.now l.starts.now l.lens.now, ap length c.self.view_is)

pub returns : goal.returns
returns c =
    let l = c.self.inside in
    let v : slips_at l.pool.now l.starts.now l.lens.now ≡ c.args.self.now = c.self.view_is in
    let n = slips_long l.pool.now l.starts.now l.lens.now in
    let e = ap length v in
    c.part.ensures ∙ slip_at _ _ _ _ (omega (arith, n, e)) (omega (arith, n, e)) ∙ ap (λ (x : List (List ℕ)). get_or x c.args.i []) v
