-- `typed::lay::whole` meets its contract. Assumes nothing.
use mathlib.Core.Path.{refl, sym}
use native.Mathlib.Omega.{arith}
use lib.Seq.{length-take-le}
use Rattle.typed.proofs.Laying.{never_refused, chars_few, whole_given}
use Rattle.typed.proofs.lay.whole.Goals as goal

pub returns-in_err-len : goal.returns-in_err-len
returns-in_err-len c = never_refused _ _ _ _ c.zbase32_write.ensures c.requires refl _ c.in_err-len.was

pub slice_bounds-chars-end : goal.slice_bounds-chars-end
slice_bounds-chars-end c = omega (arith, chars_few _ _ _ _ c.zbase32_write.ensures c.requires refl c.in_ok-len.len c.in_ok-len.was)

pub slice_bounds-lines-end : goal.slice_bounds-lines-end
slice_bounds-lines-end c =
    let few = chars_few _ _ _ _ c.zbase32_write.ensures c.requires refl c.in_ok-len.len c.in_ok-len.was in
    sym (length-take-le c.in_ok-len.len c.zbase32_write.new.out (omega (arith, few)))

pub lines-end-requires : goal.lines-end-requires
lines-end-requires c =
    let few = chars_few _ _ _ _ c.zbase32_write.ensures c.requires refl c.in_ok-len.len c.in_ok-len.was in
    let m = length-take-le c.in_ok-len.len c.zbase32_write.new.out (omega (arith, few)) in
    (omega (arith, few, m), omega arith)

pub returns : goal.returns
returns c = whole_given _ _ _ _ c.zbase32_write.ensures c.requires refl c.in_ok-len.len c.in_ok-len.was _ _ _ _ _ _ refl c.lines-end.ensures c.give.ensures
