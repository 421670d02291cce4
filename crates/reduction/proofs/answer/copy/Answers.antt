use Rattle.reduction.proofs.Answering.{copy_more}
use lib.Seq.{drop-set-lt}
use lib.ListN.{get_or, length-set}
use mathlib.Core.Path.{◌≡◌, refl, ◌∙◌}
use Prim.Native.Nat.{◌+◌}
use native.Mathlib.Omega.{arith}
use Rattle.reduction.proofs.answer.copy.Goals as goal

pub loop-i-init : goal.loop-i-init
loop-i-init c = (omega arith, refl, λ j h. absurd (omega arith), refl)

pub loop-i-preserved : goal.loop-i-preserved
loop-i-preserved c =
    let a = c.args in
    let inv = c.loop-i.invariant in
    let x = get_or a.room.now (a.from + c.loop-i.i) 0 in
    (omega arith, simp length-set inv.1, copy_more a.room.now c.loop-i.output a.from c.loop-i.i x refl (omega arith) inv.2, drop-set-lt a.count c.loop-i.output c.loop-i.i x c.loop-i-test.true ∙ inv.3)

pub shape_of-output : goal.shape_of-output
shape_of-output c = c.loop-i.invariant.1

pub returns : goal.returns
returns c =
    let inv = c.loop-i.invariant in
    record { first = λ j h. inv.2 j (omega arith); rest = inv.3 }
