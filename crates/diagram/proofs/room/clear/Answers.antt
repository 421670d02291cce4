use mathlib.Core.Path.{◌∙◌, ap}
use borrow.Author.Rules.{rules}
use borrow.Author.Fill.{fill_none, fill_more}
use native.Mathlib.Omega.{arith}
use lib.ListN.{set, length-set}
use Rattle.diagram.proofs.Words.{cleared_all}
use Rattle.diagram.proofs.room.clear.Goals as goal

pub loop-i-init : goal.loop-i-init
loop-i-init c = (omega arith, search rules, fill_none c.args.room.now 0)

pub loop-i-preserved : goal.loop-i-preserved
loop-i-preserved c =
    let i = c.loop-i.i in
    let r₀ = c.args.room.now in
    let inv = c.loop-i.invariant in
    (omega arith, length-set c.loop-i.room i 0 ∙ inv.1, ap (λ r. set r i 0) inv.2 ∙ fill_more i 0 r₀ (omega arith))

pub shape_of-room : goal.shape_of-room
shape_of-room c = c.loop-i.invariant.1

pub returns : goal.returns
returns c =
    let inv = c.loop-i.invariant in
    let a = c.args in
    cleared_all c.loop-i.room a.room.now a.count c.loop-i.i (omega arith) inv.2
