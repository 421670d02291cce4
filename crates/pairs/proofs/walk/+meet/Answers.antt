use mathlib.Core.Bool.{true, false}
use mathlib.Core.Path.{sym, ◌∙◌}
use Rattle.pairs.proofs.Walking.{walk_linked, walk_small, walk_known, walk_end_asks, walk_end, walk_falls, walk_low, walk_low_full, walk_high, walk_high_full, walk_asks, walk_node, next_is}
use native.Mathlib.Omega.{arith}
use Rattle.pairs.proofs.walk.+meet.Goals as goal

pub key-requires : goal.key-requires
key-requires t c = walk_small c.requires

pub seek-requires : goal.seek-requires
seek-requires t c = walk_linked c.requires

pub returns-in-Some : goal.returns-in-Some
returns-in-Some t c = walk_known c.requires c.key.ensures c.seek.ensures c.in-Some.is

pub add-requires : goal.add-requires
add-requires t c = walk_end_asks c.requires c.key.ensures c.seek.ensures c.in_default.is

pub returns-then-is_ended : goal.returns-then-is_ended
returns-then-is_ended t c = walk_end c.requires c.key.ensures c.seek.ensures c.in_default.is (sym c.is_ended.ensures ∙ c.if-is_ended.true) c.add.ensures

pub meet-low-requires : goal.meet-low-requires
meet-low-requires t c = let f = sym c.is_ended.ensures ∙ c.if-is_ended.false in
    let e = next_is _ _ _ false c.level-variable.ensures c.pass-p_low.ensures c.pass-q_low.ensures in
    let less = walk_falls c.requires c.key.ensures c.seek.ensures c.in_default.is f false e in
    (omega (arith, c.decreases, less), walk_low c.requires c.key.ensures c.seek.ensures c.in_default.is f e)

pub returns-then-capacity-low : goal.returns-then-capacity-low
returns-then-capacity-low t c = let f = sym c.is_ended.ensures ∙ c.if-is_ended.false in
    let e = next_is _ _ _ false c.level-variable.ensures c.pass-p_low.ensures c.pass-q_low.ensures in
    walk_low_full c.requires c.key.ensures c.seek.ensures c.in_default.is f e c.meet-low.ensures c.if-capacity-low.true

pub meet-high-requires : goal.meet-high-requires
meet-high-requires t c = let f = sym c.is_ended.ensures ∙ c.if-is_ended.false in
    let e = next_is _ _ _ false c.level-variable.ensures c.pass-p_low.ensures c.pass-q_low.ensures in
    let g = next_is _ _ _ true c.level-variable.ensures c.pass-p_high.ensures c.pass-q_high.ensures in
    let less = walk_falls c.requires c.key.ensures c.seek.ensures c.in_default.is f true g in
    (omega (arith, c.decreases, less), walk_high c.requires c.key.ensures c.seek.ensures c.in_default.is f e c.meet-low.ensures c.if-capacity-low.false c.meet-low.auto.table g)

pub returns-then-capacity-high : goal.returns-then-capacity-high
returns-then-capacity-high t c = let f = sym c.is_ended.ensures ∙ c.if-is_ended.false in
    let e = next_is _ _ _ false c.level-variable.ensures c.pass-p_low.ensures c.pass-q_low.ensures in
    let g = next_is _ _ _ true c.level-variable.ensures c.pass-p_high.ensures c.pass-q_high.ensures in
    walk_high_full c.requires c.key.ensures c.seek.ensures c.in_default.is f e c.meet-low.ensures c.if-capacity-low.false c.meet-low.auto.table g c.meet-high.ensures c.if-capacity-high.true

pub add-requires-2 : goal.add-requires-2
add-requires-2 t c = let f = sym c.is_ended.ensures ∙ c.if-is_ended.false in
    let e = next_is _ _ _ false c.level-variable.ensures c.pass-p_low.ensures c.pass-q_low.ensures in
    let g = next_is _ _ _ true c.level-variable.ensures c.pass-p_high.ensures c.pass-q_high.ensures in
    walk_asks c.requires c.key.ensures c.seek.ensures c.in_default.is f e c.meet-low.ensures c.if-capacity-low.false c.meet-low.auto.table g c.meet-high.ensures c.if-capacity-high.false c.meet-high.auto.table

pub returns : goal.returns
returns t c = let f = sym c.is_ended.ensures ∙ c.if-is_ended.false in
    let e = next_is _ _ _ false c.level-variable.ensures c.pass-p_low.ensures c.pass-q_low.ensures in
    let g = next_is _ _ _ true c.level-variable.ensures c.pass-p_high.ensures c.pass-q_high.ensures in
    walk_node c.requires c.key.ensures c.seek.ensures c.in_default.is f e c.meet-low.ensures c.if-capacity-low.false c.meet-low.auto.table g c.meet-high.ensures c.if-capacity-high.false c.meet-high.auto.table c.add-2.ensures
