use Rattle.store.proofs.Walking.{walk_near, walk_terminal, walk_known, walk_falls, walk_falls_high, walk_low, walk_low_full, walk_high, walk_high_full, walk_shelf, walk_small, walk_node}
use Rattle.diagram.specs.Diagram.{var_of, vars}
use borrow.Author.Tests.{ltb-true, ltb-false}
use mathlib.Core.Path.{sym, ap, ◌∙◌}
use lib.ListN.{get_or, set}
use Prim.Native.Nat.{◌+◌, ◌-◌}
use native.Mathlib.Omega.{arith}
use Prim.Native.Nat.{ℕ, ◌<◌}
use Rattle.store.proofs.walk.+build.Goals as goal

pub returns-then-is_terminal : goal.returns-then-is_terminal
returns-then-is_terminal t c = walk_terminal c.requires (ltb-true c.args.node.0 2 (sym c.is_terminal.ensures ∙ c.if-is_terminal.true))

pub overflow_add-at : goal.overflow_add-at
overflow_add-at t c = omega (arith, c.to_index.ensures, walk_near c.requires)

pub returns-then-known-ne0 : goal.returns-then-known-ne0
returns-then-known-ne0 t c =
    let a = c.args in
    walk_known c.requires (c.word-known.ensures ∙ ap (λ (p : ℕ). get_or a.room.now (a.memo + p) 0) c.to_index.ensures) c.if-known-ne0.true

pub build-low-requires : goal.build-low-requires
build-low-requires t c =
    let two = ltb-false c.args.node.0 2 (sym c.is_terminal.ensures ∙ c.if-is_terminal.false) in
    (rw c.decreases at (walk_falls c.requires two c.low_link_of-low_link.ensures), walk_low c.requires two c.low_link_of-low_link.ensures)

pub returns-then-capacity-low : goal.returns-then-capacity-low
returns-then-capacity-low t c =
    let two = ltb-false c.args.node.0 2 (sym c.is_terminal.ensures ∙ c.if-is_terminal.false) in
    walk_low_full c.requires two c.low_link_of-low_link.ensures c.build-low.ensures c.if-capacity-low.true

pub build-high-requires : goal.build-high-requires
build-high-requires t c =
    let two = ltb-false c.args.node.0 2 (sym c.is_terminal.ensures ∙ c.if-is_terminal.false) in
    (rw c.decreases at (walk_falls_high c.requires two c.high_link_of-high_link.ensures), walk_high c.requires two c.low_link_of-low_link.ensures c.build-low.ensures c.if-capacity-low.false c.high_link_of-high_link.ensures)

pub returns-then-capacity-high : goal.returns-then-capacity-high
returns-then-capacity-high t c =
    let two = ltb-false c.args.node.0 2 (sym c.is_terminal.ensures ∙ c.if-is_terminal.false) in
    walk_high_full c.requires two c.low_link_of-low_link.ensures c.build-low.ensures c.if-capacity-low.false c.high_link_of-high_link.ensures c.build-high.ensures c.if-capacity-high.true

pub join-made-requires : goal.join-made-requires
join-made-requires t c =
    let two = ltb-false c.args.node.0 2 (sym c.is_terminal.ensures ∙ c.if-is_terminal.false) in
    walk_shelf c.requires two c.low_link_of-low_link.ensures c.build-low.ensures c.if-capacity-low.false c.high_link_of-high_link.ensures c.build-high.ensures c.if-capacity-high.false c.var_of-var.ensures

pub overflow_add-made : goal.overflow_add-made
overflow_add-made t c =
    let two = ltb-false c.args.node.0 2 (sym c.is_terminal.ensures ∙ c.if-is_terminal.false) in
    let small = walk_small c.requires two c.low_link_of-low_link.ensures c.build-low.ensures c.if-capacity-low.false c.high_link_of-high_link.ensures c.build-high.ensures c.if-capacity-high.false c.var_of-var.ensures c.join-made.ensures in
    omega (arith, small)

pub returns : goal.returns
returns t c =
    let two = ltb-false c.args.node.0 2 (sym c.is_terminal.ensures ∙ c.if-is_terminal.false) in
    let here = ap (λ (p : ℕ). set c.join-made.new.room (c.args.memo + p) (c.join-made.result.pointer.0 + 1)) c.to_index.ensures in
    let same = c.join-made.auto.room ∙ c.build-high.auto.room ∙ c.build-low.auto.room in
    walk_node c.requires two c.low_link_of-low_link.ensures c.build-low.ensures c.if-capacity-low.false c.high_link_of-high_link.ensures c.build-high.ensures c.if-capacity-high.false c.var_of-var.ensures c.join-made.ensures same (c.put.ensures ∙ here)
