use Rattle.recounts.proofs.Passes.{above_low, above_high}
use native.Mathlib.Omega.{arith}
use Rattle.recounts.proofs.changes.is_above_change.Goals as goal

pub is_marked-requires : goal.is_marked-requires
is_marked-requires c = omega arith

pub returns-then-is_marked : goal.returns-then-is_marked
returns-then-is_marked c = above_low c.args.words.now c.args.changed.now c.args.node.0 c.low_link_of.ensures c.is_marked.ensures c.if-is_marked.true

pub is_marked-requires-2 : goal.is_marked-requires-2
is_marked-requires-2 c = omega arith

pub returns : goal.returns
returns c = above_high c.args.words.now c.args.changed.now c.args.node.0 c.low_link_of.ensures c.is_marked.ensures c.if-is_marked.false c.high_link_of.ensures c.is_marked-2.ensures
