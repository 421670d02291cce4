use Rattle.summary_count.proofs.Places.{nothing_yet, few_there, next_at, all_counted}
use native.Mathlib.Omega.{arith}
use Rattle.summary_count.proofs.nodes.count_nodes.Goals as goal

pub loop-p-init : goal.loop-p-init
loop-p-init c = (nothing_yet _ _ c.requires, omega arith, c.requires.pool.two)

pub count_node-requires : goal.count_node-requires
count_node-requires c = few_there _ _ c.requires _ c.loop-p.invariant.0 c.loop-p.invariant.1 (omega (arith, c.loop-p-test.true))

pub loop-p-preserved : goal.loop-p-preserved
loop-p-preserved c = (next_at _ _ c.requires _ c.loop-p.invariant.0 c.loop-p.invariant.1 (omega (arith, c.loop-p-test.true)) c.count_node.ensures, omega arith, omega (arith, c.loop-p-test.true))

pub returns : goal.returns
returns c = all_counted _ _ c.requires c.loop-p.invariant.0 (omega (arith, c.loop-p-test.false, c.loop-p.invariant.2))
