use mathlib.Core.Path.{sym, ◌∙◌}
use Prim.Native.Nat.{suc, ◌-◌}
use borrow.Author.Tests.{ltb-true, ltb-false, not-true, not-false}
use Rattle.queries.proofs.SoleWalk.{along_begins, along_on, clause_is}
use native.Mathlib.Omega.{arith}
use Rattle.queries.proofs.sole.ends_at_one.Goals as goal

pub overflow_sub-node : goal.overflow_sub-node
overflow_sub-node c = omega (arith, c.requires.0, c.requires.1.formed.some)

pub overflow_cast-node : goal.overflow_cast-node
overflow_cast-node c = omega (arith, c.requires.0, c.requires.1.formed.few)

pub loop-node-init : goal.loop-node-init
loop-node-init c = (0, along_begins c.args.words.now c.requires.1 c.args.nodes c.requires.0)

pub loop-node-smaller : goal.loop-node-smaller
loop-node-smaller c = (along_on c.args.words.now c.requires.1 c.loop-node.invariant.1 (ltb-false c.loop-node.node.0 2 (sym c.is_terminal.ensures ∙ c.loop-node-test.true)) c.only_child-node.ensures).1

pub loop-node-preserved : goal.loop-node-preserved
loop-node-preserved c = (suc c.loop-node.invariant.0, (along_on c.args.words.now c.requires.1 c.loop-node.invariant.1 (ltb-false c.loop-node.node.0 2 (sym c.is_terminal.ensures ∙ c.loop-node-test.true)) c.only_child-node.ensures).0)

pub returns : goal.returns
returns c = clause_is c.args.words.now c.requires.1 c.loop-node.invariant.1 (ltb-true c.loop-node.node.0 2 (sym c.is_terminal.ensures ∙ c.loop-node-test.false))
