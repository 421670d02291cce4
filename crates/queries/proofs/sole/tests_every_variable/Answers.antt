use mathlib.Core.Path.{sym, ◌∙◌}
use Prim.Native.Nat.{◌-◌}
use borrow.Author.Tests.{ltb-true, ltb-false, not-true, not-false}
use Rattle.queries.proofs.SoleWalk.{testing_begins, testing_small, testing_no, testing_on, testing_zero, testing_one}
use native.Mathlib.Omega.{arith}
use Rattle.queries.proofs.sole.tests_every_variable.Goals as goal

pub overflow_sub-node : goal.overflow_sub-node
overflow_sub-node c = omega (arith, c.requires.0, c.requires.2.formed.some)

pub overflow_cast-node : goal.overflow_cast-node
overflow_cast-node c = omega (arith, c.requires.0, c.requires.2.formed.few)

pub loop-var-init : goal.loop-var-init
loop-var-init c = testing_begins c.args.words.now c.requires.2 c.args.nodes c.requires.0

pub returns-then-var-expected : goal.returns-then-var-expected
returns-then-var-expected c = testing_no c.args.words.now c.requires.2 c.loop-var.invariant (ltb-false c.loop-var.node.0 2 (sym c.is_terminal.ensures ∙ c.loop-var-test.true)) c.var_of-var.ensures c.if-var-expected.true

pub overflow_add-expected : goal.overflow_add-expected
overflow_add-expected c = omega (arith, testing_small c.args.words.now c.requires.2 c.loop-var.invariant)

pub loop-var-smaller : goal.loop-var-smaller
loop-var-smaller c = (testing_on c.args.words.now c.requires.2 c.loop-var.invariant (ltb-false c.loop-var.node.0 2 (sym c.is_terminal.ensures ∙ c.loop-var-test.true)) c.var_of-var.ensures c.if-var-expected.false c.only_child-node.ensures).1

pub loop-var-preserved : goal.loop-var-preserved
loop-var-preserved c = (testing_on c.args.words.now c.requires.2 c.loop-var.invariant (ltb-false c.loop-var.node.0 2 (sym c.is_terminal.ensures ∙ c.loop-var-test.true)) c.var_of-var.ensures c.if-var-expected.false c.only_child-node.ensures).0

pub returns-then-node-ne1 : goal.returns-then-node-ne1
returns-then-node-ne1 c = testing_zero c.args.words.now c.requires.2 c.loop-var.invariant (ltb-true c.loop-var.node.0 2 (sym c.is_terminal.ensures ∙ c.loop-var-test.false)) c.if-node-ne1.true

pub returns : goal.returns
returns c = testing_one c.args.words.now c.requires.2 c.loop-var.invariant (ltb-true c.loop-var.node.0 2 (sym c.is_terminal.ensures ∙ c.loop-var-test.false)) c.if-node-ne1.false c.requires.1
