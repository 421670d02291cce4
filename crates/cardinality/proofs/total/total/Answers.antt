use mathlib.Core.Path.{◌∙◌, ap}
use Prim.Native.Nat.{ℕ}
use Prim.Native.Nat.{ℕ, ◌*◌}
use Rattle.diagram.proofs.Words.{zeros_whole}
use lib.ListN.{length-replicate, length}
use Rattle.cardinality.proofs.Answers.{zeros_own, given, alone, above_few, root_asks, root_done}
use native.Mathlib.Omega.{arith}
use Rattle.cardinality.proofs.total.total.Goals as goal

pub returns-then-nodes-eq1 : goal.returns-then-nodes-eq1
returns-then-nodes-eq1 c = (alone c.args.words.now c.args.nodes c.requires.0 c.requires.1 c.if-nodes-eq1.true c.nought.ensures, zeros_own c.args.room.now (3 * c.args.nodes) c.requires.3)

pub count_all-requires : goal.count_all-requires
count_all-requires c = (given c.args.words.now c.args.nodes c.requires.0 c.requires.1 c.if-nodes-eq1.false, c.requires.2, omega (arith, ap length c.requires.3, length-replicate {A = ℕ} (3 * c.args.nodes) 0))

pub count_at-below-requires : goal.count_at-below-requires
count_at-below-requires c = root_asks c.args.words.now c.args.nodes c.requires.0 c.requires.1 c.count_all.ensures

pub power_of_two-requires : goal.power_of_two-requires
power_of_two-requires c = above_few c.args.words.now c.args.nodes c.requires.0 c.requires.1 c.var_of-above.result.0 c.var_of-above.ensures

pub returns : goal.returns
returns c = (root_done c.args.words.now c.args.nodes c.requires.0 c.requires.1 c.count_all.ensures c.var_of-above.result.0 c.var_of-above.ensures c.count_at-below.ensures c.power_of_two.ensures, c.clear.ensures ∙ zeros_whole c.count_all.new.room c.args.room.now c.count_all.auto.room)
