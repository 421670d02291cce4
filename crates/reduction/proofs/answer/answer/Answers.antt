use Rattle.reduction.proofs.Answering.{lent_few, lent_asked, answer_fits, answer_inside, answer_ends}
use native.Mathlib.Omega.{arith}
use Rattle.reduction.proofs.answer.answer.Goals as goal

pub make-count-requires : goal.make-count-requires
make-count-requires c = lent_asked c.requires c.most-most.ensures

pub hand_over-requires : goal.hand_over-requires
hand_over-requires c = (c.requires.asked.ordered.formed.few, answer_inside c.requires c.most-most.ensures c.make-count.ensures, answer_fits c.requires c.most-most.ensures c.make-count.ensures)

pub overflow_mul-most : goal.overflow_mul-most
overflow_mul-most c = omega (arith, lent_few c.requires.asked c.most-most.ensures)

pub overflow_add-most : goal.overflow_add-most
overflow_add-most c = omega (arith, lent_few c.requires.asked c.most-most.ensures)

pub returns : goal.returns
returns c = answer_ends c.requires c.most-most.ensures c.make-count.ensures c.hand_over.auto.output c.hand_over.ensures c.clear.ensures
