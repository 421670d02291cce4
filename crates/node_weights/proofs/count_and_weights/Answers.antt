use Rattle.diagram.proofs.Accepting.{passed_on}
use Rattle.node_weights.proofs.Answers.{both_refused, both_few, both_asks, both_hand, both_accepted}
use native.Mathlib.Omega.{arith}
use Rattle.node_weights.proofs.count_and_weights.Goals as goal

pub returns-in_err-extent : goal.returns-in_err-extent
returns-in_err-extent c =
    rw (passed_on c.from_residual.result c.in_err-extent.field-0.0 c.from_residual.ensures.1) (both_refused c.args.output.now c.admit.ensures c.in_err-extent.was)

pub count_and_weigh-value-requires : goal.count_and_weigh-value-requires
count_and_weigh-value-requires c = both_asks c.args.output.now c.admit.ensures c.in_ok-extent.was

pub hand_over-requires : goal.hand_over-requires
hand_over-requires c = both_hand c.args.output.now c.admit.ensures c.in_ok-extent.was c.count_and_weigh-value.ensures

pub overflow_mul-extent : goal.overflow_mul-extent
overflow_mul-extent c = omega (arith, both_few c.args.output.now c.admit.ensures c.in_ok-extent.was)

pub returns : goal.returns
returns c = both_accepted c.args.output.now c.admit.ensures c.in_ok-extent.was c.count_and_weigh-value.ensures c.hand_over.ensures c.clear.ensures
