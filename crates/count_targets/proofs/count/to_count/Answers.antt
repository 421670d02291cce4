use Rattle.naturals.specs.Natural.{value}
use Rattle.diagram.proofs.Accepting.{passed_on}
use Rattle.count_targets.proofs.Counts.{check_refuses, open_few, open_refuses, open_counts, open_meets}
use Rattle.count_targets.proofs.count.to_count.Goals as goal

pub returns-in_err-extent : goal.returns-in_err-extent
returns-in_err-extent c =
    rw (passed_on c.from_residual.result c.in_err-extent.field-0.0 c.from_residual.ensures.1) (check_refuses c.args.above c.args.as_is (value c.args.target.words) c.args.output.now c.admit.ensures c.in_err-extent.was)

pub tell-requires : goal.tell-requires
tell-requires c = open_few c.args.above c.args.as_is (value c.args.target.words) c.args.output.now c.admit.ensures c.in_ok-extent.was

pub returns-in_err-tell : goal.returns-in_err-tell
returns-in_err-tell c =
    rw (passed_on c.from_residual-in_err-tell.result c.in_err-tell.field-0.0 c.from_residual-in_err-tell.ensures.1)
    (open_refuses c.args.above c.args.as_is (value c.args.target.words) c.args.output.now c.admit.ensures c.in_ok-extent.was c.tell.result c.tell.ensures c.in_err-tell.was)

pub hit-value-requires : goal.hit-value-requires
hit-value-requires c = open_counts c.args.above c.args.as_is (value c.args.target.words) c.args.output.now c.admit.ensures c.in_ok-extent.was c.tell.result c.tell.ensures c.in_ok-tell.was

pub returns : goal.returns
returns c = open_meets c.args.above c.args.as_is (value c.args.target.words) c.args.output.now c.admit.ensures c.in_ok-extent.was c.tell.result c.tell.ensures c.in_ok-tell.was c.hit-value.ensures
