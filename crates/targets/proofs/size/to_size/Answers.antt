use Rattle.diagram.proofs.Accepting.{passed_on}
use Rattle.targets.proofs.Sizes.{size_passed, size_refuses, size_targets, size_meets}
use Rattle.targets.proofs.size.to_size.Goals as goal

pub tell-requires : goal.tell-requires
tell-requires c = size_passed c.args.above c.args.as_is c.args.target c.args.output.now c.admit-checked.ensures

pub returns-in_err-extent : goal.returns-in_err-extent
returns-in_err-extent c =
    rw (passed_on c.from_residual.result c.in_err-extent.field-0.0 c.from_residual.ensures.1)
    (size_refuses c.args.above c.args.as_is c.args.target c.args.output.now _ c.admit-checked.ensures c.tell.ensures c.in_err-extent.was)

pub hit-value-requires : goal.hit-value-requires
hit-value-requires c = size_targets c.args.above c.args.as_is c.args.target c.args.output.now c.tell.result c.admit-checked.result c.admit-checked.ensures c.tell.ensures c.in_ok-extent.was

pub returns : goal.returns
returns c = size_meets c.args.above c.args.as_is c.args.target c.args.output.now _ c.admit-checked.ensures c.tell.ensures c.in_ok-extent.was c.hit-value.ensures
