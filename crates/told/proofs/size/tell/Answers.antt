use Rattle.diagram.proofs.Accepting.{passed_on}
use Rattle.told.proofs.Small.{passed_few, tells_18, tells_fine, tells_first}
use Rattle.told.proofs.size.tell.Goals as goal

pub returns-in_err-extent : goal.returns-in_err-extent
returns-in_err-extent c =
    rw (passed_on c.from_residual.result c.in_err-extent.field-0.0 c.from_residual.ensures.1) (tells_first c.args.above c.args.words.now c.args.target c.in_err-extent.was)

pub is_too_small-requires : goal.is_too_small-requires
is_too_small-requires c = passed_few c.args.words.now c.requires c.in_ok-extent.was

pub returns-then-is_too_small : goal.returns-then-is_too_small
returns-then-is_too_small c = tells_18 c.args.words.now c.requires c.in_ok-extent.was c.args.above c.args.target c.is_too_small.ensures c.if-is_too_small.true

pub returns : goal.returns
returns c = tells_fine c.args.words.now c.requires c.in_ok-extent.was c.args.above c.args.target c.is_too_small.ensures c.if-is_too_small.false
