use Rattle.diagram.proofs.Accepting.{passed_on}
use Rattle.list_cuts.proofs.Answering.{check_refuses, list_refuses, list_given, list_answered}
use Rattle.list_cuts.proofs.approximate_by.Goals as goal

pub returns-in_err-extent : goal.returns-in_err-extent
returns-in_err-extent c =
    rw (passed_on c.from_residual.result c.in_err-extent.field-0.0 c.from_residual.ensures.1)
    (check_refuses c.args.list.now c.args.target.0 c.args.output.now c.admit.ensures c.in_err-extent.was)

pub returns-in_err-listing : goal.returns-in_err-listing
returns-in_err-listing c =
    rw (passed_on c.from_residual-in_err-listing.result c.in_err-listing.field-0.0 c.from_residual-in_err-listing.ensures.1)
    (list_refuses c.args.list.now c.args.target.0 c.args.output.now c.admit.ensures c.in_ok-extent.was c.listing.result c.listing.ensures c.in_err-listing.was)

pub approximate-value-requires : goal.approximate-value-requires
approximate-value-requires c =
    list_given c.args.list.now c.args.target.0 c.args.output.now c.admit.ensures c.in_ok-extent.was c.listing.result c.listing.ensures c.in_ok-listing.was c.requires

pub returns : goal.returns
returns c =
    list_answered c.args.list.now c.args.target.0 c.args.output.now c.admit.ensures c.in_ok-extent.was c.listing.result c.listing.ensures c.in_ok-listing.was c.approximate-value.ensures
