use Rattle.diagram.proofs.Accepting.{passed_on}
use mathlib.Core.Path.{sym}
use lib.Seq.{length-take-le}
use Prim.Native.Nat.{◌*◌}
use Rattle.cardinality.proofs.Answers.{count_refused, count_nodes, count_fits, count_asks, count_accepted}
use native.Mathlib.Omega.{arith}
use Rattle.cardinality.proofs.cardinality.Goals as goal

pub returns-in_err-extent : goal.returns-in_err-extent
returns-in_err-extent c =
    rw (passed_on c.from_residual.result c.in_err-extent.field-0.0 c.from_residual.ensures.1) (count_refused c.admit.ensures c.in_err-extent.was)

pub overflow_mul-used : goal.overflow_mul-used
overflow_mul-used c = omega (arith, count_nodes c.admit.ensures c.in_ok-extent.was)

pub slice_bounds-total-end : goal.slice_bounds-total-end
slice_bounds-total-end c = count_fits c.admit.ensures c.in_ok-extent.was

pub slice_bounds-total-end-2 : goal.slice_bounds-total-end-2
slice_bounds-total-end-2 c = sym (length-take-le (3 * c.in_ok-extent.extent.nodes) c.admit.new.room (count_fits c.admit.ensures c.in_ok-extent.was))

pub total-value-requires : goal.total-value-requires
total-value-requires c = count_asks c.admit.ensures c.in_ok-extent.was

pub returns : goal.returns
returns c = count_accepted c.admit.ensures c.in_ok-extent.was c.total-value.ensures.0 c.total-value.ensures.1
