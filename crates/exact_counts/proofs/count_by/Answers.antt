use Rattle.diagram.proofs.Accepting.{passed_on}
use mathlib.Core.Path.{sym}
use lib.Seq.{length-take-le}
use Prim.Native.Nat.{◌*◌}
use Rattle.exact_counts.proofs.Answers.{count_refused, count_nodes, count_fits, count_asks, count_accepted}
use native.Mathlib.Omega.{arith}
use Rattle.counts.specs.Worth.{entry}
use Rattle.exact_counts.proofs.count_by.Goals as goal

pub returns-in_err-extent : goal.returns-in_err-extent
returns-in_err-extent c =
    rw (passed_on c.from_residual.result c.in_err-extent.field-0.0 c.from_residual.ensures.1) (count_refused c.admit.ensures c.in_err-extent.was _)

pub overflow_mul-used : goal.overflow_mul-used
overflow_mul-used c = omega (arith, (count_nodes c.admit.ensures c.in_ok-extent.was).1)

pub slice_bounds-count_all-end : goal.slice_bounds-count_all-end
slice_bounds-count_all-end c = count_fits c.admit.ensures c.in_ok-extent.was

pub slice_bounds-count_all-end-2 : goal.slice_bounds-count_all-end-2
slice_bounds-count_all-end-2 c =
    sym (length-take-le (entry * c.in_ok-extent.extent.nodes) c.admit.new.room (count_fits c.admit.ensures c.in_ok-extent.was))

pub count_all-value-requires : goal.count_all-value-requires
count_all-value-requires c = count_asks c.admit.ensures c.in_ok-extent.was

pub returns : goal.returns
returns c =
    count_accepted c.admit.ensures c.in_ok-extent.was _ c.count_all-value.ensures.0 c.count_all-value.ensures.1
