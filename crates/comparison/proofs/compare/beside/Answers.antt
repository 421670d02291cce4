use Rattle.comparison.proofs.Answers.{whole_fits, beside_refused, beside_asks, beside_full, beside_shares, beside_done}
use Rattle.comparison.specs.Comparison.{whole_pairs}
use mathlib.Core.Path.{sym}
use lib.Seq.{length-take-le}
use Rattle.comparison.proofs.compare.beside.Goals as goal

pub returns-then-vars-others : goal.returns-then-vars-others
returns-then-vars-others c = beside_refused c.requires c.args.table.now c.if-vars-others.true c.of_both.ensures

pub slice_bounds-work_and_clear-end-2 : goal.slice_bounds-work_and_clear-end-2
slice_bounds-work_and_clear-end-2 c = sym (length-take-le (whole_pairs c.args.table.now) c.args.table.now (whole_fits c.args.table.now))

pub work_and_clear-told-requires : goal.work_and_clear-told-requires
work_and_clear-told-requires c = beside_asks c.requires c.args.table.now c.if-vars-others.false

pub returns-in_default : goal.returns-in_default
returns-in_default c =
    beside_full c.requires c.args.table.now c.if-vars-others.false c.work_and_clear-told.ensures c.in_default.is c.of_both-in_default.ensures

pub answered-requires : goal.answered-requires
answered-requires c = beside_shares c.requires c.args.table.now c.if-vars-others.false c.work_and_clear-told.ensures c.in-Some.is

pub returns : goal.returns
returns c = beside_done c.requires c.args.table.now c.if-vars-others.false c.work_and_clear-told.ensures c.in-Some.is c.answered.ensures
