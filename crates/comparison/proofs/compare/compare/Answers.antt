use Rattle.diagram.proofs.Accepting.{passed_on}
use Rattle.comparison.proofs.Answers.{first_refused, second_refused, both_known, compare_done, mapped_ok, mapped_err}
use Rattle.comparison.specs.declared.compare.Which.TheVariants.{First, Second}
use Rattle.std.proofs.Common.{rules}
use mathlib.Core.Path.{◌≡◌, ◌∙◌}
use Rattle.comparison.proofs.compare.compare.Goals as goal

pub returns-in_err-of_first : goal.returns-in_err-of_first
returns-in_err-of_first c =
    let m = mapped_err _ c.exact_cardinality.result c.map_err.ensures.cases c.in_err-of_first.was in
    let made : c.in_err-of_first.field-0.0 ≡ record { refused = m.0; which = First } = search rules in
    rw (passed_on c.from_residual.result c.in_err-of_first.field-0.0 c.from_residual.ensures.1)
    (first_refused _ _ _ _ c.exact_cardinality.result c.exact_cardinality.ensures (m.1) made)

pub returns-in_err-of_second : goal.returns-in_err-of_second
returns-in_err-of_second c =
    let first = mapped_ok _ c.exact_cardinality.result c.map_err.ensures.cases c.in_ok-of_first.was in
    let m = mapped_err _ c.exact_cardinality-2.result c.map_err-2.ensures.cases c.in_err-of_second.was in
    let made : c.in_err-of_second.field-0.0 ≡ record { refused = m.0; which = Second } = search rules in
    rw (passed_on c.from_residual-in_err-of_second.result c.in_err-of_second.field-0.0 c.from_residual-in_err-of_second.ensures.1)
    (second_refused _ _ _ _ c.exact_cardinality.result c.exact_cardinality.ensures first _ c.exact_cardinality-2.ensures c.exact_cardinality.auto.room (m.1) made)

pub beside-requires : goal.beside-requires
beside-requires c =
    both_known _ _ _ c.args.table.now _ c.exact_cardinality.ensures (mapped_ok _ c.exact_cardinality.result c.map_err.ensures.cases c.in_ok-of_first.was) _ c.exact_cardinality-2.ensures c.exact_cardinality.auto.room (mapped_ok _ c.exact_cardinality-2.result c.map_err-2.ensures.cases c.in_ok-of_second.was)

pub shape_of-room : goal.shape_of-room
shape_of-room c = c.exact_cardinality-2.auto.room ∙ c.exact_cardinality.auto.room

pub returns : goal.returns
returns c =
    compare_done _ _ _ _ _ c.exact_cardinality.ensures (mapped_ok _ c.exact_cardinality.result c.map_err.ensures.cases c.in_ok-of_first.was) _ c.exact_cardinality-2.ensures c.exact_cardinality.auto.room (mapped_ok _ c.exact_cardinality-2.result c.map_err-2.ensures.cases c.in_ok-of_second.was) c.beside.ensures
