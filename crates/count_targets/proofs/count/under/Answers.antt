use borrow.Author.Tests.{leb-true, leb-false, eqb-true, eqb-false}
use mathlib.Core.Path.{refl, sym, ◌∙◌}
use Rattle.count_search.proofs.Aims.{counted_found, aiming_few, aiming_none, aiming_above}
use Rattle.targets.proofs.Hitting.{found_gives, found_hits}
use Rattle.count_targets.proofs.Cleared.{cleared_targets, cleared_hits}
use Rattle.count_targets.proofs.Counts.{under_aims, under_none, under_met, under_sought}
use native.Mathlib.Omega.{arith}
use native.Mathlib.Omega.{arith}
use Rattle.count_targets.proofs.count.under.Goals as goal

pub constantly-none-requires : goal.constantly-none-requires
constantly-none-requires c = aiming_few (under_aims c.requires)

pub give-requires : goal.give-requires
give-requires c = found_gives c.requires.targeting c.most.ensures (aiming_none (under_aims c.requires) (eqb-true _ _ (sym c.is_zero.ensures ∙ c.if-is_zero.true)) c.constantly-none.ensures)

pub returns-then-is_zero : goal.returns-then-is_zero
returns-then-is_zero c = under_none c.args.as_is c.requires (eqb-true _ _ (sym c.is_zero.ensures ∙ c.if-is_zero.true)) (found_hits c.requires.targeting c.most.ensures (aiming_none (under_aims c.requires) (eqb-true _ _ (sym c.is_zero.ensures ∙ c.if-is_zero.true)) c.constantly-none.ensures) c.give.ensures)

pub count_of-count-requires : goal.count_of-count-requires
count_of-count-requires c = ((under_aims c.requires).searching, refl)

pub overflow_mul-most : goal.overflow_mul-most
overflow_mul-most c = omega (arith, aiming_few (under_aims c.requires), c.most-then-at_most.ensures)

pub meet-requires : goal.meet-requires
meet-requires c = cleared_targets c.requires.targeting c.count_of-count.ensures c.most-then-at_most.ensures c.clear.ensures

pub returns-then-at_most : goal.returns-then-at_most
returns-then-at_most c = under_met c.args.as_is c.requires c.count_of-count.ensures (eqb-false _ _ (sym c.is_zero.ensures ∙ c.if-is_zero.false)) (leb-true _ _ (sym c.at_most.ensures ∙ c.if-at_most.true)) (cleared_hits c.requires.targeting c.count_of-count.ensures c.most-then-at_most.ensures c.clear.ensures c.meet.ensures)

pub seek-found-requires : goal.seek-found-requires
seek-found-requires c = aiming_above (under_aims c.requires) c.count_of-count.ensures (eqb-false _ _ (sym c.is_zero.ensures ∙ c.if-is_zero.false)) (leb-false _ _ (sym c.at_most.ensures ∙ c.if-at_most.false))

pub give-requires-2 : goal.give-requires-2
give-requires-2 c = found_gives c.requires.targeting c.most-2.ensures (counted_found (under_aims c.requires).searching c.count_of-count.ensures c.seek-found.ensures)

pub returns : goal.returns
returns c = under_sought c.args.as_is c.requires c.count_of-count.ensures (eqb-false _ _ (sym c.is_zero.ensures ∙ c.if-is_zero.false)) (leb-false _ _ (sym c.at_most.ensures ∙ c.if-at_most.false)) (found_hits c.requires.targeting c.most-2.ensures (counted_found (under_aims c.requires).searching c.count_of-count.ensures c.seek-found.ensures) c.give-2.ensures)
