use borrow.Author.Tests.{leb-true, leb-false}
use mathlib.Core.Path.{refl, sym, ◌∙◌}
use Rattle.targets.proofs.Hitting.{negation_returns}
use Rattle.count_targets.proofs.Cleared.{cleared_targets, cleared_hits}
use Rattle.count_targets.proofs.Counts.{over_searches, over_met, over_lacks, over_under, over_found, over_hits}
use Rattle.trials.proofs.Early.{searching_few}
use native.Mathlib.Omega.{arith}
use native.Mathlib.Omega.{arith}
use Rattle.count_targets.proofs.count.over.Goals as goal

pub count_of-count-requires : goal.count_of-count-requires
count_of-count-requires c = (over_searches c.args.as_is c.requires, refl)

pub overflow_mul-most : goal.overflow_mul-most
overflow_mul-most c = omega (arith, searching_few (over_searches c.args.as_is c.requires), c.most.ensures)

pub meet-requires : goal.meet-requires
meet-requires c = cleared_targets c.requires.targeting c.count_of-count.ensures c.most.ensures c.clear.ensures

pub returns-then-at_most : goal.returns-then-at_most
returns-then-at_most c = over_met c.args.as_is c.requires c.count_of-count.ensures (leb-true _ _ (sym c.at_most.ensures ∙ c.if-at_most.true)) (cleared_hits c.requires.targeting c.count_of-count.ensures c.most.ensures c.clear.ensures c.meet.ensures)

pub under_negation-found-requires : goal.under_negation-found-requires
under_negation-found-requires c = over_lacks c.args.as_is c.requires c.count_of-count.ensures (leb-false _ _ (sym c.at_most.ensures ∙ c.if-at_most.false))

pub give_back-made-requires : goal.give_back-made-requires
give_back-made-requires c = negation_returns c.requires.targeting c.most-2.ensures (over_found c.args.as_is c.requires c.count_of-count.ensures (leb-false _ _ (sym c.at_most.ensures ∙ c.if-at_most.false)) c.under_negation-found.ensures) (over_under c.args.as_is c.requires c.count_of-count.ensures (leb-false _ _ (sym c.at_most.ensures ∙ c.if-at_most.false)))

pub returns : goal.returns
returns c = over_hits c.args.as_is c.requires c.count_of-count.ensures (leb-false _ _ (sym c.at_most.ensures ∙ c.if-at_most.false)) c.under_negation-found.ensures c.most-2.ensures c.give_back-made.ensures
