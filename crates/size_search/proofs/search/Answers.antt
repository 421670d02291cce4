use mathlib.Core.Path.{refl, ◌∙◌}
use Prim.Native.Nat.{◌-◌}
use Rattle.size_search.proofs.Stepping.{at_start, at_room, at_exact, at_fewer, at_more, at_last, kept_start, kept_on, halving_tries, halving_limited, halving_found}
use native.Mathlib.Omega.{arith}
use Rattle.size_search.proofs.search.Goals as goal

pub overflow_sub-stop : goal.overflow_sub-stop
overflow_sub-stop c = omega (arith, c.requires.more)

pub loop-start-init : goal.loop-start-init
loop-start-init c = (at_start c.args.words.now c.args.target (c.args.nodes - c.args.target), kept_start c.requires, refl)

pub overflow_add-check : goal.overflow_add-check
overflow_add-check c = omega (arith, c.loop-start.invariant.0.within, c.loop-start.invariant.0.most, c.requires.is_size, c.requires.ordered.formed.few, c.requires.more)

pub cut_first_within-made-requires : goal.cut_first_within-made-requires
cut_first_within-made-requires c = halving_limited c.requires c.loop-start.invariant.1 c.loop-start.invariant.2 (omega (arith, c.loop-start-test.true, c.loop-start.invariant.0.most))

pub overflow_add-result : goal.overflow_add-result
overflow_add-result c = omega (arith, at_room c.args.words.now c.args.target (c.args.nodes - c.args.target) c.loop-start.invariant.0 c.loop-start-test.true, c.requires.is_size, c.requires.ordered.formed.few)

pub shape_of-sent-then-made-target : goal.shape_of-sent-then-made-target
shape_of-sent-then-made-target c = c.cut_first_within-made.auto.sent ∙ c.loop-start.invariant.2

pub shape_of-room-then-made-target : goal.shape_of-room-then-made-target
shape_of-room-then-made-target c = c.cut_first_within-made.ensures.kept ∙ c.loop-start.invariant.1.kept

pub returns-then-made-target : goal.returns-then-made-target
returns-then-made-target c = halving_found c.requires c.loop-start.invariant.1 (c.cut_first_within-made.ensures.tried (omega (arith, c.if-made-target.true))) (at_exact c.args.words.now c.args.target (c.args.nodes - c.args.target) c.loop-start.invariant.0 c.loop-start-test.true (omega (arith, c.cut_first_within-made.ensures.count, c.if-made-target.true)))

pub overflow_add-trials : goal.overflow_add-trials
overflow_add-trials c = omega (arith, at_room c.args.words.now c.args.target (c.args.nodes - c.args.target) c.loop-start.invariant.0 c.loop-start-test.true, c.requires.is_size, c.requires.ordered.formed.few)

pub loop-start-smaller-then-made-target-2 : goal.loop-start-smaller-then-made-target-2
loop-start-smaller-then-made-target-2 c = omega (arith, c.loop-start-test.true)

pub loop-start-preserved-then-made-target-2 : goal.loop-start-preserved-then-made-target-2
loop-start-preserved-then-made-target-2 c = (at_fewer c.args.words.now c.args.target (c.args.nodes - c.args.target) c.loop-start.invariant.0 c.loop-start-test.true (omega (arith, c.cut_first_within-made.ensures.count, c.if-made-target-2.true)), kept_on c.requires c.loop-start.invariant.1 c.cut_first_within-made.ensures, c.cut_first_within-made.auto.sent ∙ c.loop-start.invariant.2)

pub overflow_add-start : goal.overflow_add-start
overflow_add-start c = omega (arith, c.loop-start-test.true, c.loop-start.invariant.0.most, c.requires.is_size, c.requires.ordered.formed.few)

pub overflow_add-trials-else-made-target-2 : goal.overflow_add-trials-else-made-target-2
overflow_add-trials-else-made-target-2 c = omega (arith, at_room c.args.words.now c.args.target (c.args.nodes - c.args.target) c.loop-start.invariant.0 c.loop-start-test.true, c.requires.is_size, c.requires.ordered.formed.few)

pub loop-start-smaller : goal.loop-start-smaller
loop-start-smaller c = omega (arith, c.loop-start-test.true)

pub loop-start-preserved : goal.loop-start-preserved
loop-start-preserved c = (at_more c.args.words.now c.args.target (c.args.nodes - c.args.target) c.loop-start.invariant.0 c.loop-start-test.true (omega (arith, c.cut_first_within-made.ensures.count, c.if-made-target-2.false, c.if-made-target.false)), kept_on c.requires c.loop-start.invariant.1 c.cut_first_within-made.ensures, c.cut_first_within-made.auto.sent ∙ c.loop-start.invariant.2)

pub cut_first-made-requires : goal.cut_first-made-requires
cut_first-made-requires c = halving_tries c.requires c.loop-start.invariant.1 c.loop-start.invariant.2 c.loop-start.invariant.0.most

pub overflow_add-result-2 : goal.overflow_add-result-2
overflow_add-result-2 c = omega (arith, c.loop-start.invariant.0.tried, c.requires.is_size, c.requires.ordered.formed.few)

pub shape_of-sent : goal.shape_of-sent
shape_of-sent c = c.cut_first-made.auto.sent ∙ c.loop-start.invariant.2

pub shape_of-room : goal.shape_of-room
shape_of-room c = c.cut_first-made.ensures.kept ∙ c.loop-start.invariant.1.kept

pub returns : goal.returns
returns c = halving_found c.requires c.loop-start.invariant.1 c.cut_first-made.ensures (at_last c.args.words.now c.args.target (c.args.nodes - c.args.target) c.loop-start.invariant.0 (omega (arith, c.loop-start-test.false)))
