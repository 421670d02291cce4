use lib.ListN.{replicate}
use Rattle.targets.proofs.Hitting.{flip, negation_ready, negation_few, flipped_few, flipped_searches, back_returns}
use lib.Seq.{length-take-le}
use mathlib.Core.Path.{sym}
use Rattle.approximation.proofs.Targets.{to_size_under}
use Rattle.targets.proofs.Sizes.{one_hits, flipped_above, over_hits}
use native.Mathlib.Omega.{arith}
use Rattle.diagram.specs.Limits.{max_words}
use native.Mathlib.Omega.{arith}
use Rattle.targets.proofs.size.over.Goals as goal

pub returns-then-target-lt2 : goal.returns-then-target-lt2
returns-then-target-lt2 c = one_hits c.requires.0 c.args.target (omega (arith, c.if-target-lt2.true)) c.under.ensures

pub negate-made-requires : goal.negate-made-requires
negate-made-requires c = (c.requires.0.is_size, negation_ready c.requires.0, omega (arith, negation_few c.requires.0))

pub overflow_mul-flipped : goal.overflow_mul-flipped
overflow_mul-flipped c = omega (arith, flipped_few c.requires.0 (flip c.requires.0 (replicate max_words 0) c.negate-made.ensures))

pub slice_bounds-flipped-end : goal.slice_bounds-flipped-end
slice_bounds-flipped-end c = omega (arith, flipped_few c.requires.0 (flip c.requires.0 (replicate max_words 0) c.negate-made.ensures))

pub slice_bounds-under_size-end : goal.slice_bounds-under_size-end
slice_bounds-under_size-end c = sym (length-take-le _ _ (omega (arith, flipped_few c.requires.0 (flip c.requires.0 (replicate max_words 0) c.negate-made.ensures))))

pub under_size-found-requires : goal.under_size-found-requires
under_size-found-requires c = (flipped_searches c.requires.0 (flip c.requires.0 (replicate max_words 0) c.negate-made.ensures), flipped_above c.requires.0 (flip c.requires.0 (replicate max_words 0) c.negate-made.ensures) c.args.target (omega (arith, c.if-target-lt2.false)) c.requires.1)

pub give_back-count-requires : goal.give_back-count-requires
give_back-count-requires c = back_returns c.requires.0 (flip c.requires.0 (replicate max_words 0) c.negate-made.ensures) c.most.ensures c.under_size-found.ensures (to_size_under _ _ (flipped_searches c.requires.0 (flip c.requires.0 (replicate max_words 0) c.negate-made.ensures)).accepted)

pub returns : goal.returns
returns c = over_hits c.requires.0 (flip c.requires.0 (replicate max_words 0) c.negate-made.ensures) c.most.ensures c.args.target (omega (arith, c.if-target-lt2.false)) c.under_size-found.ensures c.give_back-count.ensures
