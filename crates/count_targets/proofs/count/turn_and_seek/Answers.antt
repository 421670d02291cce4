use lib.ListN.{replicate}
use lib.Seq.{length-take-le}
use mathlib.Core.Path.{sym}
use Rattle.diagram.specs.Limits.{max_words}
use Rattle.targets.proofs.Hitting.{flips, flips_few, negation_fits}
use Rattle.count_targets.proofs.Counts.{mirror_ready, mirror_turns, mirror_above, mirror_found}
use native.Mathlib.Omega.{arith}
use Rattle.count_targets.proofs.count.turn_and_seek.Goals as goal

pub negate-made-requires : goal.negate-made-requires
negate-made-requires c = (c.requires.searching.is_size, mirror_ready c.requires, omega (arith, negation_fits _ c.requires.searching.accepted))

pub turn-requires : goal.turn-requires
turn-requires c = mirror_turns c.requires

pub overflow_mul-flipped : goal.overflow_mul-flipped
overflow_mul-flipped c = omega (arith, flips_few _ c.requires.searching.accepted c.negate-made.ensures.0)

pub slice_bounds-flipped-end : goal.slice_bounds-flipped-end
slice_bounds-flipped-end c = omega (arith, flips_few _ c.requires.searching.accepted c.negate-made.ensures.0)

pub slice_bounds-seek-end : goal.slice_bounds-seek-end
slice_bounds-seek-end c = sym (length-take-le _ _ (omega (arith, flips_few _ c.requires.searching.accepted c.negate-made.ensures.0)))

pub seek-requires : goal.seek-requires
seek-requires c = mirror_above c.requires (flips _ c.requires.searching.accepted (replicate max_words 0) c.negate-made.ensures) c.turn.ensures

pub returns : goal.returns
returns c = mirror_found c.requires (flips _ c.requires.searching.accepted (replicate max_words 0) c.negate-made.ensures) c.turn.ensures c.seek.ensures
