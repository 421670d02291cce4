use Rattle.naturals.specs.Natural.{value}
use lib.ListN.{length}
use mathlib.Core.Path.{◌≡◌}
use Prim.Native.Nat.{◌-◌}
use Rattle.count_search.proofs.Walks.{Walk, Round}
use Rattle.count_search.proofs.rounds.search.Given as goal

abbrev pub invariant-loop-taken-2 : goal.invariant-loop-taken-2
invariant-loop-taken-2 l = Walk l.words l.heads l.initial.sent l.initial.room l.sent l.room l.initial.taken (value l.initial.rest.words) l.taken (value l.rest.words) × (length l.sent ≡ length l.initial.sent)

abbrev pub decreases-loop-taken-2 : goal.decreases-loop-taken-2
decreases-loop-taken-2 l = l.nodes - 2 - l.taken

abbrev pub invariant-loop-taken : goal.invariant-loop-taken
invariant-loop-taken l = Round l.words l.heads l.initial.room l.sent l.room (value l.target.words) l.taken (value l.rest.words) l.trials × (length l.sent ≡ length l.initial.sent)

abbrev pub decreases-loop-taken : goal.decreases-loop-taken
decreases-loop-taken l = l.nodes - 2 - l.taken
