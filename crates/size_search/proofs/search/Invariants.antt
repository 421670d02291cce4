use lib.ListN.{length}
use mathlib.Core.Path.{◌≡◌}
use Prim.Native.Nat.{◌-◌}
use Rattle.size_search.proofs.Stepping.{Kept}
use Rattle.size_search.specs.Search.{At}
use Rattle.size_search.proofs.search.Given as goal

abbrev pub invariant-loop-start : goal.invariant-loop-start
invariant-loop-start l = At l.words l.target (l.nodes - l.target) l.start l.stop l.trials × Kept l.words l.initial.room l.room × (length l.sent ≡ length l.initial.sent)

abbrev pub decreases-loop-start : goal.decreases-loop-start
decreases-loop-start l = l.stop - l.start
