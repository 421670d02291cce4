use mathlib.Core.Path.{◌≡◌}
use lib.ListN.{length}
use Rattle.pool_build.proofs.Gathering.{Looping}
use Rattle.pool_build.proofs.gather.gather.Given as goal

abbrev pub invariant-loop-k : goal.invariant-loop-k
invariant-loop-k l = Looping l.table l.capacity l.from l.to l.initial.names l.initial.work l.count l.k l.made l.names l.work × (length l.names ≡ length l.initial.names) × (length l.work ≡ length l.initial.work)
