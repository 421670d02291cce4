use Prim.Native.Nat.{◌-◌}
use Rattle.queries.proofs.Listing.{Listing}
use Rattle.queries.proofs.per_variable.list.Given as goal

abbrev pub invariant-loop-p : goal.invariant-loop-p
invariant-loop-p l = Listing l.words l.initial.output l.p l.output
