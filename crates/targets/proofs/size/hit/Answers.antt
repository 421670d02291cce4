use Rattle.targets.proofs.Sizes.{met_hits, sought_under, sought_over}
use native.Mathlib.Omega.{arith}
use native.Mathlib.Omega.{arith}
use Rattle.targets.proofs.size.hit.Goals as goal

pub returns-then-nodes-target : goal.returns-then-nodes-target
returns-then-nodes-target c = met_hits c.args.above c.args.as_is c.requires c.if-nodes-target.true c.meet.ensures

pub over-requires : goal.over-requires
over-requires c = (c.requires, omega (arith, c.if-nodes-target.false))

pub returns-then-above : goal.returns-then-above
returns-then-above c = rw c.if-above.true (sought_over c.args.as_is c.requires (omega (arith, c.if-nodes-target.false)) c.over.ensures)

pub under-requires : goal.under-requires
under-requires c = (c.requires, omega (arith, c.if-nodes-target.false))

pub returns : goal.returns
returns c = rw c.if-above.false (sought_under c.args.as_is c.requires (omega (arith, c.if-nodes-target.false)) c.under.ensures)
