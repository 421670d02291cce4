use Rattle.evening.specs.Storing.{filed}
use Rattle.evening.proofs.Fitting.{filed_fits, filed_ends}
use native.Mathlib.Omega.{arith}
use Rattle.settings.proofs.run.Goals as goal

pub returns : goal.returns
returns c = let e = filed_ends (filed c.args.count c.args.first.now c.args.second.now c.args.third.now c.args.fourth.now c.args.bytes.now) (filed_fits c.args.count c.args.first.now c.args.second.now c.args.third.now c.args.fourth.now c.args.bytes.now) (omega arith) (omega arith) c.store-ends.ensures in record { output = e.0; said = e.1 }
