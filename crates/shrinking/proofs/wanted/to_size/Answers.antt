use Rattle.shrinking.specs.Shrinking.{wanted, wanted_verdict}
use Rattle.shrinking.proofs.wanted.to_size.Goals as goal

pub returns-then-keep : goal.returns-then-keep
unfolding wanted wanted_verdict
returns-then-keep c = rw c.if-keep.true c.overapproximate_to_size.ensures

pub returns : goal.returns
unfolding wanted wanted_verdict
returns c = rw c.if-keep.false c.underapproximate_to_size.ensures
