use mathlib.Core.Path.{sym}
use lib.Seq.{length-take-le}
use Rattle.houayletan.proofs.Outer.{worded}
use Rattle.houayletan.proofs.pooling.add_words.Goals as goal

pub slice_bounds-add-end-2 : goal.slice_bounds-add-end-2
slice_bounds-add-end-2 c = sym (length-take-le _ c.args.summary.now c.requires)

pub returns : goal.returns
returns c = worded c.args.count c.args.summary.now _ c.requires c.add.auto.summary c.add.ensures c.tell.ensures
