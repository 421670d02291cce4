use mathlib.Core.Path.{sym}
use lib.Seq.{length-take-le}
use Rattle.houayletan.proofs.Outer.{worded}
use Rattle.houayletan.proofs.pooling.drop_words.Goals as goal

pub slice_bounds-drop-end-2 : goal.slice_bounds-drop-end-2
slice_bounds-drop-end-2 c = sym (length-take-le _ c.args.summary.now c.requires)

pub returns : goal.returns
returns c = worded c.args.count c.args.summary.now _ c.requires c.drop.auto.summary c.drop.ensures c.tell.ensures
