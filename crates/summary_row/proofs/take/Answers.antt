use Rattle.std.proofs.Common.{◌≡◌, ◌∙◌, arith}
use Rattle.summary_row.proofs.Copied.{taken_is}
use Rattle.summary_row.proofs.take.Goals as goal

pub returns : goal.returns
returns c =
    let e : c.loop-i.i ≡ c.args.count = omega arith in
    rw e at c.loop-i.invariant.2 ∙ taken_is c.args.row.now c.args.words.now c.args.count (omega arith) (omega arith)
