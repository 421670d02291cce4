use Rattle.std.proofs.Common.{◌≡◌, ◌∙◌, ap, arith}
use Rattle.summary_row.specs.Row.{words_of}
use Rattle.summary_row.proofs.Copied.{given_is}
use Rattle.summary_row.proofs.give.Goals as goal

pub returns : goal.returns
returns c =
    let e : c.loop-i.i ≡ c.args.count = omega arith in
    ap words_of (rw e at c.loop-i.invariant.2) ∙ given_is c.args.words.now c.args.row.now c.args.count (omega arith) (omega arith)
