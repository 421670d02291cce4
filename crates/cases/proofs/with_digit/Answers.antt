use Rattle.cases.proofs.Reading.{digit_added}
use Rattle.cases.proofs.with_digit.Goals as goal

pub returns : goal.returns
returns c = digit_added c.args.value c.args.byte
