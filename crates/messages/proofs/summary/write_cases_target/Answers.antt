use Rattle.messages.specs.Texts.{target_text}
use Rattle.messages.proofs.summary.write_cases_target.Goals as goal

pub returns-then-keep : goal.returns-then-keep
unfolding target_text
returns-then-keep c = rw c.if-keep.true c.write_line.ensures

pub returns : goal.returns
unfolding target_text
returns c = rw c.if-keep.false c.write_line-2.ensures
