use mathlib.Core.Path.{sym}
use Rattle.differ_texts.specs.Texts.{difference_text}
use Rattle.differ_texts.proofs.lines.write_difference.Goals as goal

pub returns-in-Some : goal.returns-in-Some
unfolding difference_text
returns-in-Some c = rw (c.in-Some.is, sym c.put_bits.ensures) c.write_smallest.ensures

pub returns-in-None : goal.returns-in-None
unfolding difference_text
returns-in-None c = rw c.in-None.is c.write.ensures
