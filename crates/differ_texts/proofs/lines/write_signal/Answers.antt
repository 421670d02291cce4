use Rattle.writing.proofs.Laws.{wrote_none}
use borrow.Author.Tests.{eq-eqb, ne_eqb}
use Rattle.differ_texts.specs.Texts.{signal}
use Rattle.differ_texts.proofs.lines.write_signal.Goals as goal

pub returns-then-bit-eq-ON : goal.returns-then-bit-eq-ON
unfolding signal
returns-then-bit-eq-ON c = rw (eq-eqb c.args.bit 49 c.if-bit-eq-ON.true) c.write_number.ensures

pub returns : goal.returns
unfolding signal
returns c = rw (ne_eqb c.args.bit 49 c.if-bit-eq-ON.false) (wrote_none _ _)
