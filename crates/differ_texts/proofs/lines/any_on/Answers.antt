use mathlib.Core.Path.{refl, sym, ◌∙◌}
use Rattle.differ_texts.proofs.Rows.{on_here, on_next, on_none}
use Rattle.differ_texts.proofs.lines.any_on.Goals as goal

pub loop-bit-init : goal.loop-bit-init
loop-bit-init c = refl

pub returns-then-bit-eq-ON : goal.returns-then-bit-eq-ON
returns-then-bit-eq-ON c = sym (on_here c.args.row.now _ c.loop-bit-test.true c.if-bit-eq-ON.true) ∙ c.loop-bit.invariant

pub loop-bit-preserved : goal.loop-bit-preserved
loop-bit-preserved c = on_next c.args.row.now _ c.loop-bit-test.true c.if-bit-eq-ON.false ∙ c.loop-bit.invariant

pub returns : goal.returns
returns c = sym (on_none c.args.row.now _ c.loop-bit-test.false) ∙ c.loop-bit.invariant
