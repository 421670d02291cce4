use mathlib.Core.Path.{sym, ◌∙◌}
use Rattle.summary_calls.proofs.Keeping.{no_pool_there, too_short, long_enough}
use native.Mathlib.Omega.{arith}
use Rattle.summary_calls.proofs.keep.roomy.Goals as goal

pub returns-then-not-is_pool : goal.returns-then-not-is_pool
returns-then-not-is_pool c = sym (no_pool_there c.args.table.now c.args.slots.now c.args.summary.now (sym c.is_pool.ensures ∙ c.if-not-is_pool.true))

pub returns-then-summary-vars : goal.returns-then-summary-vars
returns-then-summary-vars c = sym (too_short c.args.table.now c.args.slots.now c.args.summary.now (sym c.is_pool.ensures ∙ c.if-not-is_pool.false) c.word-vars.ensures c.if-summary-vars.true)

pub returns : goal.returns
returns c = sym (long_enough c.args.table.now c.args.slots.now c.args.summary.now (sym c.is_pool.ensures ∙ c.if-not-is_pool.false) c.word-vars.ensures (let h = c.if-summary-vars.false in omega arith))
