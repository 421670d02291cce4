use mathlib.Core.Path.{◌∙◌}
use Rattle.cases.proofs.Runs.{run_again, run_stopped, run_ended}
use native.Mathlib.Omega.{arith}
use Rattle.cases.proofs.run_of.Goals as goal

pub returns-then-room-i : goal.returns-then-room-i
returns-then-room-i c = run_stopped c.args.room.now c.args.word c.loop-i.invariant c.loop-i-test.true c.if-room-i.true

pub loop-i-preserved : goal.loop-i-preserved
loop-i-preserved c = run_again c.args.room.now c.args.word c.loop-i.invariant c.loop-i-test.true (omega (arith, c.if-room-i.false))

pub returns : goal.returns
returns c = c.saturating_sub.ensures ∙ run_ended c.args.room.now c.args.word c.loop-i.invariant c.loop-i-test.false c.loop-i.auto.i-end
