use mathlib.Core.Path.{sym, ap, ◌∙◌}
use Rattle.diagram.specs.Diagram.{size}
use Rattle.diagram.specs.Verdict.{accepted}
use Rattle.pool.proofs.Rows.{live_no_slot, live_empty, live_there}
use native.Mathlib.Omega.{arith}
use Rattle.pool_calls.proofs.slot.live_known.Goals as goal

pub returns-then-slot-ge-SLOTS : goal.returns-then-slot-ge-SLOTS
returns-then-slot-ge-SLOTS c = sym (live_no_slot _ _ _ _ c.requires c.if-slot-ge-SLOTS.true)

pub returns-then-word-eq0 : goal.returns-then-word-eq0
returns-then-word-eq0 c = sym (live_empty _ _ _ _ c.requires (let h = c.if-slot-ge-SLOTS.false in omega arith) (sym c.word.ensures ∙ c.if-word-eq0.true))

pub returns : goal.returns
returns c = ap (accepted (size c.args.table.now)) c.word-2.ensures ∙ sym (live_there _ _ _ _ c.requires (let h = c.if-slot-ge-SLOTS.false in omega arith) (λ e. c.if-word-eq0.false (c.word.ensures ∙ e)))
