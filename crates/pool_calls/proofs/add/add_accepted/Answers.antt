use mathlib.Core.Path.{refl, sym, ◌∙◌}
use Rattle.pool.proofs.Rows.{no_slot, slot_taken, other_vars}
use Rattle.pool_calls.proofs.Calling.{adds_refused}
use native.Mathlib.Omega.{arith}
use Rattle.pool_calls.proofs.add.add_accepted.Goals as goal

pub returns-then-slot-ge-SLOTS : goal.returns-then-slot-ge-SLOTS
returns-then-slot-ge-SLOTS c = adds_refused _ _ _ _ refl (no_slot _ _ _ _ c.if-slot-ge-SLOTS.true)

pub returns-then-word-ne0 : goal.returns-then-word-ne0
returns-then-word-ne0 c = adds_refused _ _ _ _ refl (slot_taken _ _ _ _ (let h = c.if-slot-ge-SLOTS.false in omega arith) (λ e. c.if-word-ne0.true (c.word.ensures ∙ e)))

pub returns-then-word : goal.returns-then-word
returns-then-word c = adds_refused _ _ _ _ refl (other_vars _ _ _ _ (let h = c.if-slot-ge-SLOTS.false in omega arith) (sym c.word.ensures ∙ c.if-word-ne0.false) (λ e. c.if-word.true (c.word-2.ensures ∙ e ∙ sym c.word-3.ensures)))
