use Rattle.pool_check.proofs.Returns.{measured_not_whole, measured_short, measured_long, measured_by}
use Rattle.pool_check.proofs.check.is_measured.Goals as goal

pub returns-then-table-ne0 : goal.returns-then-table-ne0
returns-then-table-ne0 c = measured_not_whole c.args.table c.args.slots c.if-table-ne0.true

pub returns-then-table-lt-TERMINAL_WORDS : goal.returns-then-table-lt-TERMINAL_WORDS
returns-then-table-lt-TERMINAL_WORDS c = measured_short c.args.table c.args.slots c.if-table-ne0.false c.if-table-lt-TERMINAL_WORDS.true

pub returns-then-table-gt-MAX_WORDS : goal.returns-then-table-gt-MAX_WORDS
returns-then-table-gt-MAX_WORDS c = measured_long c.args.table c.args.slots c.if-table-ne0.false c.if-table-lt-TERMINAL_WORDS.false c.if-table-gt-MAX_WORDS.true

pub returns : goal.returns
returns c = measured_by c.args.table c.args.slots c.if-table-ne0.false c.if-table-lt-TERMINAL_WORDS.false c.if-table-gt-MAX_WORDS.false
