use Rattle.differ_texts.proofs.Rows.{row_none, row_some}
use Rattle.differ_texts.proofs.lines.write_row.Goals as goal

pub returns-then-row-eq0 : goal.returns-then-row-eq0
returns-then-row-eq0 c = row_none c.args.row.now c.args.out.now c.args.at c.if-row-eq0.true

pub returns : goal.returns
returns c = row_some c.args.row.now c.if-row-eq0.false c.put-next.ensures c.write.ensures
