use mathlib.Core.Path.{sym}
use Rattle.differ_texts.proofs.Rows.{row_behind, zeros_long}
use Rattle.differ_texts.proofs.lines.write_answer.Goals as goal

pub slice_bounds-write_difference-end : goal.slice_bounds-write_difference-end
slice_bounds-write_difference-end c = zeros_long c.args.vars c.requires

pub returns : goal.returns
returns c = row_behind _ _ (sym (zeros_long c.args.vars c.requires)) c.write_counts-next.ensures c.write_difference.ensures
