use Prim.Native.Nat.{ℕ}
use Rattle.std.specs.Option.{option_copied}
use mathlib.Core.Path.{sym}
use lib.ListN.{length-replicate}
use Rattle.differ_texts.specs.Texts.{lines_buffer, text_buffer}
use Rattle.differ.proofs.Running.{answered}
use Rattle.differ.proofs.run.Goals as goal

pub slice_bounds-answer-end : goal.slice_bounds-answer-end
slice_bounds-answer-end c = sym (length-replicate {A = ℕ} lines_buffer 0)

pub slice_bounds-answer-end-2 : goal.slice_bounds-answer-end-2
slice_bounds-answer-end-2 c = sym (length-replicate {A = ℕ} text_buffer 0)

pub returns : goal.returns
returns c = answered c.args.count c.args.first.now c.args.second.now c.args.third.now (option_copied c.args.old) (option_copied c.args.new) c.requires c.answer-ends.ensures (length-replicate {A = ℕ} lines_buffer 0) (length-replicate {A = ℕ} text_buffer 0)
