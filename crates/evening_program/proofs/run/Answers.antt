use Prim.Native.Nat.{ℕ}
use Rattle.std.specs.Option.{option_copied}
use mathlib.Core.Path.{sym}
use lib.ListN.{length-replicate}
use Rattle.shrinking.specs.Shrinking.{file_buffer}
use Rattle.evening.proofs.Fitting.{ends_whole}
use native.Mathlib.Omega.{arith}
use Rattle.evening_program.proofs.run.Goals as goal

pub slice_bounds-answer_evening-end : goal.slice_bounds-answer_evening-end
slice_bounds-answer_evening-end c = sym (length-replicate {A = ℕ} file_buffer 0)

pub returns : goal.returns
returns c = let e = ends_whole c.args.count c.args.first.now c.args.second.now c.args.third.now c.args.fourth.now c.args.fifth.now (option_copied c.args.settings) c.args.bytes.now (length-replicate {A = ℕ} file_buffer 0) (omega arith) c.answer_evening-ends.ensures in record { output = e.0; said = e.1 }
