use Prim.Native.Nat.{ℕ}
use mathlib.Core.Path.{sym}
use lib.ListN.{length-replicate}
use Rattle.shrinking.specs.Shrinking.{file_buffer}
use Rattle.request.specs.Request.{form_of, words_of}
use Rattle.shrinking.proofs.Fitting.{ends_whole}
use native.Mathlib.Omega.{arith}
use Rattle.shrink_program.proofs.run.Goals as goal

pub slice_bounds-answer-end : goal.slice_bounds-answer-end
slice_bounds-answer-end c = sym (length-replicate {A = ℕ} file_buffer 0)

pub returns : goal.returns
returns c = let e = ends_whole (form_of c.args.first.now) (words_of c.args.count c.args.first.now c.args.second.now c.args.third.now c.args.fourth.now c.args.fifth.now) c.args.bytes.now (length-replicate {A = ℕ} file_buffer 0) (omega arith) c.answer-ends.ensures in record { output = e.0; said = e.1 }
