use Prim.Native.Nat.{ℕ}
use mathlib.Core.Path.{sym}
use lib.ListN.{length-replicate}
use Rattle.converting.specs.Converting.{conversion_of, file_buffer}
use Rattle.converting.proofs.Fitting.{ends_whole}
use native.Mathlib.Omega.{arith}
use Rattle.convert.proofs.run.Goals as goal

pub slice_bounds-answer-end : goal.slice_bounds-answer-end
slice_bounds-answer-end c = sym (length-replicate {A = ℕ} file_buffer 0)

pub returns : goal.returns
returns c = let e = ends_whole (conversion_of c.args.count c.args.first.now c.args.second.now c.args.third.now) c.args.bytes.now (length-replicate {A = ℕ} file_buffer 0) (omega arith) c.answer-ends.ensures in record { output = e.0; said = e.1 }
