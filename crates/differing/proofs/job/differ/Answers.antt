use Rattle.std.specs.Option.{option_copied}
use Prim.Native.Nat.{ℕ, ◌*◌}
use mathlib.Core.Path.{◌≡◌, refl, sym}
use lib.ListN.{length, length-replicate}
use lib.Seq.{length-take-le}
use Rattle.diagram.specs.Limits.{max_words}
use Rattle.differing.proofs.Answering.{only_said, old_unloaded, old_loaded}
use native.Mathlib.Omega.{arith}
use Rattle.differing.proofs.job.differ.Goals as goal

pub slice_bounds-load-end : goal.slice_bounds-load-end
slice_bounds-load-end c = sym (length-replicate {A = ℕ} max_words 0)

pub load-requires : goal.load-requires
load-requires c = refl

pub overflow_mul-words : goal.overflow_mul-words
overflow_mul-words c = omega (arith, c.load.ensures.few _ c.in-Ok.is)

pub slice_bounds-words-end : goal.slice_bounds-words-end
slice_bounds-words-end c = omega (arith, c.load.ensures.few _ c.in-Ok.is, c.load.auto.words)

pub slice_bounds-differ_from-end : goal.slice_bounds-differ_from-end
slice_bounds-differ_from-end c = let h : length c.load.new.words ≡ max_words = c.load.auto.words in sym (length-take-le (3 * c.in-Ok.nodes) c.load.new.words (omega (arith, c.load.ensures.few _ c.in-Ok.is, h)))

pub returns-in-Err : goal.returns-in-Err
returns-in-Err c = old_unloaded c.args.form (option_copied c.args.old_file) _ c.load.ensures c.args.old.now c.args.new.now (option_copied c.args.new_file) c.in-Err.is (only_said c.say_unloaded.ensures)

pub returns-in-Ok : goal.returns-in-Ok
returns-in-Ok c = old_loaded c.args.form (option_copied c.args.old_file) _ c.load.ensures c.args.old.now c.args.new.now (option_copied c.args.new_file) c.in-Ok.is c.differ_from.ensures
