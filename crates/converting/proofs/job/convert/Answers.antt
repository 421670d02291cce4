use Prim.Native.Nat.{ℕ, ◌*◌}
use lib.ListN.{length, length-replicate}
use lib.Seq.{length-take-le}
use mathlib.Core.Path.{◌≡◌, refl, sym}
use Rattle.diagram.specs.Limits.{max_words}
use Rattle.converting.proofs.Answering.{found_few, file_done_lem, file_refused}
use native.Mathlib.Omega.{arith}
use Rattle.converting.proofs.job.convert.Goals as goal

pub slice_bounds-read_diagram-end : goal.slice_bounds-read_diagram-end
slice_bounds-read_diagram-end c = sym (length-replicate {A = ℕ} max_words 0)

pub read_diagram-requires : goal.read_diagram-requires
read_diagram-requires c = length-replicate {A = ℕ} max_words 0

pub overflow_mul-words : goal.overflow_mul-words
overflow_mul-words c = omega (arith, found_few c.args.from c.args.bytes.now _ _ c.read_diagram.ensures c.in-Ok.is)

pub slice_bounds-words-end : goal.slice_bounds-words-end
slice_bounds-words-end c = omega (arith, found_few c.args.from c.args.bytes.now _ _ c.read_diagram.ensures c.in-Ok.is, c.read_diagram.auto.words)

pub slice_bounds-hand_out-end : goal.slice_bounds-hand_out-end
slice_bounds-hand_out-end c = let h : length c.read_diagram.new.words ≡ max_words = c.read_diagram.auto.words in sym (length-take-le (3 * c.in-Ok.nodes) c.read_diagram.new.words (omega (arith, found_few c.args.from c.args.bytes.now _ _ c.read_diagram.ensures c.in-Ok.is)))

pub returns-in-Ok : goal.returns-in-Ok
returns-in-Ok c = file_done_lem c.args.from c.args.bytes.now _ _ c.read_diagram.ensures refl c.other_form-to.ensures c.in-Ok.is c.hand_out.ensures

pub returns-in-Err : goal.returns-in-Err
returns-in-Err c = file_refused c.args.from c.args.bytes.now _ _ c.read_diagram.ensures refl c.in-Err.is c.refuse.ensures
