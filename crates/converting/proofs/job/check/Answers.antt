use Prim.Native.Nat.{ℕ}
use mathlib.Core.Path.{sym, ap, ◌∙◌}
use lib.ListN.{length-replicate}
use Rattle.diagram.specs.Verdict.{verdict_of}
use Rattle.diagram.specs.declared.verdict.Output.TheVariants.{Nothing}
use Rattle.report.specs.Report.{room_lent}
use Rattle.converting.proofs.job.check.Goals as goal

-- By a lemma: to count the words of the room one by one would take a gigabyte.
pub slice_bounds-validate-end : goal.slice_bounds-validate-end
slice_bounds-validate-end c = sym (length-replicate {A = ℕ} room_lent 0)

pub returns : goal.returns
returns c = c.validate.ensures.verdict ∙ ap (verdict_of c.args.words.now Nothing) (length-replicate {A = ℕ} room_lent 0)
