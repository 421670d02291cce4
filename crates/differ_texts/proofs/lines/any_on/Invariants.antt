use mathlib.Core.Path.{◌≡◌}
use lib.ListN.{drop}
use Rattle.differ_texts.specs.Texts.{any_on}
use Rattle.differ_texts.proofs.lines.any_on.Given as goal

abbrev pub invariant-loop-bit : goal.invariant-loop-bit
invariant-loop-bit l = any_on (drop l.bit-index l.row) ≡ any_on l.row
