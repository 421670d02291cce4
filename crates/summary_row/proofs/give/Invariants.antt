use Rattle.std.proofs.Common.{◌≡◌, ◌≤◌, ◌*◌, length}
use Rattle.summary_row.proofs.Copied.{given}
use Rattle.summary_row.proofs.give.Given as goal

abbrev pub invariant-loop-i : goal.invariant-loop-i
invariant-loop-i l =
    (l.count ≤ length l.initial.row) × (2 * l.count ≤ length l.words) × (l.row ≡ given l.words l.initial.row l.i)
