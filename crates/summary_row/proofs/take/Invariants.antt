use Rattle.std.proofs.Common.{◌≡◌, ◌≤◌, ◌*◌, length}
use Rattle.summary_row.proofs.Copied.{taken}
use Rattle.summary_row.proofs.take.Given as goal

abbrev pub invariant-loop-i : goal.invariant-loop-i
invariant-loop-i l =
    (l.count ≤ length l.row) × (2 * l.count ≤ length l.initial.words) × (l.words ≡ taken l.row l.initial.words l.i)
