use Prim.Native.Nat.{◌+◌, ◌*◌, ◌-◌}
use Rattle.writing.proofs.Laws.{Still}
use Rattle.setting_blocks.specs.Settings.{words_at}
use Rattle.setting_blocks.proofs.number.get_words.Given as goal

abbrev pub invariant-loop-i : goal.invariant-loop-i
invariant-loop-i l = Still (words_at l.bytes l.first l.count) l.initial.output 0 (words_at l.bytes (l.first + 4 * l.i) (l.count - l.i)) l.output l.place
