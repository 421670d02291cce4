use Prim.Native.Nat.{◌^◌}
use borrow.Author.Tests.{lt-ltb}
use Rattle.setting_blocks.specs.Settings.{fits}
use Rattle.evening.proofs.Calls.{number_sized}
use native.Mathlib.Omega.{arith}
use Rattle.evening.proofs.words.words_of_nodes.Goals as goal

pub returns : goal.returns
unfolding fits
returns c = (number_sized c.from-number.ensures, lt-ltb c.args.size (2 ^ 32) (omega arith))
