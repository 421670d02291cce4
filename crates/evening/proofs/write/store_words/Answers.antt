use mathlib.Core.Path.{sym}
use Rattle.evening.proofs.Filing.{says_help, says_unknown, says_which, stored_as}
use Rattle.evening.proofs.write.store_words.Goals as goal

pub returns-in-Help : goal.returns-in-Help
returns-in-Help c = says_help _ _ _ (sym c.in-Help.ensures) c.say_help.ensures

pub returns-in-Unknown : goal.returns-in-Unknown
returns-in-Unknown c = says_unknown _ _ _ (sym c.in-Unknown.ensures) c.say_unknown.ensures

pub returns-in-Which : goal.returns-in-Which
returns-in-Which c = says_which _ _ _ (sym c.in-Which.ensures) c.say_which.ensures

pub returns-in-Cut : goal.returns-in-Cut
returns-in-Cut c = stored_as (sym c.in-Cut.ensures) c.store_cut.ensures
