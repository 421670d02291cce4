use Rattle.evening.proofs.Calls.{setting_is}
use Rattle.evening.proofs.words.setting_of.Goals as goal

pub returns : goal.returns
returns c = (setting_is c.args.target c.bit.ensures c.kind_of.ensures c.bit-2.ensures c.target_words-words.ensures.0, c.target_words-words.ensures.1)
