use Rattle.setting_blocks.proofs.Fields.{words_at_length}
use Rattle.setting_blocks.proofs.Words.{wrote_all}
use Rattle.setting_blocks.proofs.number.target_in.Goals as goal

pub returns : goal.returns
returns c = wrote_all (words_at_length _ _ _) c.get_words.ensures
