use Rattle.trials.proofs.Firsts.{all_limited, tried}
use Rattle.trials.proofs.first.cut_first.Goals as goal

pub cut_first_within-requires : goal.cut_first_within-requires
cut_first_within-requires c = all_limited c.requires

pub returns : goal.returns
returns c = tried c.requires c.cut_first_within.ensures
