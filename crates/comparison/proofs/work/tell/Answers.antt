use Rattle.comparison.proofs.Answers.{rooted}
use Rattle.comparison.proofs.work.tell.Goals as goal

pub root_count-requires : goal.root_count-requires
root_count-requires c = rooted c.requires c.note_all.ensures

pub shown-requires : goal.shown-requires
shown-requires c = rooted c.requires c.note_all.ensures

pub returns : goal.returns
returns c = record { pairs = c.requires.is_count; both = c.root_count.ensures; smallest = c.shown.ensures }
