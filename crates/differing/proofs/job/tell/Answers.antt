use Rattle.differing.proofs.Answering.{told_few, told_lines, told_refusal}
use Rattle.differing.proofs.job.tell.Goals as goal

pub show-requires : goal.show-requires
show-requires c = told_few c.args.first.now c.args.second.now c.compare_words.ensures c.in-Ok.is

pub returns-in-Ok : goal.returns-in-Ok
returns-in-Ok c = told_lines c.args.first.now c.args.second.now c.compare_words.ensures c.in-Ok.is c.args.old.now c.args.new.now c.args.text.now c.show.ensures

pub returns-in-Err : goal.returns-in-Err
returns-in-Err c = told_refusal c.args.first.now c.args.second.now c.compare_words.ensures c.args.old.now c.args.new.now c.args.lines.now c.in-Err.is c.blame.ensures
