use Rattle.negation.proofs.Words.{end_var, end_link, later_var, later_link}
use Rattle.negation.proofs.word_of.Goals as goal

pub returns-then-at-eq0 : goal.returns-then-at-eq0
returns-then-at-eq0 c = end_var c.requires.0 c.args.at c.requires.1 c.if-at-lt6.true c.if-at-eq0.true

pub returns-then-at-lt6 : goal.returns-then-at-lt6
returns-then-at-lt6 c = end_link c.requires.0 c.args.at c.requires.1 c.if-at-lt6.true c.if-at-eq0.false

pub returns-then-part-eq0 : goal.returns-then-part-eq0
returns-then-part-eq0 c =
    later_var c.requires.0 c.args.at c.requires.1 c.if-at-lt6.false c.word-same.result c.word-same.ensures c.if-part-eq0.true

pub returns : goal.returns
returns c =
    later_link c.requires.0 c.args.at c.requires.1 c.if-at-lt6.false c.word-same.result c.word-same.ensures c.if-part-eq0.false c.exchanged-link.result.0 c.exchanged-link.ensures
