use Rattle.diagram.proofs.Breaks.{broken_unmarked, broken_marked}
use Rattle.diagram_reach.proofs.is_broken.Goals as goal

pub returns-then-word-eq0 : goal.returns-then-word-eq0
returns-then-word-eq0 c =
    broken_unmarked c.args.words.now c.args.room.now c.args.node c.word.result c.requires.0 c.requires.2 c.word.ensures
    c.if-word-eq0.true

pub returns : goal.returns
returns c =
    broken_marked c.args.words.now c.args.room.now c.args.node c.word.result c.requires.0 c.requires.2 c.word.ensures
    c.is_above.result c.if-word-eq0.false c.is_above.ensures
