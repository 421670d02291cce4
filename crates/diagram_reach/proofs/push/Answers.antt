use Rattle.diagram.proofs.Marking.{push_hit, push_miss}
use Rattle.diagram_reach.proofs.push.Goals as goal

pub returns-then-word-eq0 : goal.returns-then-word-eq0
returns-then-word-eq0 c =
    push_hit c.before.args.nodes c.before.args.room.now c.before.args.top c.before.args.node.0 c.word.result
    c.put.new.room c.put-then-word-eq0.new.room c.word.ensures c.if-word-eq0.true c.put.ensures c.put-then-word-eq0.ensures

pub returns-else-word-eq0 : goal.returns-else-word-eq0
returns-else-word-eq0 c =
    push_miss c.before.args.nodes c.before.args.room.now c.before.args.top c.before.args.node.0 c.word.result
    c.word.ensures c.if-word-eq0.false
