use Rattle.cuts.proofs.Steps.{terminal_stays, marked_goes, other_stays}
use Rattle.cuts.specs.Marks.{marked_in}
use Rattle.cuts.proofs.send.sent_link.Goals as goal

pub returns-then-is_terminal : goal.returns-then-is_terminal
returns-then-is_terminal c = terminal_stays (marked_in c.args.most c.args.room.now) c.args.target.0 c.args.node.0 c.args.link.0 c.is_terminal.result c.is_terminal.ensures c.if-is_terminal.true

pub returns-then-is_marked : goal.returns-then-is_marked
returns-then-is_marked c = marked_goes (marked_in c.args.most c.args.room.now) c.args.target.0 c.args.node.0 c.args.link.0 c.is_terminal.result c.is_marked.result c.is_terminal.ensures c.if-is_terminal.false c.is_marked.ensures c.if-is_marked.true

pub returns : goal.returns
returns c = other_stays (marked_in c.args.most c.args.room.now) c.args.target.0 c.args.node.0 c.args.link.0 c.is_terminal.result c.is_marked.result c.is_terminal.ensures c.if-is_terminal.false c.is_marked.ensures c.if-is_marked.false
