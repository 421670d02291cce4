use Rattle.request.proofs.Asking.{asks_behind, asks_plain}
use Rattle.request.proofs.form.ask_words.Goals as goal

pub returns-then-same : goal.returns-then-same
returns-then-same c = asks_behind c.args.first.now c.same.ensures c.args.count c.args.second.now c.args.third.now c.args.fourth.now c.args.fifth.now c.if-same.true c.saturating_sub.ensures c.ask.ensures

pub returns : goal.returns
returns c = asks_plain c.args.first.now c.same.ensures c.args.count c.args.second.now c.args.third.now c.args.fourth.now c.args.fifth.now c.if-same.false c.ask-2.ensures
