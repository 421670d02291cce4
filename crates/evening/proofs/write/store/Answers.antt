use Rattle.evening.proofs.Filing.{files_shown, files_stored}
use Rattle.evening.proofs.write.store.Goals as goal

pub returns-then-is_show : goal.returns-then-is_show
returns-then-is_show c = files_shown c.args.count c.args.first.now c.args.second.now c.args.third.now c.args.fourth.now c.args.bytes.now c.is_show.ensures c.if-is_show.true c.show.ensures

pub returns : goal.returns
returns c = files_stored c.args.count c.args.first.now c.args.second.now c.args.third.now c.args.fourth.now c.args.bytes.now c.is_show.ensures c.if-is_show.false c.store_words.ensures
