use Rattle.store.specs.Store.{node}
use Rattle.store.proofs.Joining.{three_low, three_high, three_var}
use Rattle.store.proofs.shelf.is_node.Goals as goal

pub returns-then-word-low : goal.returns-then-word-low
returns-then-word-low c =
    let a = c.args in
    three_low a.room.now a.at (node a.var.0 a.low.0 a.high.0) c.word.ensures c.if-word-low.true

pub returns-then-word-high : goal.returns-then-word-high
returns-then-word-high c =
    let a = c.args in
    three_high a.room.now a.at (node a.var.0 a.low.0 a.high.0) c.word-2.ensures c.if-word-high.true

pub returns : goal.returns
returns c =
    let a = c.args in
    three_var a.room.now a.at (node a.var.0 a.low.0 a.high.0) c.word.ensures c.if-word-low.false c.word-2.ensures c.if-word-high.false c.word-3.ensures
