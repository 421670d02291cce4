use mathlib.Core.Path.{◌≡◌, refl, ◌∙◌}
use Prim.Native.Nat.{ℕ, ◌*◌, ◌≤◌}
use native.Mathlib.Omega.{arith}
use lib.ListN.{length, replicate, length-replicate}
use Rattle.summary.specs.Summary.{record_words}
use Rattle.houayletan.proofs.Outer.{array_words, few_rows, few_words, in_array, dropped_few, concludes_drop}
use Rattle.houayletan.proofs.pooling.houayletan_pool_drop_4.Goals as goal

pub give-requires : goal.give-requires
give-requires c =
    let n = c.records-count.result in
    let few = few_words (length c.args.row.now) n c.records-count.ensures in
    let long : length c.take.new.words ≡ array_words = c.take.auto.words ∙ length-replicate {A = ℕ} array_words 0 in
    let fits : record_words * n ≤ length c.take.new.words = in_array n n _ (omega arith) few long in
    let changed = dropped_few c.args.table.now c.args.slots.now c.take.new.words n c.args.slot c.drop_words-told.new.table c.drop_words-told.new.slots c.drop_words-told.new.summary c.drop_words-told.result fits c.drop_words-told.ensures in
    let rows = few_rows (length c.args.row.now) n c.records-count.ensures in
    (omega (arith, changed, rows), in_array c.drop_words-told.result.records n _ changed few (c.drop_words-told.auto.summary ∙ long))

pub returns : goal.returns
returns c = concludes_drop c.args.table.now c.args.slots.now c.args.row.now c.args.slot (replicate array_words 0) c.records-count.result c.take.new.words c.drop_words-told.result c.drop_words-told.new.table c.drop_words-told.new.slots c.drop_words-told.new.summary c.give.new.row refl c.records-count.ensures c.take.ensures c.take.auto.words c.drop_words-told.ensures c.drop_words-told.auto.table c.drop_words-told.auto.slots c.drop_words-told.auto.summary c.give.ensures c.give.auto.row
