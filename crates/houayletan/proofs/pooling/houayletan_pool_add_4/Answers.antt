use mathlib.Core.Path.{◌≡◌, refl, ◌∙◌}
use Prim.Native.Nat.{ℕ, ◌*◌, ◌≤◌}
use native.Mathlib.Omega.{arith}
use lib.ListN.{length, replicate, length-replicate}
use Rattle.summary.specs.Summary.{record_words}
use Rattle.houayletan.proofs.Outer.{array_words, few_rows, few_words, in_array, added_few, concludes}
use Rattle.houayletan.proofs.pooling.houayletan_pool_add_4.Goals as goal

pub give-requires : goal.give-requires
give-requires c =
    let n = c.records-count.result in
    let few = few_words (length c.args.row.now) n c.records-count.ensures in
    let long : length c.take.new.words ≡ array_words = c.take.auto.words ∙ length-replicate {A = ℕ} array_words 0 in
    let fits : record_words * n ≤ length c.take.new.words = in_array n n _ (omega arith) few long in
    let changed = added_few c.args.table.now c.args.slots.now c.take.new.words n c.args.words.now c.args.slot c.add_words-told.new.table c.add_words-told.new.slots c.add_words-told.new.summary c.args.room.now c.add_words-told.new.room c.add_words-told.result fits c.add_words-told.ensures in
    let rows = few_rows (length c.args.row.now) n c.records-count.ensures in
    (omega (arith, changed, rows), in_array c.add_words-told.result.records n _ changed few (c.add_words-told.auto.summary ∙ long))

pub returns : goal.returns
returns c = concludes c.args.table.now c.args.slots.now c.args.row.now c.args.words.now c.args.slot c.args.room.now (replicate array_words 0) c.records-count.result c.take.new.words c.add_words-told.result c.add_words-told.new.table c.add_words-told.new.slots c.add_words-told.new.summary c.add_words-told.new.room c.give.new.row refl c.records-count.ensures c.take.ensures c.take.auto.words c.add_words-told.ensures c.add_words-told.auto.table c.add_words-told.auto.slots c.add_words-told.auto.summary c.add_words-told.auto.room c.give.ensures c.give.auto.row
