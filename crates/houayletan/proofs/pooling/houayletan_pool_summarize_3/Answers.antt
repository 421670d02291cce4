use mathlib.Core.Path.{◌≡◌, refl, ◌∙◌}
use Prim.Native.Nat.{ℕ, ◌*◌, ◌≤◌}
use native.Mathlib.Omega.{arith}
use lib.ListN.{length, replicate, length-replicate}
use Rattle.summary.specs.Summary.{record_words}
use Rattle.houayletan.proofs.Outer.{array_words, few_rows, few_words, in_array, summed_few, concludes_sum}
use Rattle.houayletan.proofs.pooling.houayletan_pool_summarize_3.Goals as goal

pub give-requires : goal.give-requires
give-requires c =
    let n = c.records-count.result in
    let few = few_words (length c.args.row.now) n c.records-count.ensures in
    let long : length {A = ℕ} (replicate array_words 0) ≡ array_words = length-replicate {A = ℕ} array_words 0 in
    let fits : record_words * n ≤ length {A = ℕ} (replicate array_words 0) = in_array n n _ (omega arith) few long in
    let changed = summed_few c.args.table.now c.args.slots.now (replicate array_words 0) n c.summarize_words-told.new.summary c.summarize_words-told.result fits c.summarize_words-told.ensures in
    let rows = few_rows (length c.args.row.now) n c.records-count.ensures in
    (omega (arith, changed, rows), in_array c.summarize_words-told.result.records n _ changed few (c.summarize_words-told.auto.summary ∙ long))

pub returns : goal.returns
returns c = concludes_sum c.args.table.now c.args.slots.now c.args.row.now (replicate array_words 0) c.records-count.result c.summarize_words-told.result c.summarize_words-told.new.summary c.give.new.row refl c.records-count.ensures c.summarize_words-told.ensures c.summarize_words-told.auto.summary c.give.ensures c.give.auto.row
