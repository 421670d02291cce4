-- What is promised of the summary, proved.
use Rattle.pool.specs.Answers.{add_of, drop_of}
use Rattle.summary.specs.Summaries.{Summaries}
use Rattle.summary.proofs.Counting.{fresh_length}
use Rattle.summary.proofs.Numbers.{nodes_number}
use Rattle.summary.proofs.Depending.{slots_number}
use Rattle.summary.proofs.Rows.{beside_on, is_46, is_37, is_47, add_small, drop_small, is_summarized}
use Rattle.summary.proofs.Renewing.{renewed_by_add, renewed_by_drop, renewed_by_summarize}

pub summaries : Summaries
summaries = record {
  nodes = λ t s f. nodes_number t;
  slots = slots_number;
  long = fresh_length;
  forty_six_add = λ t s kept w room k. is_46 t s kept (add_of t s w room k) (add_small t s w room k);
  forty_six_drop = λ t s kept k. is_46 t s kept (drop_of t s k) (drop_small t s k);
  thirty_seven_add = λ t s kept w room k. is_37 t s kept (add_of t s w room k) (add_small t s w room k);
  thirty_seven_drop = λ t s kept k. is_37 t s kept (drop_of t s k) (drop_small t s k);
  forty_seven_add = λ t s kept w room k. is_47 t s kept (add_of t s w room k) (add_small t s w room k);
  forty_seven_drop = λ t s kept k. is_47 t s kept (drop_of t s k) (drop_small t s k);
  as_without = beside_on;
  worked_out = is_summarized;
  kept_by_add = renewed_by_add;
  kept_by_drop = renewed_by_drop;
  kept_by_summarize = renewed_by_summarize;
}
