use Rattle.shrinking.specs.Shrinking.{summary}
use Rattle.writing.proofs.Laws.{wrote_then}
use Rattle.shrinking.proofs.summary.write_summary.Goals as goal

pub write_middle-counts-requires : goal.write_middle-counts-requires
write_middle-counts-requires c = c.requires

pub returns : goal.returns
unfolding summary
returns c = wrote_then (wrote_then (wrote_then c.write_target-aimed.ensures c.write_sizes-sizes.ensures) c.write_middle-counts.ensures) c.write_trials.ensures
