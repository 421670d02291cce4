use Rattle.cardinality.proofs.Answers.{never_nan}
use Rattle.counts_run.proofs.run_float.Goals as goal

pub say_float-requires : goal.say_float-requires
say_float-requires c = never_nan c.in-Ok.ensures
