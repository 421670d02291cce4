use mathlib.Core.Path.{refl}
use Rattle.pairs.specs.Table.{bucket_of}
use Rattle.pairs.proofs.Entries.{bucket_fits}
use Rattle.pairs.proofs.table.bucket.Goals as goal

pub overflow_mul-result-2 : goal.overflow_mul-result-2
overflow_mul-result-2 c = record { fits = bucket_fits _ c.args.capacity c.requires }

pub returns : goal.returns
unfolding bucket_of
returns c = refl
