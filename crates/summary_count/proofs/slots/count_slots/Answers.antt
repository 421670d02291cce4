use mathlib.Core.Path.{refl}
use Rattle.summary_count.proofs.Turns.{work_begins}
use Rattle.summary_count.proofs.slots.count_slots.Goals as goal

pub count_each-requires : goal.count_each-requires
count_each-requires c = work_begins _ _ _ c.requires _ refl
