use Rattle.recounts.proofs.Counting.{recount_few, recount_passes, recount_root, recount_done}
use native.Mathlib.Omega.{arith}
use Rattle.recounts.proofs.recount.Goals as goal

pub renew_all-requires : goal.renew_all-requires
renew_all-requires c = recount_passes c.requires

pub overflow_mul-nodes : goal.overflow_mul-nodes
overflow_mul-nodes c = omega (arith, recount_few c.requires)

pub root_worth-requires : goal.root_worth-requires
root_worth-requires c = recount_root c.requires c.renew_all.ensures

pub returns : goal.returns
returns c = recount_done c.requires c.renew_all.ensures c.root_worth.ensures
