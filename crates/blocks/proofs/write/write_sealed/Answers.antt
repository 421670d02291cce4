use Rattle.blocks.proofs.Front.{wrote_sealed}
use Rattle.blocks.proofs.write.write_sealed.Goals as goal

pub returns : goal.returns
returns c = wrote_sealed c.sum.ensures c.weighted_sum.ensures c.write-place.ensures c.put_two-next.ensures c.put_two.ensures
