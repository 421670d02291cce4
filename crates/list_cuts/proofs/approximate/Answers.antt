use Rattle.list_cuts.proofs.Answering.{listing_few, listing_markable, listing_cutting, listing_made, listing_inside, listing_fits, listing_ends}
use native.Mathlib.Omega.{arith}
use Rattle.list_cuts.proofs.approximate.Goals as goal

pub mark_all-requires : goal.mark_all-requires
mark_all-requires c = listing_markable c.requires c.most-most.ensures

pub cut-count-requires : goal.cut-count-requires
cut-count-requires c = listing_cutting c.requires c.most-most.ensures c.mark_all.ensures (omega arith)

pub overflow_mul-most : goal.overflow_mul-most
overflow_mul-most c = omega (arith, listing_few c.requires c.most-most.ensures)

pub overflow_mul-count : goal.overflow_mul-count
overflow_mul-count c = omega (arith, listing_made c.requires c.most-most.ensures c.mark_all.ensures c.cut-count.ensures)

pub copy-requires : goal.copy-requires
copy-requires c = (listing_inside c.requires c.most-most.ensures c.mark_all.ensures c.cut-count.ensures, listing_fits c.requires c.most-most.ensures c.mark_all.ensures c.cut-count.ensures)

pub overflow_mul-most-2 : goal.overflow_mul-most-2
overflow_mul-most-2 c = omega (arith, listing_few c.requires c.most-most.ensures)

pub returns : goal.returns
returns c = listing_ends c.requires c.most-most.ensures c.mark_all.ensures c.cut-count.ensures c.copy.auto.output c.copy.ensures c.clear.ensures
