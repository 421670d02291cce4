use lib.Seq.{length-take-le}
use mathlib.Core.Path.{refl, sym}
use Rattle.cuts.proofs.Cutting.{cutting_few, cutting_some, cut_rooted, sent_fits, sent_building, cut_built}
use native.Mathlib.Omega.{arith}
use Rattle.cuts.proofs.cut.cut.Goals as goal

pub overflow_sub-nodes : goal.overflow_sub-nodes
overflow_sub-nodes c = omega (arith, cutting_some c.requires c.most-most.ensures)

pub overflow_cast-nodes : goal.overflow_cast-nodes
overflow_cast-nodes c = omega (arith, c.requires.is_size, c.requires.ordered.formed.few)

pub is_marked-requires : goal.is_marked-requires
is_marked-requires c = cutting_few c.requires c.most-most.ensures

pub overflow_mul-most : goal.overflow_mul-most
overflow_mul-most c = omega (arith, cutting_few c.requires c.most-most.ensures)

pub constant-requires : goal.constant-requires
constant-requires c = omega (arith, cutting_few c.requires c.most-most.ensures)

pub returns-then-is_marked : goal.returns-then-is_marked
returns-then-is_marked c = cut_rooted c.requires c.most-most.ensures refl c.is_marked.ensures c.if-is_marked.true c.constant.ensures

pub send-requires : goal.send-requires
send-requires c = record { formed = c.requires.ordered.formed; is_size = c.requires.is_size; few = cutting_few c.requires c.most-most.ensures; long = c.requires.copy }

pub overflow_mul-nodes : goal.overflow_mul-nodes
overflow_mul-nodes c = omega (arith, c.requires.is_size, c.requires.ordered.formed.few)

pub slice_bounds-build-end : goal.slice_bounds-build-end
slice_bounds-build-end c = sent_fits c.requires c.most-most.ensures refl c.is_marked.ensures c.if-is_marked.false c.send.ensures

pub slice_bounds-build-end-2 : goal.slice_bounds-build-end-2
slice_bounds-build-end-2 c = sym (length-take-le _ _ (sent_fits c.requires c.most-most.ensures refl c.is_marked.ensures c.if-is_marked.false c.send.ensures))

pub overflow_mul-most-2 : goal.overflow_mul-most-2
overflow_mul-most-2 c = omega (arith, cutting_few c.requires c.most-most.ensures)

pub overflow_mul-most-3 : goal.overflow_mul-most-3
overflow_mul-most-3 c = omega (arith, cutting_few c.requires c.most-most.ensures)

pub offset_bounds-room-most : goal.offset_bounds-room-most
offset_bounds-room-most c = omega (arith, cutting_few c.requires c.most-most.ensures)

pub slice_bounds-build-count : goal.slice_bounds-build-count
slice_bounds-build-count c = omega arith

pub build-requires : goal.build-requires
build-requires c = sent_building c.requires c.most-most.ensures refl c.is_marked.ensures c.if-is_marked.false c.send.ensures

pub returns : goal.returns
returns c = cut_built c.requires c.most-most.ensures refl c.is_marked.ensures c.if-is_marked.false c.send.ensures c.build.ensures
