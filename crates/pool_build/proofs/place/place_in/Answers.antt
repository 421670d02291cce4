use lib.Seq.{length-take-le}
use mathlib.Core.Path.{refl, sym, ◌∙◌}
use Rattle.pool_build.proofs.Replacing.{part_fits, put_begun, put_composed, replaced_not, replaced}
use Rattle.pool_build.proofs.place.place_in.Goals as goal

pub slice_bounds-compose-end : goal.slice_bounds-compose-end
slice_bounds-compose-end c = part_fits c.requires.0.pool c.walked-part.ensures

pub slice_bounds-compose-end-2 : goal.slice_bounds-compose-end-2
slice_bounds-compose-end-2 c = sym (length-take-le c.walked-part.result c.args.table.now (part_fits c.requires.0.pool c.walked-part.ensures))

pub compose-count-requires : goal.compose-count-requires
compose-count-requires c = put_begun c.requires.0 c.requires.1 c.walked-part.ensures refl c.copy.ensures c.copy.auto.output

pub returns-then-capacity-count : goal.returns-then-capacity-count
returns-then-capacity-count c = replaced_not c.requires.0.pool c.walked-part.ensures (put_composed c.requires.0 c.requires.1 c.walked-part.ensures refl c.copy.ensures c.copy.auto.output c.compose-count.ensures) c.if-capacity-count.true

pub returns : goal.returns
returns c = replaced c.requires.0.pool c.walked-part.ensures (put_composed c.requires.0 c.requires.1 c.walked-part.ensures refl c.copy.ensures c.copy.auto.output c.compose-count.ensures) c.if-capacity-count.false (c.compose-count.auto.work ∙ c.requires.1.long) c.hand_back.ensures
