use lib.Seq.{length-take-le}
use mathlib.Core.Path.{refl, sym, ◌∙◌}
use Rattle.pool_build.proofs.Replacing.{part_fits, left_begun, left_composed, left_fits, handing, replaced}
use Rattle.pool_build.proofs.remove.remove_in.Goals as goal

pub slice_bounds-compose_named-end : goal.slice_bounds-compose_named-end
slice_bounds-compose_named-end c = part_fits c.requires.0 c.walked-part.ensures

pub slice_bounds-compose_named-end-2 : goal.slice_bounds-compose_named-end-2
slice_bounds-compose_named-end-2 c = sym (length-take-le c.walked-part.result c.args.table.now (part_fits c.requires.0 c.walked-part.ensures))

pub compose_named-count-requires : goal.compose_named-count-requires
compose_named-count-requires c = left_begun c.requires.0 c.args.slot c.requires.1 c.walked-part.ensures refl c.copy.ensures c.copy.auto.output c.put.ensures

pub hand_back-requires : goal.hand_back-requires
hand_back-requires c =
    let made = left_composed c.requires.0 c.args.slot c.requires.1 c.walked-part.ensures refl c.copy.ensures c.copy.auto.output c.put.ensures c.compose_named-count.ensures in
    let fits = left_fits c.requires.0 c.args.slot c.requires.1 c.walked-part.ensures refl c.copy.ensures c.copy.auto.output c.put.ensures c.compose_named-count.ensures in
    handing c.requires.0 c.walked-part.ensures made fits (c.compose_named-count.auto.work ∙ c.requires.1.long) (c.compose_named-count.auto.names ∙ c.put.auto.room ∙ c.copy.auto.output ∙ c.requires.1.slots)

pub returns : goal.returns
returns c =
    let made = left_composed c.requires.0 c.args.slot c.requires.1 c.walked-part.ensures refl c.copy.ensures c.copy.auto.output c.put.ensures c.compose_named-count.ensures in
    let fits = left_fits c.requires.0 c.args.slot c.requires.1 c.walked-part.ensures refl c.copy.ensures c.copy.auto.output c.put.ensures c.compose_named-count.ensures in
    replaced c.requires.0 c.walked-part.ensures made fits (c.compose_named-count.auto.work ∙ c.requires.1.long) c.hand_back.ensures
