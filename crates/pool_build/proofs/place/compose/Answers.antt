use mathlib.Core.Path.{refl, ◌∙◌}
use Rattle.pool_build.proofs.Composing.{begin_standing, begin_names, front_full, diagram_next, middle_full, back_standing, back_names, back_ends}
use native.Mathlib.Omega.{arith}
use Rattle.pool_build.proofs.place.compose.Goals as goal

pub gather-before-requires : goal.gather-before-requires
gather-before-requires c = (begin_standing c.requires.0 c.word.ensures c.start.ensures c.start.auto.room, begin_names c.requires.0 c.word.ensures c.start.ensures c.start.auto.room c.args.slot (let h = c.requires.1 in omega arith))

pub returns-then-capacity-before : goal.returns-then-capacity-before
returns-then-capacity-before c = front_full c.requires.0 c.word.ensures c.start.ensures c.start.auto.room c.requires.1 c.requires.2 c.requires.3 c.gather-before.ensures c.if-capacity-before.true

pub build_diagram-with-requires : goal.build_diagram-with-requires
build_diagram-with-requires c = diagram_next c.requires.0 c.word.ensures c.start.ensures c.start.auto.room c.requires.1 c.requires.2 c.requires.3 c.gather-before.ensures c.if-capacity-before.false (c.gather-before.auto.work ∙ c.start.auto.room)

pub returns-then-capacity-with : goal.returns-then-capacity-with
returns-then-capacity-with c = middle_full c.requires.0 c.word.ensures c.start.ensures c.start.auto.room c.requires.1 c.requires.2 c.requires.3 c.gather-before.ensures c.if-capacity-before.false (c.gather-before.auto.work ∙ c.start.auto.room) c.build_diagram-with.ensures c.if-capacity-with.true

pub gather-requires : goal.gather-requires
gather-requires c = (back_standing c.requires.0 c.word.ensures c.start.ensures c.start.auto.room c.requires.1 c.requires.2 c.requires.3 c.gather-before.ensures c.if-capacity-before.false (c.gather-before.auto.work ∙ c.start.auto.room) c.build_diagram-with.ensures c.if-capacity-with.false, back_names c.requires.0 c.word.ensures c.start.ensures c.start.auto.room c.requires.1 c.requires.2 c.requires.3 c.gather-before.ensures c.if-capacity-before.false (c.gather-before.auto.work ∙ c.start.auto.room) c.build_diagram-with.ensures c.if-capacity-with.false refl)

pub returns : goal.returns
returns c = back_ends c.requires.0 c.word.ensures c.start.ensures c.start.auto.room c.requires.1 c.requires.2 c.requires.3 c.gather-before.ensures c.if-capacity-before.false (c.gather-before.auto.work ∙ c.start.auto.room) c.build_diagram-with.ensures c.if-capacity-with.false refl c.gather.ensures
