use Prim.Native.Nat.{ℕ, ◌+◌}
use mathlib.Core.Path.{refl, ap, ◌∙◌}
use Rattle.reduction.proofs.Answering.{lent_some, make_empty, walk_start, answer_small, make_full, make_ends}
use native.Mathlib.Omega.{arith}
use Rattle.reduction.proofs.answer.make.Goals as goal

pub start-requires : goal.start-requires
start-requires c = make_empty c.requires c.most-base.ensures

pub overflow_sub-root : goal.overflow_sub-root
overflow_sub-root c = omega (arith, lent_some c.requires c.most-base.ensures)

pub overflow_cast-root : goal.overflow_cast-root
overflow_cast-root c = omega (arith, c.requires.is_size, c.requires.ordered.formed.few)

pub build-made-requires : goal.build-made-requires
build-made-requires c = walk_start c.requires c.most-base.ensures c.start.ensures c.start.auto.room refl

pub overflow_add-result : goal.overflow_add-result
overflow_add-result c = omega (arith, c.requires.few)

pub returns-then-limit-made : goal.returns-then-limit-made
returns-then-limit-made c =
    let same = c.build-made.auto.room ∙ c.start.auto.room in
    make_full c.requires c.most-base.ensures c.start.ensures c.start.auto.room refl c.build-made.ensures same c.if-limit-made.true

pub overflow_add-result-2 : goal.overflow_add-result-2
overflow_add-result-2 c =
    let same = c.build-made.auto.room ∙ c.start.auto.room in
    omega (arith, c.to_index.ensures, answer_small c.requires c.most-base.ensures c.start.ensures c.start.auto.room refl c.build-made.ensures same c.if-limit-made.false)

pub returns : goal.returns
returns c =
    let count = ap (λ (k : ℕ). k + 1) c.to_index.ensures in
    let same = c.build-made.auto.room ∙ c.start.auto.room in
    make_ends c.requires c.most-base.ensures c.start.ensures c.start.auto.room refl c.build-made.ensures same c.if-limit-made.false count
