use mathlib.Core.Path.{refl}
use Rattle.naturals.specs.Natural.{value}
use Rattle.told.proofs.Opening.{power_there, power_value, over_16, over_19, over_one, over_other}
use Rattle.told.proofs.count.over_told.Goals as goal

pub unwrap-all-requires : goal.unwrap-all-requires
unwrap-all-requires c = rw ((power_there c.args.vars c.requires c.power_of_two.ensures).1) refl

pub returns-then-not-at_most : goal.returns-then-not-at_most
returns-then-not-at_most c = (λ w is-n is-v. over_16 w (value c.args.target.words) is-n is-v (power_value c.args.vars c.power_of_two.ensures c.unwrap-all.ensures) c.at_most.ensures (c.if-not-at_most.true))

pub is_between-requires : goal.is_between-requires
is_between-requires c = c.requires

pub returns-then-is_between : goal.returns-then-is_between
returns-then-is_between c = (λ w is-n is-v. over_19 w (value c.args.target.words) is-n is-v (power_value c.args.vars c.power_of_two.ensures c.unwrap-all.ensures) c.at_most.ensures (c.if-not-at_most.false) c.if-nodes-eq1.true c.is_between.ensures c.if-is_between.true)

pub returns-then-nodes-eq1 : goal.returns-then-nodes-eq1
returns-then-nodes-eq1 c = (λ w is-n is-v. over_one w (value c.args.target.words) is-n is-v (power_value c.args.vars c.power_of_two.ensures c.unwrap-all.ensures) c.at_most.ensures (c.if-not-at_most.false) c.is_between.ensures c.if-is_between.false)

pub returns : goal.returns
returns c = (λ w is-n is-v. over_other w (value c.args.target.words) is-n is-v (power_value c.args.vars c.power_of_two.ensures c.unwrap-all.ensures) c.at_most.ensures (c.if-not-at_most.false) c.if-nodes-eq1.false)
