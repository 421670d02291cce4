use mathlib.Core.Path.{refl}
use Rattle.naturals.specs.Natural.{value}
use Rattle.told.proofs.Opening.{between_none, between_some, power_there, power_value}
use Rattle.told.proofs.count.is_between.Goals as goal

pub unwrap-all-requires : goal.unwrap-all-requires
unwrap-all-requires c = rw ((power_there c.args.vars c.requires c.power_of_two.ensures).1) refl

pub returns-then-is_zero : goal.returns-then-is_zero
returns-then-is_zero c = between_none (value c.args.target.words) c.args.vars c.is_zero.ensures c.if-is_zero.true

pub returns : goal.returns
returns c = between_some (value c.args.target.words) c.args.vars c.is_zero.ensures c.if-is_zero.false (power_value c.args.vars c.power_of_two.ensures c.unwrap-all.ensures) c.at_most.ensures
