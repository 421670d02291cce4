use borrow.Author.Tests.{eqb-true, eqb-false}
use mathlib.Core.Path.{refl, sym, ap, ◌∙◌}
use Prim.Native.Nat.{ℕ, ◌-◌}
use Rattle.naturals.specs.Natural.{value}
use Rattle.told.proofs.Opening.{power_there, power_value}
use Rattle.count_targets.proofs.Counts.{lacking_few, lacking_variables, lacking_none, lacking_mirrors, lacking_found}
use Rattle.count_targets.proofs.count.under_negation.Goals as goal

pub unwrap-all-requires : goal.unwrap-all-requires
unwrap-all-requires c = rw ((power_there c.args.vars (lacking_variables c.requires) c.power_of_two.ensures).1) refl

pub constantly-requires : goal.constantly-requires
constantly-requires c = lacking_few c.requires

pub returns-then-is_zero : goal.returns-then-is_zero
returns-then-is_zero c = lacking_none c.requires (c.excess-left.ensures ∙ ap (λ (x : ℕ). x - value c.args.target.words) (power_value c.args.vars c.power_of_two.ensures c.unwrap-all.ensures)) (eqb-true _ _ (sym c.is_zero.ensures ∙ c.if-is_zero.true)) c.constantly.ensures

pub turn_and_seek-requires : goal.turn_and_seek-requires
turn_and_seek-requires c = lacking_mirrors c.requires (c.excess-left.ensures ∙ ap (λ (x : ℕ). x - value c.args.target.words) (power_value c.args.vars c.power_of_two.ensures c.unwrap-all.ensures)) (eqb-false _ _ (sym c.is_zero.ensures ∙ c.if-is_zero.false)) (c.excess-others.ensures ∙ ap (λ (x : ℕ). x - value c.args.count.words) (power_value c.args.vars c.power_of_two.ensures c.unwrap-all.ensures))

pub returns : goal.returns
returns c = lacking_found c.requires (c.excess-left.ensures ∙ ap (λ (x : ℕ). x - value c.args.target.words) (power_value c.args.vars c.power_of_two.ensures c.unwrap-all.ensures)) (eqb-false _ _ (sym c.is_zero.ensures ∙ c.if-is_zero.false)) (c.excess-others.ensures ∙ ap (λ (x : ℕ). x - value c.args.count.words) (power_value c.args.vars c.power_of_two.ensures c.unwrap-all.ensures)) c.turn_and_seek.ensures
