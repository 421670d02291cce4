use Rattle.naturals.specs.Natural.{value}
use Rattle.told.proofs.Opening.{under_19, under_two, under_other}
use Rattle.told.proofs.count.under_told.Goals as goal

pub is_between-requires : goal.is_between-requires
is_between-requires c = c.requires

pub returns-then-is_between : goal.returns-then-is_between
returns-then-is_between c = (λ w is-n is-v. under_19 w (value c.args.target.words) is-n is-v c.if-nodes-eq2.true c.is_between.ensures c.if-is_between.true)

pub returns-then-nodes-eq2 : goal.returns-then-nodes-eq2
returns-then-nodes-eq2 c = (λ w is-n is-v. under_two w (value c.args.target.words) is-n is-v c.is_between.ensures c.if-is_between.false)

pub returns : goal.returns
returns c = (λ w is-n is-v. under_other w (value c.args.target.words) is-n is-v c.if-nodes-eq2.false)
