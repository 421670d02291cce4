use mathlib.Core.Path.{refl, ◌∙◌, ap, ◌≡◌}
use lib.ListN.{length}
use Rattle.levels.proofs.Chaining.{link_begins, link_on}
use borrow.Author.Rules.{rules}
use native.Mathlib.Omega.{arith}
use Rattle.levels.proofs.link.Goals as goal

pub loop-p-init : goal.loop-p-init
loop-p-init c = (search rules, omega (arith, c.requires.0.two), link_begins c.args.words.now c.args.heads.now c.args.room.now c.args.nodes c.requires.0 c.requires.1, refl, refl)

pub loop-p-preserved : goal.loop-p-preserved
loop-p-preserved c = (search rules, search rules, link_on c.requires.0 c.loop-p.invariant.0 c.loop-p-test.true (c.loop-p.invariant.3 ∙ ap length c.requires.1) (omega (arith, c.requires.2, c.loop-p.invariant.4)) c.loop-p.invariant.2 c.var_of-variable.result.0 c.head_of-last.result.0 c.var_of-variable.ensures c.head_of-last.ensures c.put.ensures c.put-in-loop-p.ensures, c.put-in-loop-p.auto.room ∙ c.loop-p.invariant.3, c.put.auto.room ∙ c.loop-p.invariant.4)

pub shape_of-heads : goal.shape_of-heads
shape_of-heads c = c.loop-p.invariant.3

pub shape_of-room : goal.shape_of-room
shape_of-room c = c.loop-p.invariant.4

pub returns : goal.returns
returns c =
    let e : c.loop-p.p ≡ c.args.nodes = omega arith in
    rw e at c.loop-p.invariant.2
