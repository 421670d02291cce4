use mathlib.Core.Path.{◌∙◌}
use Prim.Native.Nat.{◌-◌}
use Rattle.queries.proofs.Listing.{listing_starts, listing_small, listing_on, listing_done}
use native.Mathlib.Omega.{arith}
use Rattle.queries.proofs.per_variable.list.Goals as goal

pub loop-p-init : goal.loop-p-init
loop-p-init c = listing_starts c.args.words.now c.args.output.now c.clear.new.room c.args.vars.0 c.requires.1 c.requires.3 c.clear.ensures

pub overflow_add-so_far : goal.overflow_add-so_far
overflow_add-so_far c = omega (arith, listing_small c.args.words.now c.args.output.now c.clear.new.room c.args.vars.0 c.requires.1 c.requires.3 c.clear.ensures c.requires.2 c.loop-p.p c.loop-p.output c.loop-p.invariant (omega (arith, c.requires.0, c.loop-p-test.true)) c.var_of-var.result.0 c.var_of-var.ensures c.word-so_far.result c.word-so_far.ensures)

pub loop-p-preserved : goal.loop-p-preserved
loop-p-preserved c = listing_on c.args.words.now c.args.output.now c.clear.new.room c.args.vars.0 c.requires.1 c.requires.3 c.clear.ensures c.requires.2 c.loop-p.p c.loop-p.output c.loop-p.invariant (omega (arith, c.requires.0, c.loop-p-test.true)) c.var_of-var.result.0 c.var_of-var.ensures c.word-so_far.result c.word-so_far.ensures _ c.put.ensures

pub returns : goal.returns
returns c = listing_done c.args.words.now c.args.output.now c.clear.new.room c.args.vars.0 c.requires.1 c.requires.3 c.clear.ensures c.requires.2 c.loop-p.p c.loop-p.output c.loop-p.invariant (omega (arith, c.requires.0, c.loop-p-test.false))
