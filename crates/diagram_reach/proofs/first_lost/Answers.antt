use Prim.Native.Nat.{◌-◌}
use mathlib.Core.Path.{◌≡◌, sym, ◌∙◌}
use Rattle.diagram.proofs.Count.{scan_hit, scan_end}
use borrow.Author.Tests.{eq-eqb}
use lib.ListN.{get_or}
use lib.Dec.{eqb}
use native.Mathlib.Omega.{arith}
use Rattle.diagram_reach.proofs.first_lost.Goals as goal

pub returns-then-word-eq0 : goal.returns-then-word-eq0
returns-then-word-eq0 c =
    scan_hit (λ q. eqb (get_or c.args.room.now q 0) 0) 2 (c.args.nodes - 2) c.loop-p.p c.loop-p.invariant.0
    (omega (arith, c.loop-p.invariant.0.from)) (eq-eqb _ 0 (sym c.word.ensures ∙ c.if-word-eq0.true))

pub returns : goal.returns
returns c =
    let all : c.most.result ≡ c.loop-p.p = omega (arith, c.most.ensures, c.loop-p.invariant.0.from) in
    all ∙ scan_end (λ q. eqb (get_or c.args.room.now q 0) 0) 2 (c.args.nodes - 2) c.loop-p.p c.loop-p.invariant.0
    (omega (arith, c.loop-p.invariant.0.from))
