use Prim.Native.Nat.{◌-◌}
use mathlib.Core.Path.{◌≡◌, sym, ◌∙◌}
use Rattle.diagram.proofs.Count.{scan_hit, scan_end}
use Rattle.diagram.specs.Diagram.{size}
use Rattle.diagram.specs.Verdict.{is_broken}
use native.Mathlib.Omega.{arith}
use Rattle.diagram_reach.proofs.first_broken.Goals as goal

pub returns-then-is_broken : goal.returns-then-is_broken
returns-then-is_broken c =
    let w = c.args.words.now in
    scan_hit (is_broken w) 2 (size w - 2) c.loop-node.node c.loop-node.invariant.0 (omega (arith, c.requires.0, c.loop-node.invariant.0.from)) (sym c.is_broken.ensures ∙ c.if-is_broken.true)

pub returns : goal.returns
returns c =
    let w = c.args.words.now in
    let all : c.most.result ≡ c.loop-node.node = omega (arith, c.most.ensures, c.loop-node.invariant.0.from) in
    all ∙ scan_end (is_broken w) 2 (size w - 2) c.loop-node.node c.loop-node.invariant.0 (omega (arith, c.requires.0, c.loop-node.invariant.0.from))
