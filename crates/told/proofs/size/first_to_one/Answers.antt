use Prim.Native.Nat.{◌-◌}
use mathlib.Core.Path.{◌≡◌, sym, ◌∙◌}
use Rattle.diagram.proofs.Count.{scan_start, scan_on, scan_hit, scan_end}
use Rattle.told.specs.Told.{to_one}
use native.Mathlib.Omega.{arith}
use Rattle.told.proofs.size.first_to_one.Goals as goal

pub returns-then-leads_to_one : goal.returns-then-leads_to_one
returns-then-leads_to_one c = scan_hit (to_one c.args.words.now) 2 (c.args.nodes - 2) c.loop-p.p c.loop-p.invariant.0 (omega arith) (sym c.leads_to_one.ensures ∙ c.if-leads_to_one.true)

pub returns : goal.returns
returns c =
    let all : c.most.result ≡ c.loop-p.p = omega (arith, c.most.ensures, c.loop-p.invariant.0.from) in
    all ∙ scan_end (to_one c.args.words.now) 2 (c.args.nodes - 2) c.loop-p.p c.loop-p.invariant.0 (omega (arith, c.loop-p.invariant.0.from))
