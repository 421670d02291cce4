use Prim.Native.Nat.{◌-◌, ◌/◌}
use mathlib.Core.Path.{◌≡◌, sym, ◌∙◌, ap}
use mathlib.Core.Bool.{not}
use borrow.Author.Tests.{eq-eqb, ne_eqb}
use lib.ListN.{length}
use Rattle.diagram.specs.Faults.{is_faulty}
use Rattle.diagram.proofs.Count.{scan_start, scan_on, scan_hit, scan_end}
use Rattle.diagram.proofs.Numbers.{some_number}
use native.Mathlib.Omega.{arith}
use Rattle.diagram_form.proofs.ranges.first_fault.Goals as goal

pub loop-p-init : goal.loop-p-init
loop-p-init c = (scan_start (is_faulty c.args.nodes c.args.vars c.args.stretch.now) 0, omega arith)

pub returns-in-Some : goal.returns-in-Some
returns-in-Some c =
    record {
      place = scan_hit (is_faulty c.args.nodes c.args.vars c.args.stretch.now) 0 (length c.args.stretch.now / 3) c.loop-p.p c.loop-p.invariant.0 (omega arith)
          (ap not (ne_eqb _ 0 (λ x. absurd (omega (arith, some_number c.in-Some.reason, c.in-Some.ensures, x)))));
      within = omega arith;
      number = c.in-Some.ensures;
    }

pub loop-p-preserved : goal.loop-p-preserved
loop-p-preserved c = (
  scan_on (is_faulty c.args.nodes c.args.vars c.args.stretch.now) 0 c.loop-p.p c.loop-p.invariant.0
      (ap not (eq-eqb _ 0 (sym c.in_default.ensures))),
  omega arith,
)

pub returns : goal.returns
returns c =
    let all : length c.args.stretch.now / 3 ≡ c.loop-p.p = omega (arith, c.loop-p.invariant.1) in
    sym (all ∙ scan_end (is_faulty c.args.nodes c.args.vars c.args.stretch.now) 0 (length c.args.stretch.now / 3) c.loop-p.p c.loop-p.invariant.0 (omega arith))
