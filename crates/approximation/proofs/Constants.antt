-- The constants hold always or never, and are accepted.
use Prim.Native.Nat.{ℕ, ◌≤◌}
use mathlib.Core.Path.{◌≡◌, refl, subst}
use mathlib.Core.Bool.{Bool, true, false}
use mathlib.Core.List.{List}
use native.Mathlib.Omega.{arith}
use Rattle.diagram.specs.Limits.{max_variables}
use Rattle.diagram.specs.Diagram.{size, vars, root, holds, Accepted}
use Rattle.diagram.proofs.Meeting.{walk_ends}
use Rattle.store.specs.Store.{words}
use Rattle.reduction.proofs.Canonical.{reduced_accepted, reduced_never, reduced_always}
use Rattle.approximation.specs.Constants.{false_of, true_of}

pub true_holds : (v : ℕ) (bs : List Bool) → holds (true_of v) bs ≡ true
unfolding holds
true_holds v bs = rw (walk_ends (true_of v) bs v 1 (omega arith)) refl

pub false_holds : (v : ℕ) (bs : List Bool) → holds (false_of v) bs ≡ false
unfolding holds
false_holds v bs = rw (walk_ends (false_of v) bs v 0 (omega arith)) refl

pub one_holds : (w : List ℕ) (bs : List Bool) → size w ≡ 1 → holds w bs ≡ false
unfolding holds
one_holds w bs e =
    let r : root w ≡ 0 = omega arith in
    rw (r, walk_ends w bs (vars w) 0 (omega arith)) refl

pub two_holds : (w : List ℕ) (bs : List Bool) → size w ≡ 2 → holds w bs ≡ true
unfolding holds
two_holds w bs e =
    let r : root w ≡ 1 = omega arith in
    rw (r, walk_ends w bs (vars w) 1 (omega arith)) refl

pub false_accepted : (v : ℕ) → v ≤ max_variables → Accepted (false_of v)
unfolding words
false_accepted v h =
    let e = reduced_never v (λ bs. false) (λ bs l. refl) in
    subst Accepted e (reduced_accepted v (λ bs. false) h (rw e (omega arith)))

pub true_accepted : (v : ℕ) → v ≤ max_variables → Accepted (true_of v)
unfolding words
true_accepted v h =
    let e = reduced_always v (λ bs. true) (λ bs l. refl) in
    subst Accepted e (reduced_accepted v (λ bs. true) h (rw e (omega arith)))
