-- Reduction is building the root of a diagram on the two terminals.
use Prim.Native.Nat.{ℕ, suc}
use mathlib.Core.Path.{◌≡◌, ap, ◌∙◌}
use mathlib.Core.List.{List}
use native.Mathlib.Omega.{arith}
use lib.ListN.{take}
use Rattle.diagram.specs.Diagram.{size, vars, root, holds, Ordered}
use Rattle.diagram.specs.Reading.{eval}
use Rattle.diagram.proofs.Reading.{layered, holds_is_eval, root_in}
use Rattle.store.specs.Store.{words, Built, canon, terminals}
use Rattle.store.specs.Build.{own}
use Rattle.store.proofs.Canon.{canon_cong}
use Rattle.store.proofs.Graph.{own_level}
use Rattle.reduction.specs.Reduce.{reduced, reduce}

pub reduce_own : (w : List ℕ) → Ordered w → canon (vars w) 0 (holds w) (terminals (vars w)) ≡ own w (vars w) (root w) (terminals (vars w))
reduce_own w o =
    canon_cong (vars w) 0 (holds w) (eval w 0 (root w)) (holds_is_eval w o) (terminals (vars w))
    ∙ own_level w (vars w) (size w) (layered w o) (root w) 0 (vars w) (root_in w o) (omega arith) (omega arith) (terminals (vars w))

pub reduce_is : (w : List ℕ) → Ordered w
    → let b = own w (vars w) (root w) (terminals (vars w)) in reduce w ≡ words (take (suc b.pointer) b.store)
unfolding reduce reduced
reduce_is w o = ap (λ (b : Built). words (take (suc b.pointer) b.store)) (reduce_own w o)
