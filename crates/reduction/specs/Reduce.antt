-- Reduction (document 01, port 7; Bryant 1986). It is defined from the function that a diagram stands for and not from
-- its graph: the function is built on the two terminals (`canon`, crates/store/specs/Store.antt). That this gives an accepted
-- diagram of the same function, the same words for the same function, and the fewest nodes is stated in Demand3.antt and
-- proved in proofs/Canonical.antt.
use Rattle.std.specs.Prelude.{ℕ, suc, Bool, List, take}
use Rattle.diagram.specs.Diagram.{vars, holds}
use Rattle.store.specs.Store.{words, canon, terminals}

-- The reduced diagram of a function of v variables: what was made, up to the pointer to the function, which is the
-- root. So false has one node, and true two.
unfoldable pub reduced : ℕ → (List Bool → Bool) → List ℕ
reduced v f =
    let b = canon v 0 f (terminals v) in
    words (take (suc b.pointer) b.store)

-- The reduced diagram of a diagram.
unfoldable pub reduce : List ℕ → List ℕ
reduce w = reduced (vars w) (holds w)
