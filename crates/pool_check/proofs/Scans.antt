-- A loop over all nodes that ends at the first which fails a test.
use Prim.Native.Nat.{ℕ, ◌≤◌, ◌<◌}
use mathlib.Core.Path.{◌≡◌, sym, ◌∙◌, ap}
use mathlib.Core.Bool.{Bool, true, false, not, ◌&&◌}
use mathlib.Core.List.{List}
use native.Mathlib.Omega.{arith}
use borrow.Author.Tests.{le-leb, leb-true}
use lib.Dec.{leb}
use Rattle.diagram.specs.Diagram.{size}
use Rattle.diagram.proofs.Tests.{by_test, not_both}
use Rattle.diagram.proofs.Count.{any_intro, Scanned}
use Rattle.pool.specs.Pool.{is_free, each_node}
use Rattle.pool.proofs.Testing.{any_none, fails, each_told, each_tells}

-- What the code finds at a place: a node that fails.
abbrev pub is_fault : List ℕ → (ℕ → Bool) → ℕ → Bool
is_fault t test p = not (is_free t p) && not (test p)

fault_is : (t : List ℕ) (test : ℕ → Bool) (p : ℕ) (r : Bool) → 2 ≤ p → r ≡ is_fault t test p → fails t test p ≡ r
fault_is t test p r two e = rw (le-leb 2 p two) (sym e)

pub each_hit : (t : List ℕ) (test : ℕ → Bool) (p : ℕ) {r : Bool} → 2 ≤ p → p < size t → r ≡ is_fault t test p → r ≡ true → false ≡ each_node t test
unfolding each_node
each_hit t test p {r} two l e hit = sym (ap not (any_intro (size t) (fails t test) p l (fault_is t test p r two e ∙ hit)))

pub each_end : (t : List ℕ) (test : ℕ → Bool) (p : ℕ) → Scanned (fails t test) 2 p → size t ≤ p → true ≡ each_node t test
unfolding each_node
each_end t test p s all = sym (ap not (any_none (size t) (fails t test) (λ q l. by_test (leb 2 q)
    (λ two. s.none q (leb-true 2 q two) (omega arith))
    (λ early. rw early))))

-- two tests that agree on all places
pub each_same : (t : List ℕ) (f g : ℕ → Bool) → ((p : ℕ) → p < size t → f p ≡ g p) → each_node t f ≡ each_node t g
each_same t f g same = by_test (each_node t f)
    (λ a. a ∙ sym (each_tells t g (λ p i. sym (same p i.inside) ∙ each_told t f a p i)))
    (λ a. by_test (each_node t g)
    (λ b. absurd (not_both (each_node t f) (each_tells t f (λ p i. same p i.inside ∙ each_told t g b p i)) a))
    (λ b. a ∙ sym b))
