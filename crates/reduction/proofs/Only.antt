-- No other array is reduced: one with no low = high, no two equal nodes and the nodes numbered on the way back, low branch
-- first, is what building gives from it.
use Prim.Native.Nat.{ℕ, zero, suc, ◌+◌, ◌*◌, ◌≤◌, ◌<◌}
use mathlib.Core.Path.{◌≡◌, refl, sym, ap, ◌∙◌}
use mathlib.Core.List.{List, [], ◌∷◌, ◌++◌}
use native.Mathlib.Omega.{arith}
use native.Mathlib.Decide.{dec_lt}
use lib.ListN.{length, get_or, take}
use lib.Seq.{take_all}
use Rattle.diagram.specs.Diagram.{var_of, low_of, high_of, size, vars, root, Ordered}
use Rattle.diagram.proofs.Reading.{layered, by_two}
use Rattle.store.specs.Store.{Node, node, words, find, Built, built, terminals}
use Rattle.reduction.specs.Reduce.{reduce}
use Rattle.reduction.specs.Demand3.{Lean, Distinct, Numbering, there, after}
use Rattle.store.specs.Build.{at, nodes, own}
use Rattle.store.proofs.Store.{node_discrete, node_path, find_here, find_later, find_most, find_at}
use Rattle.store.proofs.Canon.{join_there, join_new}
use Rattle.reduction.proofs.Numbering.{numbers_grow, numbers_in_lem}
use Rattle.store.proofs.Graph.{own_terminal, own_node}
use Rattle.reduction.proofs.Rooted.{reduce_is}
use Rattle.store.proofs.Tables.{nodes_length, held_nodes, held_is, take_words}

-- What is there is found.
find_there : (n : Node) (o : List Node) (p : ℕ) → p < length o → at o p ≡ n → find n o < length o
find_there n [] p h e = absurd (omega arith)
find_there n (m ∷ o) zero h e = let l = find_here n m o (sym e) in omega arith
find_there n (m ∷ o) (suc p) h e = elim (node_discrete n m) [
  | yes x ↦ let l = find_here n m o x in omega arith
  | no x ↦ let l = find_later n m o x in let i = find_there n o p (omega arith) e in omega arith
]

-- Every node that gets a number has children with smaller ones.
pub numbers_closed : {w : List ℕ} {a p b : ℕ} → Numbering w a p b → (q : ℕ) → a ≤ q → q < b → (low_of w q < q) × (high_of w q < q)
numbers_closed (there h) q from to = absurd (omega arith)
numbers_closed {w} {p = p} (after {b = m} l h) q from to = elim (dec_lt q m) [
  | yes x ↦ numbers_closed l q from x
  | no x ↦ elim (dec_lt q p) [
    | yes y ↦ numbers_closed h q (omega arith) y
    | no y ↦
        let e : q ≡ p = omega arith in
        let low = numbers_in_lem l in
        let high = numbers_in_lem h in
        let grown = numbers_grow h in
        rw e (omega arith, omega arith)
  ]
]

module _ (w : List ℕ) (o : Ordered w) (lean : Lean w) (distinct : Distinct w) where
  -- the first k nodes as a store
  abbrev store : ℕ → List Node
  store k = nodes (λ j. get_or w j 0) k

  abbrev node_of : ℕ → Node
  node_of q = node (var_of w q) (low_of w q) (high_of w q)

  long : (k : ℕ) → length (store k) ≡ k
  long k = nodes_length (λ j. get_or w j 0) k

  store_at : (k q : ℕ) → q < k → at (store k) q ≡ node_of q
  store_at k q h = held_is (store k) (λ j. get_or w j 0) (node_of q) q (held_nodes (λ j. get_or w j 0) k) (let n = long k in omega arith) refl refl refl

  store_suc : (k : ℕ) → store (suc k) ≡ store k ++ (node_of k ∷ [])
  unfolding nodes
  store_suc k = refl

  store_ends : 2 ≤ size w → terminals (vars w) ≡ store 2
  unfolding nodes
  store_ends h =
      let a : node (vars w) 0 0 ≡ node_of 0 = node_path (node (vars w) 0 0) (node_of 0) refl (sym o.formed.zero_terminal.low) (sym o.formed.zero_terminal.high) in
      let t = o.formed.one_terminal (omega arith) in
      let b : node (vars w) 1 1 ≡ node_of 1 = node_path (node (vars w) 1 1) (node_of 1) (sym t.var) (sym t.low) (sym t.high) in
      cc

  -- equal nodes are one
  same_node : (p q : ℕ) → p < size w → q < size w → node_of p ≡ node_of q → p ≡ q
  same_node p q hp hq e = distinct p q hp hq (ap (λ (n : Node). n.var) e) (ap (λ (n : Node). n.low) e) (ap (λ (n : Node). n.high) e)

  found : (k q : ℕ) → k ≤ size w → q < k → find (node_of q) (store k) ≡ q
  found k q m h =
      let n = long k in
      let t = find_there (node_of q) (store k) q (omega arith) (store_at k q h) in
      same_node (find (node_of q) (store k)) q (omega arith) (omega arith)
      (sym (store_at k (find (node_of q) (store k)) (omega arith)) ∙ find_at (node_of q) (store k) t)

  missing : (k : ℕ) → k < size w → find (node_of k) (store k) ≡ length (store k)
  missing k m =
      let n = long k in
      let most = find_most (node_of k) (store k) in
      elim (dec_lt (find (node_of k) (store k)) (length (store k))) [
        | yes t ↦
            let e = same_node (find (node_of k) (store k)) k (omega arith) m (sym (store_at k (find (node_of k) (store k)) (omega arith)) ∙ find_at (node_of k) (store k) t) in
            absurd (omega arith)
        | no t ↦ omega arith
      ]

  module _ (closed : (p : ℕ) → 2 ≤ p → p < size w → (low_of w p < p) × (high_of w p < p)) where
    -- a node that has its number is built again with nothing added
    stands : (m p k : ℕ) → p < m → p < k → k ≤ size w → own w (vars w) p (store k) ≡ built (store k) p
    stands zero p k h i j = absurd (omega arith)
    stands (suc m) p k h i j = by_two p
        (λ t. own_terminal w (vars w) (size w) (layered w o) p t (omega arith) (store k))
        (λ two.
        let c = closed p two (omega arith) in
        let low = stands m (low_of w p) k (omega (arith, c.0)) (omega (arith, c.0)) j in
        let high = stands m (high_of w p) k (omega (arith, c.1)) (omega (arith, c.1)) j in
        let here = found k p j i in
        own_node w (vars w) (size w) (layered w o) p two (omega arith) (store k)
        ∙ rw (low, high) (join_there (var_of w p) (low_of w p) (high_of w p) (store k) (lean p two (omega arith)) (let n = long k in omega arith) ∙ ap (built (store k)) here))

    -- what the numbering gives out is what building adds
    numbers : {a p b : ℕ} → Numbering w a p b → 2 ≤ a → b ≤ size w → own w (vars w) p (store a) ≡ built (store b) p
    numbers {a} {p} (there h) two m = stands (suc p) p a (omega arith) h m
    numbers {a} {p} (after {b = b} l h) two m =
        let first = numbers_grow l in
        let second = numbers_grow h in
        let low = numbers l two (omega arith) in
        let high = numbers h (omega arith) (omega arith) in
        let last : length (store p) ≡ p = long p in
        own_node w (vars w) (size w) (layered w o) p (omega arith) (omega arith) (store a)
        ∙ rw (low, high) (join_new (var_of w p) (low_of w p) (high_of w p) (store p) (lean p (omega arith) (omega arith)) (missing p (omega arith))
        ∙ rw (last, store_suc p) refl)

  pub reduce_only : 2 ≤ size w → Numbering w 2 (root w) (size w) → reduce w ≡ w
  reduce_only many n =
      let all : own w (vars w) (root w) (terminals (vars w)) ≡ built (store (size w)) (root w) =
      ap (own w (vars w) (root w)) (store_ends many) ∙ numbers (λ p two h. numbers_closed n p two h) n (omega arith) (omega arith) in
      let last : suc (root w) ≡ size w = omega arith in
      let k = long (size w) in
      reduce_is w o
      ∙ ap (λ (b : Built). words (take (suc b.pointer) b.store)) all
      ∙ ap (λ (m : ℕ). words (take m (store (size w)))) last
      ∙ sym (take_words (store (size w)) (λ j. get_or w j 0) (held_nodes (λ j. get_or w j 0) (size w)) w (size w) (omega arith) (omega (arith, o.formed.whole)) (λ j h. refl))
      ∙ take_all (3 * size w) w (omega (arith, o.formed.whole))
