-- The store has no more nodes than the diagram that is walked. A mark on a node of the diagram says that building that node
-- again would add nothing; a node is added to the store only where the node that the walk stands at has no mark yet.
use Prim.Native.Nat.{ℕ, zero, suc, ◌+◌, ◌≤◌, ◌<◌, max}
use mathlib.Core.Path.{◌≡◌, refl, sym, ap, ◌∙◌, subst}
use mathlib.Core.Bool.{Bool, true, false, true≢false}
use mathlib.Core.List.{List}
use native.Mathlib.Omega.{arith}
use native.Mathlib.Decide.{ℕ_discrete}
use lib.ListN.{length}
use lib.Dec.{leb}
use borrow.Author.Tests.{le-leb}
use Rattle.diagram.specs.Diagram.{var_of, low_of, high_of, size, vars, root, Ordered}
use Rattle.diagram.proofs.Reading.{Layered, layered, by_two, root_in}
use Rattle.store.specs.Store.{Node, node, Built, join, terminals}
use Rattle.store.specs.Build.{own}
use Rattle.reduction.proofs.Count.{count, by_test, count_mono, count_nodes, marked, marked_other, count_mark}
use Rattle.store.proofs.Store.{Extends, extends_refl, length_add}
use Rattle.store.proofs.Canon.{by_join}
use Rattle.store.proofs.Graph.{own_extends, own_again, own_terminal, own_node, low_built, high_built}

-- ---- marks

-- Nodes among which a walk stays: with a node its children, unless those are terminals.
pub record Closed (w : List ℕ) (n : ℕ) (live : ℕ → Bool) : Type 0 where
  pub low : (p : ℕ) → p < n → live p ≡ true → 2 ≤ low_of w p → live (low_of w p) ≡ true
  pub high : (p : ℕ) → p < n → live p ≡ true → 2 ≤ high_of w p → live (high_of w p) ≡ true

module _ (w : List ℕ) (v n : ℕ) (g : Layered w v n) (live : ℕ → Bool) (closed : Closed w n live) where
  pub record Marks (o : List Node) : Type 0 where
    pub mark : ℕ → Bool
    pub alive : (q : ℕ) → mark q ≡ true → live q ≡ true
    pub done : (q : ℕ) → mark q ≡ true → (own w v q o).store ≡ o
    pub bound : length o ≤ 2 + count n mark

  again : (q : ℕ) (o o' : List Node) → (own w v q o).store ≡ o → Extends o o' → (own w v q o').store ≡ o'
  again q o o' e x = ap (λ (b : Built). b.store) (own_again w v q o o' (rw e x))

  -- The node that the walk stands at: if it has a mark nothing is added, else one node at most.
  mark_node : (p : ℕ) → 2 ≤ p → p < n → live p ≡ true → (o : List Node) → length (own w v p o).store ≤ suc (length o) → Marks o
      → Marks (own w v p o).store
  mark_node p two h l o more m = by_test (m.mark p)
      (λ e. subst Marks (sym (m.done p e)) m)
      (λ e.
      let after : List Node = (own w v p o).store in
      let one_more = count_mark n m.mark p h e in
      let was = m.bound in
      record {
        mark = marked m.mark p;
        alive = λ q d. elim (ℕ_discrete q p) [
          | yes at_p ↦ rw at_p l
          | no other ↦ m.alive q (sym (marked_other m.mark p q other) ∙ d)
        ];
        done = λ q d. elim (ℕ_discrete q p) [
          | yes at_p ↦ rw at_p (ap (λ (b : Built). b.store) (own_again w v p o after (extends_refl after)))
          | no other ↦ again q o after (m.done q (sym (marked_other m.mark p q other) ∙ d)) (own_extends w v p o)
        ];
        bound = omega arith;
      })

  -- Once its children are built, building a node is a single join.
  own_after : (p : ℕ) → 2 ≤ p → p < n → (o : List Node) → own w v p (high_built w v p o).store ≡ own w v p o
  own_after p two h o =
      let low : Built = low_built w v p o in
      let high : Built = high_built w v p o in
      rw (
        own_node w v n g p two h high.store,
        own_node w v n g p two h o,
        own_again w v (low_of w p) o high.store (own_extends w v (high_of w p) low.store),
        own_again w v (high_of w p) low.store high.store (extends_refl high.store),
      )
      refl

  join_more : (i l h : ℕ) (o : List Node) → length (join i l h o).store ≤ suc (length o)
  join_more i l h o = by_join (λ b. length b.store ≤ suc (length o)) i l h o
      (λ e. omega arith) (λ ne t. omega arith) (λ ne e. let k = length_add o (node i l h) in omega arith)

  -- The walk, with fuel for the variables left.
  abbrev pub Walks : ℕ → Type 0
  Walks k = (p : ℕ) → p < n → v ≤ var_of w p + k → (2 ≤ p → live p ≡ true) → (o : List Node) → Marks o → Marks (own w v p o).store

  walk_terminal : (p : ℕ) → p < 2 → p < n → (o : List Node) → Marks o → Marks (own w v p o).store
  walk_terminal p t h o m = rw (own_terminal w v n g p t h o) m

  walk_node : (k : ℕ) → Walks k → (p : ℕ) → 2 ≤ p → p < n → v ≤ var_of w p + suc k → live p ≡ true → (o : List Node) → Marks o
      → Marks (own w v p o).store
  walk_node k rest p two h fuel l o m =
      let low : Built = low_built w v p o in
      let high : Built = high_built w v p o in
      let a = g.node p two h in
      let after-low : Marks low.store = rest (low_of w p) a.low (let up = a.above_low in omega arith) (closed.low p h l) o m in
      let after-high : Marks high.store = rest (high_of w p) a.high (let up = a.above_high in omega arith) (closed.high p h l) low.store after-low in
      let same : own w v p high.store ≡ own w v p o = own_after p two h o in
      let more : length (own w v p high.store).store ≤ suc (length high.store) =
      rw (same, own_node w v n g p two h o) (join_more (var_of w p) low.pointer high.pointer high.store) in
      subst (λ (b : Built). Marks b.store) same (mark_node p two h l high.store more after-high)

  pub walk_marks : (k : ℕ) → Walks k
  walk_marks zero p h fuel l o m = by_two p
      (λ t. walk_terminal p t h o m)
      (λ two. let a = g.node p two h in absurd (omega arith))
  walk_marks (suc k) p h fuel l o m = by_two p
      (λ t. walk_terminal p t h o m)
      (λ two. walk_node k (walk_marks k) p two h fuel (l two) o m)

  pub unmarked : Marks (terminals v)
  unmarked = record {
    mark = λ q. false;
    alive = λ q e. absurd (true≢false (sym e));
    done = λ q e. absurd (true≢false (sym e));
    bound = omega arith;
  }

  -- The store that is built for a live node has at most as many nodes, beside the terminals, as there are live ones.
  pub own_fits : (p : ℕ) → p < n → (2 ≤ p → live p ≡ true) → length (own w v p (terminals v)).store ≤ 2 + count n live
  own_fits p h l =
      let m = walk_marks v p h (omega arith) l (terminals v) unmarked in
      let most = count_mono n m.mark live (λ q in-n. m.alive q) in
      let all = m.bound in
      omega arith

-- The whole diagram: all nodes but the terminals are live.
pub all_closed : (w : List ℕ) (n : ℕ) → Closed w n (leb 2)
all_closed w n = record {
  low = λ p h l. le-leb 2 (low_of w p);
  high = λ p h l. le-leb 2 (high_of w p);
}

pub store_fits : (w : List ℕ) → Ordered w → length (own w (vars w) (root w) (terminals (vars w))).store ≤ max (size w) 2
store_fits w o =
    let fits = own_fits w (vars w) (size w) (layered w o) (leb 2) (all_closed w (size w)) (root w) (root_in w o) (le-leb 2 (root w)) in
    let nodes = count_nodes (size w) in
    omega arith
