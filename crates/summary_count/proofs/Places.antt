-- Nodes counted place by place: after the places below p each record has the nodes among these.
use Prim.Native.Nat.{ℕ, suc, ◌+◌, ◌*◌, ◌≤◌, ◌<◌}
use mathlib.Core.Path.{◌≡◌, refl, sym, ap, ◌∙◌, subst}
use mathlib.Core.Bool.{true, false}
use mathlib.Core.List.{List}
use native.Mathlib.Omega.{arith}
use lib.ListN.{length, set, length-set}
use Rattle.diagram.specs.Limits.{max_nodes}
use Rattle.diagram.specs.Diagram.{var_of, size, vars}
use Rattle.diagram.proofs.Tests.{by_test, by-eq, cond-true, cond-false}
use Rattle.pool.specs.Pool.{Inner, is_free}
use Rattle.pool.proofs.Testing.{used_told}
use Rattle.summary.specs.Summary.{record_words, summary_words, is_node_at}
use Rattle.summary.proofs.Counting.{nodes_below, nodes_all, nodes_none, nodes_free, nodes_here, nodes_other, many_most}
use Rattle.summary_count.specs.Counting.{nodes_in, slots_in, Behind, with_node, Ready, Counted}
use Rattle.summary_count.proofs.Records.{nodes_set, nodes_stay, slots_by_nodes, rest_by_nodes}

pub record Below (t kept : List ℕ) (p : ℕ) (kept' : List ℕ) : Type 0 where
  pub behind : Behind t kept kept'
  pub nodes : (i : ℕ) → i < vars t → nodes_in kept' i ≡ nodes_below t i p
  pub slots : (i : ℕ) → i < vars t → slots_in kept' i ≡ slots_in kept i

module _ (t kept : List ℕ) (ready : Ready t kept) where
  pub nothing_yet : Below t kept 2 kept
  nothing_yet = record {
    behind = record { long = refl; rest = refl };
    nodes = λ i h. ready.none i h ∙ sym (nodes_none t i);
    slots = λ i h. refl;
  }

  module _ (p : ℕ) {kept' : List ℕ} (below : Below t kept p kept') where
    pass_free : is_free t p ≡ true → Below t kept (suc p) kept'
    pass_free free = record {
      behind = below.behind;
      nodes = λ i h. below.nodes i h ∙ sym (nodes_free t i p free);
      slots = below.slots;
    }

    module _ (two : 2 ≤ p) (inside : p < size t) (used : is_free t p ≡ false) where
      is_inner : Inner t p
      is_inner = record { after = two; inside = inside; used = used_told t p used }

      in_range : var_of t p < vars t
      in_range = (ready.pool.ranges p is_inner).var

      long : summary_words t ≤ length kept'
      long = let e = below.behind.long in let l = ready.long in omega arith

      few : nodes_in kept' (var_of t p) < max_nodes
      few =
          let e = below.nodes (var_of t p) in_range in
          let m = many_most p (is_node_at t (var_of t p)) in
          let n = ready.pool.few in
          omega arith

      count_it : Below t kept (suc p) (set kept' (record_words * var_of t p) (nodes_in kept' (var_of t p) + 1))
      count_it =
          let x = nodes_in kept' (var_of t p) + 1 in
          record {
            behind = record {
              long = length-set kept' (record_words * var_of t p) x ∙ below.behind.long;
              rest = rest_by_nodes (vars t) kept' long (var_of t p) in_range x ∙ below.behind.rest;
            };
            nodes = λ i h. by-eq i (var_of t p)
                (λ e.
                let here = nodes_here t i p two used (sym e) in
                let was = below.nodes i h in
                rw e (nodes_set (vars t) kept' long (var_of t p) in_range x) ∙ ap (λ (j : ℕ). nodes_in kept' j + 1) (sym e) ∙ omega arith)
                (λ other.
                nodes_stay (vars t) kept' long (var_of t p) in_range x i other ∙ below.nodes i h ∙ sym (nodes_other t i p two used (λ e. other (sym e))));
            slots = λ i h. slots_by_nodes (vars t) kept' long (var_of t p) in_range x i ∙ below.slots i h;
          }

    next_place : 2 ≤ p → p < size t → Below t kept (suc p) (with_node t p kept')
    unfolding with_node
    next_place two inside = by_test (is_free t p)
        (λ free. rw free (pass_free free))
        (λ used. rw used (count_it two inside used))

    pub few_there : 2 ≤ p → p < size t → is_free t p ≡ false → nodes_in kept' (var_of t p) < max_nodes
    few_there two inside used = few two inside used

    pub next_at : 2 ≤ p → p < size t → {kept₂ : List ℕ} → kept₂ ≡ with_node t p kept' → Below t kept (p + 1) kept₂
    next_at two inside e = subst (λ (l : List ℕ). Below t kept (p + 1) l) (sym e) (subst (λ (n : ℕ). Below t kept n (with_node t p kept')) (omega arith) (next_place two inside))

  pub all_counted : {p : ℕ} {kept' : List ℕ} → Below t kept p kept' → p ≡ size t → Counted t kept kept'
  all_counted below e = record {
    behind = below.behind;
    nodes = λ i h. below.nodes i h ∙ ap (nodes_below t i) e ∙ sym (nodes_all t i);
    slots = below.slots;
  }

-- ---- one place

module _ (t : List ℕ) (p : ℕ) (kept : List ℕ) where
  pub free_stays : is_free t p ≡ true → kept ≡ with_node t p kept
  unfolding with_node
  free_stays free = sym (cond-true (is_free t p) kept (set kept (record_words * var_of t p) (nodes_in kept (var_of t p) + 1)) free)

  module _ (var x : ℕ) (is-var : var ≡ var_of t p) (is_x : x ≡ nodes_in kept var) where
    pub used_counts : is_free t p ≡ false → {kept' : List ℕ} → kept' ≡ set kept (record_words * var) (x + 1) → kept' ≡ with_node t p kept
    unfolding with_node
    used_counts used e =
        e ∙ ap (λ (y : ℕ). set kept (record_words * var) (y + 1)) is_x
        ∙ ap (λ (y : ℕ). set kept (record_words * y) (nodes_in kept y + 1)) is-var
        ∙ sym (cond-false (is_free t p) kept (set kept (record_words * var_of t p) (nodes_in kept (var_of t p) + 1)) used)
