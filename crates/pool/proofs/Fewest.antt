-- No ordered array that has a node for each live condition has fewer nodes than the one table of the conditions: each node of the table is
-- made where the walk stands at a node of the array that has no mark yet (crates/reduction/proofs/Fewest.antt), whatever the number of roots.
use Prim.Native.Nat.{ℕ, zero, suc, ◌≤◌, ◌<◌}
use mathlib.Core.Path.{◌≡◌, refl, sym, ap, ◌∙◌, subst}
use mathlib.Core.Bool.{Bool}
use mathlib.Core.List.{List, [], ◌∷◌}
use native.Mathlib.Omega.{arith}
use native.Mathlib.Decide.{dec_lt}
use lib.ListN.{length, get_or, set, get_or-eq_default}
use lib.Dec.{leb}
use borrow.Author.Tests.{le-leb}
use Rattle.diagram.specs.Diagram.{size, vars, Ordered}
use Rattle.diagram.proofs.Reading.{layered}
use Rattle.store.specs.Store.{Node, Built, terminals}
use Rattle.store.specs.Build.{own}
use Rattle.store.proofs.Canon.{canon_cong}
use Rattle.reduction.proofs.Count.{count_mono, count_nodes}
use Rattle.reduction.proofs.Fewest.{Marks, walk_marks, unmarked, all_closed}
use Rattle.pool.specs.Pool.{slot_count, Live, WellFormed, holds_from, Slot, empty, live, held, placed, gather, needs}
use Rattle.pool.specs.Pools.{Roots, none, skip, root}
use Rattle.pool.specs.Answers.{with_dropped}
use Rattle.pool.specs.Walked.{walked}
use Rattle.pool.proofs.Walked.{walked_ordered, walked_vars, walked_size, walked_two, walked_names, walked_held, canon_own}
use Rattle.pool.proofs.Gathered.{slot_empty, slot_live, held_nil, held_cons, placed_empty, placed_live, gather_nil, gather_cons, needs_is}

-- ---- marks, root after root

module _ (w : List ℕ) (g : Ordered w) where
  abbrev Marked : List Node → Type 0
  Marked o = Marks w (vars w) (size w) (layered w g) (leb 2) (all_closed w (size w)) o

  -- Building a condition is walking its node.
  placed_own : (p : ℕ) → p < size w → (f : List Bool → Bool) → ((bs : List Bool) → length bs ≡ vars w → holds_from w p bs ≡ f bs) → (o : List Node)
      → (own w (vars w) p o).store ≡ placed (vars w) (live f) o
  placed_own p h f same o =
      ap (λ (b : Built). b.store) (sym (canon_own w g p h o) ∙ canon_cong (vars w) 0 (holds_from w p) f same o) ∙ sym (placed_live (vars w) f o)

  gather_marks : {cs : List Slot} → Roots w cs → (o : List Node) → Marked o → Marked (gather (vars w) cs o)
  gather_marks none o m = subst Marked (sym (gather_nil (vars w) o)) m
  gather_marks (skip {cs = cs} rest) o m =
      subst Marked (sym (gather_cons (vars w) empty cs o ∙ ap (gather (vars w) cs) (placed_empty (vars w) o))) (gather_marks rest o m)
  gather_marks (root {f = f} {cs = cs} p h same rest) o m =
      let walked_on : Marked (own w (vars w) p o).store =
      walk_marks w (vars w) (size w) (layered w g) (leb 2) (all_closed w (size w)) (vars w) p h (omega arith) (le-leb 2 p) o m in
      subst Marked (sym (gather_cons (vars w) (live f) cs o))
      (gather_marks rest (placed (vars w) (live f) o) (subst Marked (placed_own p h f same o) walked_on))

  pub roots_fewest : (cs : List Slot) → 2 ≤ size w → Roots w cs → needs (vars w) cs ≤ size w
  roots_fewest cs two r =
      let m = gather_marks r (terminals (vars w)) (unmarked w (vars w) (size w) (layered w g) (leb 2) (all_closed w (size w))) in
      let most = count_mono (size w) m.mark (leb 2) (λ q h. m.alive q) in
      let all = m.bound in
      let nodes = count_nodes (size w) in
      let is = needs_is (vars w) cs in
      omega arith

-- ---- the conditions of a pool have their nodes in its table

pub roots_held : (w s : List ℕ) → ((k r : ℕ) → get_or s k 0 ≡ suc r → r < size w) → Roots w (held w s)
roots_held w [] inside = rw (held_nil w) none
roots_held w (zero ∷ s) inside = rw (held_cons w 0 s, slot_empty w) (skip (roots_held w s (λ k. inside (suc k))))
roots_held w (suc p ∷ s) inside =
    rw (held_cons w (suc p) s, slot_live w p) (root p (inside 0 p refl) (λ bs l. refl) (roots_held w s (λ k. inside (suc k))))

-- Fewer conditions have theirs.
pub roots_empty : {w : List ℕ} {cs : List Slot} → Roots w cs → (k : ℕ) → Roots w (set cs k empty)
roots_empty none k = none
roots_empty (skip rest) zero = skip rest
roots_empty (skip rest) (suc k) = skip (roots_empty rest k)
roots_empty (root p h same rest) zero = skip rest
roots_empty (root p h same rest) (suc k) = root p h same (roots_empty rest k)

module _ (t s : List ℕ) (f : WellFormed t s) where
  -- A slot's word that isn't zero is that of a live slot.
  pub live_at : (k r : ℕ) → get_or s k 0 ≡ suc r → Live s k r
  live_at k r e = elim (dec_lt k slot_count) [
    | yes h ↦ record { inside = h; names = e }
    | no h ↦ let z = get_or-eq_default s 0 {n = k} (let l = f.slots in omega arith) in absurd (omega arith)
  ]

  pub held_roots : Roots (walked t) (held t s)
  held_roots = subst (Roots (walked t)) (walked_held t s f s) (roots_held (walked t) s (λ k r e. walked_names t s f k r (live_at k r e)))

  fits : (cs : List Slot) → Roots (walked t) cs → needs (vars t) cs ≤ size t
  fits cs r =
      let fewest : needs (vars (walked t)) cs ≤ size (walked t) = roots_fewest (walked t) (walked_ordered t s f) cs (walked_two t s f) r in
      let fewest' : needs (vars t) cs ≤ size (walked t) = subst (λ (v : ℕ). needs v cs ≤ size (walked t)) (walked_vars t s f) fewest in
      let most = walked_size t s f in
      omega arith

  pub held_fit : needs (vars t) (held t s) ≤ size t
  held_fit = fits (held t s) held_roots

  pub dropped_fit : (k : ℕ) → needs (vars t) (with_dropped t s k) ≤ size t
  dropped_fit k = fits (with_dropped t s k) (roots_empty held_roots k)
