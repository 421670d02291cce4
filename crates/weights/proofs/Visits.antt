-- What weights say: of node 0, of node 1 and of the root; and of several nodes together.
use Prim.Native.Nat.{ℕ, suc, ◌+◌, ◌-◌, ◌≤◌, ◌<◌}
use mathlib.Core.Path.{◌≡◌, refl, sym, ap, ◌∙◌}
use mathlib.Core.Bool.{Bool, true, false, ◌&&◌, ◌||◌, and-false, and-or_distrib_left}
use mathlib.Core.List.{List, [], ◌∷◌}
use native.Mathlib.Omega.{arith}
use lib.ListN.{replicate}
use lib.Dec.{eqb}
use borrow.Author.Tests.{eq-eqb, eqb-true}
use Rattle.naturals.specs.Natural.{word_count}
use Rattle.naturals.specs.Spelling.{words_of}
use Rattle.diagram.specs.Diagram.{size, vars, root, step, walk, holds}
use Rattle.diagram.specs.Verdict.{any}
use Rattle.diagram.specs.Valuations.{tally, count_of, meets, weight_of}
use Rattle.diagram.proofs.Tests.{by_test, not_both}
use Rattle.diagram.proofs.Count.{any_intro, any_elim}
use Rattle.diagram.proofs.Tally.{tally_same, tally_none, tally_or, tally_mono}
use Rattle.diagram.proofs.Meeting.{any_or, walk_zero, walk_ends, walk_on}
use Rattle.counts.proofs.Turns.{counting}
use Rattle.weights.specs.Listed.{among, sum_of, visited_by}
use Rattle.weights.specs.Weighed.{weight_words, Weighing}

module _ (w : List ℕ) where
  -- no path that visits node 0 ends at node 1
  stays : (bs : List Bool) (k : ℕ) → k < suc (vars w) → walk w bs k (root w) ≡ 0 → holds w bs ≡ false
  unfolding holds
  stays bs k h e =
      let split : k + (vars w - k) ≡ vars w = omega arith in
      let end : walk w bs (vars w) (root w) ≡ 0 =
      ap (λ (m : ℕ). walk w bs m (root w)) (sym split) ∙ walk_on w bs k (vars w - k) (root w) ∙ ap (walk w bs (vars w - k)) e ∙ walk_ends w bs (vars w - k) 0 (omega arith) in
      rw end

  never : (bs : List Bool) → (holds w bs && meets w bs (eqb 0)) ≡ false
  unfolding meets
  never bs =
      by_test (meets w bs (eqb 0))
      (λ t.
      let k = any_elim (suc (vars w)) (λ m. eqb 0 (walk w bs m (root w))) t in
      rw (stays bs k.0 k.1 (sym (eqb-true 0 (walk w bs k.0 (root w)) k.2))))
      (λ f. rw f (and-false (holds w bs)))

  pub weight_of_zero : weight_of w 0 ≡ 0
  weight_of_zero = tally_none (vars w) (λ bs. holds w bs && meets w bs (eqb 0)) (λ bs l. never bs)

  -- every valuation that the diagram holds for visits the root, and ends at node 1
  visited_by_all : (t : ℕ) → ((bs : List Bool) → holds w bs ≡ true → meets w bs (eqb t) ≡ true) → weight_of w t ≡ count_of w
  visited_by_all t f =
      tally_same (vars w) (λ bs. holds w bs && meets w bs (eqb t)) (holds w)
      (λ bs l. by_test (holds w bs) (λ h. rw (h, f bs h)) (λ h. rw h))

  pub weight_of_one : weight_of w 1 ≡ count_of w
  unfolding holds meets
  weight_of_one =
      visited_by_all 1 (λ bs h.
      any_intro (suc (vars w)) (λ m. eqb 1 (walk w bs m (root w))) (vars w) (omega arith)
      (eq-eqb 1 (walk w bs (vars w) (root w)) (sym (eqb-true (walk w bs (vars w) (root w)) 1 h))))

  pub weight_of_root : weight_of w (root w) ≡ count_of w
  unfolding meets
  weight_of_root =
      visited_by_all (root w) (λ bs h.
      any_intro (suc (vars w)) (λ m. eqb (root w) (walk w bs m (root w))) 0 (omega arith)
      (eq-eqb (root w) (walk w bs 0 (root w)) (sym (walk_zero w bs (root w)))))

  -- ---- several nodes

  meets_none : (bs : List Bool) → meets w bs (among []) ≡ false
  unfolding meets among
  meets_none bs =
      by_test (meets w bs (among []))
      (λ t. absurd (not_both false (any_elim (suc (vars w)) (λ m. among [] (walk w bs m (root w))) t).2 refl))
      (λ f. f)

  meets_more : (p : ℕ) (ps : List ℕ) (bs : List Bool) → meets w bs (among (p ∷ ps)) ≡ (meets w bs (eqb p) || meets w bs (among ps))
  unfolding meets among
  meets_more p ps bs = any_or (suc (vars w)) (λ m. eqb p (walk w bs m (root w))) (λ m. among ps (walk w bs m (root w)))

  -- the valuations that visit a listed node are at most the sum of the nodes' weights
  pub visited_most : (ps : List ℕ) → visited_by w ps ≤ sum_of w ps
  unfolding sum_of
  visited_most [] = omega (arith, tally_none (vars w) (λ bs. holds w bs && meets w bs (among [])) (λ bs l. rw (meets_none bs) (and-false (holds w bs))))
  visited_most (p ∷ ps) =
      let parts : visited_by w (p ∷ ps) ≡ tally (vars w) (λ bs. (holds w bs && meets w bs (eqb p)) || (holds w bs && meets w bs (among ps))) =
      tally_same (vars w) (λ bs. holds w bs && meets w bs (among (p ∷ ps))) (λ bs. (holds w bs && meets w bs (eqb p)) || (holds w bs && meets w bs (among ps)))
      (λ bs l. rw (meets_more p ps bs) (and-or_distrib_left (holds w bs) (meets w bs (eqb p)) (meets w bs (among ps)))) in
      omega (arith, tally_or (vars w) (λ bs. holds w bs && meets w bs (eqb p)) (λ bs. holds w bs && meets w bs (among ps)), visited_most ps)

-- and fewer where nodes share a valuation: nodes 2 and 3 of document 01's D have weights 3 and 3, and 5 valuations visit them
unfoldable pub D : List ℕ
D = 3 ∷ 0 ∷ 0 ∷ 3 ∷ 1 ∷ 1 ∷ 2 ∷ 0 ∷ 1 ∷ 1 ∷ 2 ∷ 1 ∷ 0 ∷ 2 ∷ 3 ∷ []

pub shared : (visited_by D (2 ∷ 3 ∷ []) ≡ 5) × (sum_of D (2 ∷ 3 ∷ []) ≡ 6)
unfolding D tally holds meets any walk step among sum_of
shared = (refl, refl)

-- one node alone is node 0
module _ (w : List ℕ) (one : size w ≡ 1) where
  none_alone : count_of w ≡ 0
  none_alone =
      let first : root w ≡ 0 = omega arith in
      sym (weight_of_root w) ∙ ap (weight_of w) first ∙ weight_of_zero w

  words_alone : weight_words w (size w) ≡ replicate word_count 0
  unfolding weight_words words_of
  words_alone = rw (one, weight_of_zero w) refl

-- whatever visits a node is held
both_first : (a b : Bool) → (a && b) ≡ true → a ≡ true
both_first true b e = refl
both_first false b e = e

weight_most : (w : List ℕ) (p : ℕ) → weight_of w p ≤ count_of w
weight_most w p = tally_mono (vars w) (λ bs. holds w bs && meets w bs (eqb p)) (holds w) (λ bs l e. both_first (holds w bs) (meets w bs (eqb p)) e)

pub weighing : Weighing
weighing = record {
  visits = λ w p. counting.tallies (vars w) (λ bs. holds w bs && meets w bs (eqb p));
  zero_node = weight_of_zero;
  one_node = weight_of_one;
  root_node = weight_of_root;
  most = weight_most;
  alone = λ w one. (none_alone w one, words_alone w one);
}
