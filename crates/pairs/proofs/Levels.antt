-- Pairs of two diagrams of one variable count: a step stays among the nodes and goes to a larger variable.
use Prim.Native.Nat.{ℕ, ◌≤◌, ◌<◌}
use mathlib.Core.Path.{◌≡◌}
use mathlib.Core.Logic.{◌⊎◌, inl, inr, ⊎_elim}
use mathlib.Core.Bool.{Bool, true, false}
use mathlib.Core.List.{List}
use native.Mathlib.Omega.{arith}
use lib.Dec.{ltb}
use borrow.Author.Tests.{ltb-true, ltb-false}
use Rattle.diagram.specs.Diagram.{var_of, size, vars}
use Rattle.diagram.specs.Reading.{pass}
use Rattle.diagram.proofs.Reading.{Layered, layered, root_in, pass_tests, pass_skips, child_above, pass_in, at_level, var_most}
use Rattle.diagram.proofs.Tests.{by_test, and_both, both_and, not_both}
use Rattle.pairs.specs.Pairs.{Pair, level_of, next, ended, roots}
use Rattle.pairs.specs.Table.{Alike}

-- one side: it stands at a larger variable afterwards
side_above : (w : List ℕ) (v n : ℕ) → Layered w v n → (i p : ℕ) (bit : Bool) → p < n → i ≤ var_of w p → i < v → i < var_of w (pass w i p bit)
side_above w v n g i p bit h l m = ⊎_elim
    (λ t.
    let up = child_above w v n p (g.node p t.0 h) bit in
    let here = t.1 in
    rw (pass_tests w i p bit t.0 t.1) (omega arith))
    (λ s. rw (pass_skips w i p bit s) s)
    (at_level w v n g i p h l m)

-- both nodes are terminals, or one isn't
pub ended_told : (x : Pair) → ended x ≡ true → (x.first < 2) × (x.second < 2)
ended_told x e =
    let b = and_both (ltb x.first 2) (ltb x.second 2) e in
    (ltb-true x.first 2 b.0, ltb-true x.second 2 b.1)

pub going : (x : Pair) → ended x ≡ false → (2 ≤ x.first) ⊎ (2 ≤ x.second)
going x e = by_test (ltb x.first 2)
    (λ t. by_test (ltb x.second 2)
    (λ u. absurd (not_both (ended x) (both_and (ltb x.first 2) (ltb x.second 2) t u) e))
    (λ u. inr (ltb-false x.second 2 u)))
    (λ t. inl (ltb-false x.first 2 t))

pub goes : (x : Pair) → (2 ≤ x.first) ⊎ (2 ≤ x.second) → ended x ≡ false
goes x o = by_test (ended x)
    (λ e. let t = ended_told x e in absurd (⊎_elim (λ l. let less = t.0 in omega arith) (λ l. let less = t.1 in omega arith) o))
    (λ e. e)

-- a pair of two nodes
pub record Inside (a b : List ℕ) (x : Pair) : Type 0 where
  pub first : x.first < size a
  pub second : x.second < size b

module _ (a b : List ℕ) (alike : Alike a b) where
  pub layers_first : Layered a (vars a) (size a)
  layers_first = layered a alike.first

  pub layers_second : Layered b (vars a) (size b)
  layers_second = rw alike.variables (layered b alike.second)

  pub roots_in : Inside a b (roots a b)
  roots_in = record { first = root_in a alike.first; second = root_in b alike.second }

  module _ (x : Pair) (h : Inside a b x) where
    pub level_most : level_of a b x ≤ vars a
    level_most = let m = var_most a (vars a) (size a) layers_first x.first h.first in omega arith

    pub level_below : ended x ≡ false → level_of a b x < vars a
    level_below e = ⊎_elim
        (λ two. let l = (layers_first.node x.first two h.first).var in omega arith)
        (λ two. let l = (layers_second.node x.second two h.second).var in omega arith)
        (going x e)

    -- two terminals stand at the end
    pub level_end : ended x ≡ true → level_of a b x ≡ vars a
    level_end e =
        let t = ended_told x e in
        let p = layers_first.terminal x.first t.0 h.first in
        let q = layers_second.terminal x.second t.1 h.second in
        omega arith

    pub next_in_lem : (bit : Bool) → Inside a b (next a b x bit)
    next_in_lem bit = record {
      first = pass_in a (vars a) (size a) layers_first (level_of a b x) x.first bit h.first;
      second = pass_in b (vars a) (size b) layers_second (level_of a b x) x.second bit h.second;
    }

    pub next_above : ended x ≡ false → (bit : Bool) → level_of a b x < level_of a b (next a b x bit)
    next_above e bit =
        let below = level_below e in
        let p = side_above a (vars a) (size a) layers_first (level_of a b x) x.first bit h.first (omega arith) below in
        let q = side_above b (vars a) (size b) layers_second (level_of a b x) x.second bit h.second (omega arith) below in
        omega arith
