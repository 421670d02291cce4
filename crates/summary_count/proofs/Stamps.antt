-- The walk from a slot's root: at a terminal, at a marked node, and at a node whose children have been walked.
use Prim.Native.Nat.{ℕ, ◌+◌, ◌≤◌, ◌<◌}
use mathlib.Core.Path.{◌≡◌, refl, sym, ap, ◌∙◌, subst}
use mathlib.Core.Logic.{⊎_elim, ◌≢◌}
use mathlib.Core.Bool.{Bool, true, false, cond, ◌||◌}
use mathlib.Core.List.{List}
use native.Mathlib.Omega.{arith}
use lib.ListN.{length, get_or, set, length-set}
use lib.Seq.{get_or-set_same, get_or-set_other}
use borrow.Author.Tests.{eq-eqb, ne_eqb}
use Rattle.diagram.specs.Limits.{max_nodes}
use Rattle.diagram.specs.Diagram.{var_of, low_of, high_of, vars}
use Rattle.diagram.proofs.Tests.{by-eq, cond-true, cond-false}
use Rattle.pool.specs.Pool.{WellFormed, Inner}
use Rattle.summary.specs.Summary.{comes_to}
use Rattle.summary.proofs.Counting.{comes_end, comes_node, low_place, high_place}
use Rattle.summary_count.specs.Walking.{marks, mark_of, Place, Stamping, Stamped}

module _ (t work : List ℕ) (number p : ℕ) (s : Stamping t work number p) where
  -- No way leads on from a terminal.
  pub at_end : p < 2 → Stamped t work number p work
  at_end ends = record {
    long = refl;
    settled = s.settled;
    few = s.few;
    stamps = λ i h. sym (cond-false (comes_to t i (vars t) p) number (get_or work i 0) (comes_end t i (vars t) p ends));
  }

  at_node : 2 ≤ p → Inner t p
  at_node two = ⊎_elim (λ ends. absurd (omega arith)) (λ i. i) s.place

  module _ (node : Inner t p) where
    formed : WellFormed t s.slots
    formed = s.pool

    to_low : Stamping t work number (low_of t p)
    to_low = record {
      slots = s.slots;
      pool = s.pool;
      place = low_place t s.slots formed p node;
      long = s.long;
      settled = s.settled;
      few = s.few;
    }

    module _ {work₁ : List ℕ} (low : Stamped t work number (low_of t p) work₁) where
      to_high : Stamping t work₁ number (high_of t p)
      to_high = record {
        slots = s.slots;
        pool = s.pool;
        place = high_place t s.slots formed p node;
        long = low.long ∙ s.long;
        settled = low.settled;
        few = low.few;
      }

      module _ {work₂ : List ℕ} (high : Stamped t work₁ number (high_of t p) work₂) where
        abbrev var : ℕ
        var = var_of t p

        abbrev stamped : List ℕ
        stamped = set work₂ var number

        abbrev marked : List ℕ
        marked = set stamped (marks + p) number

        var_below : var < vars t
        var_below = (formed.ranges p node).var

        vars_few : vars t ≤ marks
        vars_few = formed.variables

        long₂ : length work₂ ≡ marks + max_nodes
        long₂ = high.long ∙ low.long ∙ s.long

        long₃ : length stamped ≡ marks + max_nodes
        long₃ = length-set work₂ var number ∙ long₂

        mark_inside : marks + p < length stamped
        mark_inside = let e = long₃ in let a = node.inside in let b = formed.few in omega arith

        -- Below the marks, only the node's own variable has changed.
        at_var : get_or marked var 0 ≡ number
        at_var =
            let few = vars_few in
            let below = var_below in
            let e = long₂ in
            get_or-set_other stamped (marks + p) var number 0 (λ same. absurd (omega arith))
            ∙ get_or-set_same work₂ var number 0 (omega arith)

        at_other : (i : ℕ) → i < vars t → i ≢ var → get_or marked i 0 ≡ get_or work₂ i 0
        at_other i h other =
            let few = vars_few in
            get_or-set_other stamped (marks + p) i number 0 (λ same. absurd (omega arith)) ∙ get_or-set_other work₂ var i number 0 other

        kept : (i : ℕ) → i < vars t → get_or work₂ i 0 ≡ number → get_or marked i 0 ≡ number
        kept i h e = by-eq i var (λ same. ap (λ (j : ℕ). get_or marked j 0) same ∙ at_var) (λ other. at_other i h other ∙ e)

        -- Stamped by low, by high, or by both.
        either : (b c : Bool) (x : ℕ) → cond c number (cond b number x) ≡ cond (b || c) number x
        either true true x = refl
        either true false x = refl
        either false true x = refl
        either false false x = refl

        comes : (i : ℕ) → Bool
        comes i = comes_to t i (vars t) (low_of t p) || comes_to t i (vars t) (high_of t p)

        stamps_it : (i : ℕ) → i < vars t → get_or marked i 0 ≡ cond (comes_to t i (vars t) p) number (get_or work i 0)
        unfolding comes
        stamps_it i h = by-eq i var
            (λ same.
            ap (λ (j : ℕ). get_or marked j 0) same ∙ at_var
            ∙ sym (cond-true (comes_to t i (vars t) p) number (get_or work i 0)
            (comes_node t s.slots formed i p node ∙ ap (λ (b : Bool). b || comes i) (eq-eqb var i (sym same)))))
            (λ other.
            at_other i h other ∙ high.stamps i h
            ∙ ap (cond (comes_to t i (vars t) (high_of t p)) number) (low.stamps i h)
            ∙ either (comes_to t i (vars t) (low_of t p)) (comes_to t i (vars t) (high_of t p)) (get_or work i 0)
            ∙ ap (λ (b : Bool). cond b number (get_or work i 0))
            (sym (comes_node t s.slots formed i p node ∙ ap (λ (b : Bool). b || comes i) (ne_eqb var i (λ e. other (sym e))))))

        settled_it : (q i : ℕ) → Place t q → 2 ≤ q → mark_of marked q ≡ number → i < vars t → comes_to t i (vars t) q ≡ true → get_or marked i 0 ≡ number
        settled_it q i place two is h on = by-eq q p
            (λ same.
            stamps_it i h
            ∙ cond-true (comes_to t i (vars t) p) number (get_or work i 0) (ap (comes_to t i (vars t)) (sym same) ∙ on))
            (λ other.
            let few = vars_few in
            let below = var_below in
            kept i h (high.settled q i place two
            (sym (get_or-set_other stamped (marks + p) (marks + q) number 0 (λ same. other (omega arith))
            ∙ get_or-set_other work₂ var (marks + q) number 0 (λ same. absurd (omega arith))) ∙ is) h on))

        few_it : (j : ℕ) → get_or marked j 0 ≤ number
        few_it j = by-eq j (marks + p)
            (λ same. let e = ap (λ (x : ℕ). get_or marked x 0) same ∙ get_or-set_same stamped (marks + p) number 0 mark_inside in omega arith)
            (λ other. by-eq j var
            (λ same. let e = ap (λ (x : ℕ). get_or marked x 0) same ∙ at_var in omega arith)
            (λ another.
            let e = get_or-set_other stamped (marks + p) j number 0 other ∙ get_or-set_other work₂ var j number 0 another in
            let f = high.few j in
            omega arith))

        at_both : Stamped t work number p marked
        at_both = record {
          long = length-set stamped (marks + p) number ∙ long₃ ∙ sym s.long;
          settled = settled_it;
          few = few_it;
          stamps = stamps_it;
        }

-- ---- the same with the words that the code has read

module _ {t work : List ℕ} {number p : ℕ} (s : Stamping t work number p) where
  pub walk_end : p < 2 → Stamped t work number p work
  walk_end = at_end t work number p s

  pub walk_near : p < max_nodes
  walk_near =
      let few = s.pool.few in
      ⊎_elim (λ ends. let two = s.pool.two in omega arith) (λ i. let h = i.inside in omega arith) s.place

  module _ (two : 2 ≤ p) where
    node_there : Inner t p
    node_there = at_node t work number p s two

    pub walk_var : var_of t p < vars t
    walk_var = (s.pool.ranges p node_there).var

    module _ {l : ℕ} (is-low : l ≡ low_of t p) where
      pub walk_low : Stamping t work number l
      walk_low = subst (λ (q : ℕ). Stamping t work number q) (sym is-low) (to_low t work number p s node_there)

      module _ {work₁ : List ℕ} (low : Stamped t work number l work₁) {h : ℕ} (is-high : h ≡ high_of t p) where
        low_done : Stamped t work number (low_of t p) work₁
        low_done = subst (λ (q : ℕ). Stamped t work number q work₁) is-low low

        pub walk_high : Stamping t work₁ number h
        walk_high = subst (λ (q : ℕ). Stamping t work₁ number q) (sym is-high) (to_high t work number p s node_there low_done)

        pub walk_done : {work₂ work₃ work₄ : List ℕ} → Stamped t work₁ number h work₂ → {var at : ℕ} → var ≡ var_of t p → at ≡ p
            → work₃ ≡ set work₂ var number → work₄ ≡ set work₃ (marks + at) number → Stamped t work number p work₄
        walk_done {work₂} {work₃} {work₄} high {var} {at} is-var is-p e₃ e₄ =
            subst (λ (l : List ℕ). Stamped t work number p l)
            (sym (e₄ ∙ ap (λ (q : ℕ). set work₃ (marks + q) number) is-p
            ∙ ap (λ (l : List ℕ). set l (marks + p) number) (e₃ ∙ ap (λ (i : ℕ). set work₂ i number) is-var)))
            (at_both t work number p s node_there low_done (subst (λ (q : ℕ). Stamped t work₁ number q work₂) is-high high))
