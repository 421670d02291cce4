-- What a yes of `is_clause` means, and on a reduced array a no: the array stands for one conjunction of literals. With what
-- proofs/Singletons.antt says of `is_valuation`, all of specs/Clauses.antt.
use Prim.Native.Nat.{ℕ, zero, suc, ◌+◌, ◌-◌, ◌≤◌, ◌<◌}
use mathlib.Core.Path.{◌≡◌, refl, sym, ap, ◌∙◌, subst}
use mathlib.Core.Logic.{⊎_elim}
use mathlib.Core.Bool.{Bool, true, false, cond, ◌&&◌}
use mathlib.Core.List.{List, [], ◌∷◌, map}
use native.Mathlib.Omega.{arith}
use lib.ListN.{length, length-map}
use lib.Dec.{eqb}
use borrow.Author.Tests.{eqb-true, eq-eqb}
use Rattle.diagram.specs.Diagram.{var_of, low_of, high_of, size, vars, root, holds, Ordered}
use Rattle.diagram.specs.Reading.{pass, eval}
use Rattle.diagram.proofs.Tests.{by-eq, not_both}
use Rattle.diagram.proofs.Reading.{layered, root_in, by_two, at_end, at_level, var_most, pass_tests, pass_skips, eval_nil, eval_cons, eval_ends, holds_is_eval}
use Rattle.reduction.specs.Reduce.{reduce}
use Rattle.reduction.specs.Demand3.{Lean, Distinct}
use Rattle.reduction.proofs.Canonical.{demand3}
use Rattle.queries.specs.Queries.{only_child, along, is_clause, is_valuation}
use Rattle.queries.specs.Clauses.{Literal, one, nought, either, agrees, conjunction, Clause, Clauses}
use Rattle.queries.proofs.SoleWalk.{only_low, only_high, only_none, only_in, along_start, along_ended, along_node, along_stays, along_inside}
use Rattle.queries.proofs.Singletons.{valuation_count, count_valuation}

-- ---- a conjunction holds for some valuation

choice : Literal → Bool
choice one = true
choice nought = false
choice either = false

chosen : (l : Literal) → agrees l (choice l) ≡ true
unfolding agrees choice
chosen one = refl
chosen nought = refl
chosen either = refl

con_cons : (l : Literal) (ls : List Literal) (b : Bool) (bs : List Bool) → conjunction (l ∷ ls) (b ∷ bs) ≡ (agrees l b && conjunction ls bs)
unfolding conjunction
con_cons l ls b bs = refl

con_chosen : (l : Literal) (ls : List Literal) (bs : List Bool) → conjunction (l ∷ ls) (choice l ∷ bs) ≡ conjunction ls bs
con_chosen l ls bs = con_cons l ls (choice l) bs ∙ rw (chosen l) refl

witness : (ls : List Literal) → conjunction ls (map choice ls) ≡ true
unfolding conjunction
witness [] = refl
witness (l ∷ ls) = con_chosen l ls (map choice ls) ∙ witness ls

-- lists with a first bit
first_bit : (P : List Bool → Type 0) {n : ℕ} → ((b : Bool) (bs : List Bool) → length bs ≡ n → P (b ∷ bs)) → (bs : List Bool) → length bs ≡ suc n → P bs
first_bit P f [] l = absurd (omega arith)
first_bit P f (b ∷ bs) l = f b bs (omega arith)

module _ (w : List ℕ) (o : Ordered w) where
  -- from variable i on, the path from p ends at node 1 where a conjunction holds
  record Cube (i p : ℕ) : Type 0 where
    literals : List Literal
    long : i + length literals ≡ vars w
    same : (bs : List Bool) → length bs ≡ length literals → eval w i p bs ≡ conjunction literals bs

  not_zero : {i : ℕ} → Cube i 0 → ⊥
  not_zero {i} c =
      let bs : List Bool = map choice c.literals in
      let e : false ≡ true = sym (eval_ends w i 0 bs (omega arith)) ∙ c.same bs (length-map c.literals choice) ∙ witness c.literals in
      not_both false e refl

  cube_one : 1 < size w → Cube (var_of w 1) 1
  unfolding conjunction
  cube_one h = record {
    literals = [];
    long = omega (arith, (layered w o).terminal 1 (omega arith) h);
    same = λ bs l. eval_ends w (var_of w 1) 1 bs (omega arith);
  }

  -- ---- past a variable that p doesn't test

  cube_skip : {i p : ℕ} → i < var_of w p → Cube (suc i) p → Cube i p
  unfolding agrees
  cube_skip {i} {p} h c = record {
    literals = either ∷ c.literals;
    long = omega (arith, c.long);
    same = first_bit (λ bs. eval w i p bs ≡ conjunction (either ∷ c.literals) bs)
        (λ b bs l.
        eval_cons w i p b bs ∙ ap (λ (q : ℕ). eval w (suc i) q bs) (pass_skips w i p b h) ∙ c.same bs l
        ∙ sym (con_cons either c.literals b bs));
  }

  cube_drop : {i p : ℕ} → i < var_of w p → var_of w p ≤ vars w → Cube i p → Cube (suc i) p
  cube_drop {i} {p} h m c = from c.literals c.long c.same
    where
      from : (ls : List Literal) → i + length ls ≡ vars w → ((bs : List Bool) → length bs ≡ length ls → eval w i p bs ≡ conjunction ls bs) → Cube (suc i) p
      from [] l s = absurd (omega arith)
      from (x ∷ ls) l s = record {
        literals = ls;
        long = omega arith;
        same = λ bs k.
            ap (λ (q : ℕ). eval w (suc i) q bs) (sym (pass_skips w i p (choice x) h)) ∙ sym (eval_cons w i p (choice x) bs)
            ∙ s (choice x ∷ bs) (ap suc k) ∙ con_chosen x ls bs;
      }

  cube_up : (j i p : ℕ) → i + j ≡ var_of w p → Cube (var_of w p) p → Cube i p
  cube_up zero i p e c = let x : var_of w p ≡ i = omega arith in subst (λ (k : ℕ). Cube k p) x c
  cube_up (suc j) i p e c = cube_skip (omega arith) (cube_up j (suc i) p (omega arith) c)

  cube_down : (j i p : ℕ) → i + j ≡ var_of w p → p < size w → Cube i p → Cube (var_of w p) p
  cube_down zero i p e h c = let x : i ≡ var_of w p = omega arith in subst (λ (k : ℕ). Cube k p) x c
  cube_down (suc j) i p e h c =
      cube_down j (suc i) p (omega arith) h (cube_drop (omega arith) (var_most w (vars w) (size w) (layered w o) p h) c)

  -- ---- at a node

  module _ (p : ℕ) (two : 2 ≤ p) where
    -- the path goes on at a child
    below : (b : Bool) (bs : List Bool) → eval w (var_of w p) p (b ∷ bs) ≡ eval w (suc (var_of w p)) (cond b (high_of w p) (low_of w p)) bs
    below b bs = eval_cons w (var_of w p) p b bs ∙ ap (λ (q : ℕ). eval w (suc (var_of w p)) q bs) (pass_tests w (var_of w p) p b two refl)

    dead : (q : ℕ) → q ≡ 0 → (bs : List Bool) → eval w (suc (var_of w p)) q bs ≡ false
    dead q e bs = ap (λ (x : ℕ). eval w (suc (var_of w p)) x bs) e ∙ eval_ends w (suc (var_of w p)) 0 bs (omega arith)

    cube_of : (l : Literal) (q : ℕ) → (c : Cube (suc (var_of w p)) q)
        → ((b : Bool) (bs : List Bool) → length bs ≡ length c.literals → eval w (var_of w p) p (b ∷ bs) ≡ (agrees l b && conjunction c.literals bs))
        → Cube (var_of w p) p
    cube_of l q c f = record {
      literals = l ∷ c.literals;
      long = omega (arith, c.long);
      same = first_bit (λ bs. eval w (var_of w p) p bs ≡ conjunction (l ∷ c.literals) bs) (λ b bs k. f b bs k ∙ sym (con_cons l c.literals b bs));
    }

    by_high_link : low_of w p ≡ 0 → Cube (suc (var_of w p)) (high_of w p) → Cube (var_of w p) p
    unfolding agrees
    by_high_link z c = cube_of one (high_of w p) c bits
      where
        bits : (b : Bool) (bs : List Bool) → length bs ≡ length c.literals → eval w (var_of w p) p (b ∷ bs) ≡ (agrees one b && conjunction c.literals bs)
        bits true bs k = below true bs ∙ c.same bs k
        bits false bs k = below false bs ∙ dead (low_of w p) z bs

    by_low_link : high_of w p ≡ 0 → Cube (suc (var_of w p)) (low_of w p) → Cube (var_of w p) p
    unfolding agrees
    by_low_link z c = cube_of nought (low_of w p) c bits
      where
        bits : (b : Bool) (bs : List Bool) → length bs ≡ length c.literals → eval w (var_of w p) p (b ∷ bs) ≡ (agrees nought b && conjunction c.literals bs)
        bits true bs k = below true bs ∙ dead (high_of w p) z bs
        bits false bs k = below false bs ∙ c.same bs k

    cube_node : Cube (suc (var_of w p)) (only_child w p) → Cube (var_of w p) p
    cube_node c = by-eq (low_of w p) 0
        (λ z. by_high_link z (rw (only_low w p z) at c))
        (λ n. by-eq (high_of w p) 0
        (λ z. by_low_link z (rw (only_high w p n z) at c))
        (λ m. absurd (not_zero (rw (only_none w p n m) at c))))

  -- ---- a yes

  cube_along : along w (vars w) ≡ 1 → (j k : ℕ) → k + j ≡ vars w → Cube (var_of w (along w k)) (along w k)
  cube_along e zero k l =
      let x : k ≡ vars w = omega arith in
      let end : along w k ≡ 1 = ap (along w) x ∙ e in
      rw end (cube_one (let h = along_inside w o k in omega arith))
  cube_along e (suc j) k l = by_two (along w k)
      (λ t.
      let end : along w k ≡ 1 = sym (along_stays w (suc j) k t) ∙ ap (along w) l ∙ e in
      rw end (cube_one (let h = along_inside w o k in omega arith)))
      (λ two.
      let n = only_in w o (along w k) two (along_inside w o k) in
      let c = rw (along_node w k two) at (cube_along e j (suc k) (omega arith)) in
      cube_node (along w k) two
      (cube_up (var_of w (only_child w (along w k)) - suc (var_of w (along w k))) (suc (var_of w (along w k))) (only_child w (along w k)) (omega (arith, n.1)) c))

  pub clause_right : is_clause w ≡ true → Clause w
  clause_right e =
      let c = rw (along_start w) at (cube_along (eqb-true (along w (vars w)) 1 e) (vars w) 0 (omega arith)) in
      let all = cube_up (var_of w (root w)) 0 (root w) (omega arith) c in
      record {
        literals = all.literals;
        each = omega (arith, all.long);
        same = λ bs l. holds_is_eval w o bs l ∙ all.same bs (omega (arith, all.long));
      }

  -- ---- on a reduced array

  ends_same : (p q : ℕ) → p < 2 → q < 2 → eqb p 1 ≡ eqb q 1 → p ≡ q
  ends_same p q s t e = by-eq p 1
      (λ x. x ∙ sym (eqb-true q 1 (sym e ∙ eq-eqb p 1 x)))
      (λ n. by-eq q 1 (λ x. absurd (n (eqb-true p 1 (e ∙ eq-eqb q 1 x)))) (λ m. omega arith))

  module _ (lean : Lean w) (distinct : Distinct w) where
    -- two nodes that stand for one function from variable i on are one node
    abbrev Alike : ℕ → ℕ → ℕ → ℕ → Type 0
    Alike j i p q = (bs : List Bool) → length bs ≡ j → eval w i p bs ≡ eval w i q bs

    abbrev Once : ℕ → ℕ → Type 0
    Once j i = (p q : ℕ) → p < size w → q < size w → i ≤ var_of w p → i ≤ var_of w q → Alike j i p q → p ≡ q

    module _ (j i : ℕ) (later : Once j (suc i)) where
      tested : (p : ℕ) → 2 ≤ p → var_of w p ≡ i → (b : Bool) (bs : List Bool) → eval w i p (b ∷ bs) ≡ eval w (suc i) (cond b (high_of w p) (low_of w p)) bs
      tested p two e b bs = eval_cons w i p b bs ∙ ap (λ (q : ℕ). eval w (suc i) q bs) (pass_tests w i p b two e)

      passed : (p : ℕ) → i < var_of w p → (b : Bool) (bs : List Bool) → eval w i p (b ∷ bs) ≡ eval w (suc i) p bs
      passed p h b bs = eval_cons w i p b bs ∙ ap (λ (q : ℕ). eval w (suc i) q bs) (pass_skips w i p b h)

      module _ (p q : ℕ) (hp : p < size w) (hq : q < size w) (s : Alike (suc j) i p q) where
        both_test : 2 ≤ p → var_of w p ≡ i → 2 ≤ q → var_of w q ≡ i → p ≡ q
        both_test two-p at_p two-q at-q =
            let f = (layered w o).node p two-p hp in
            let g = (layered w o).node q two-q hq in
            distinct p q hp hq (at_p ∙ sym at-q)
            (later (low_of w p) (low_of w q) f.low g.low (omega (arith, f.above_low)) (omega (arith, g.above_low))
            (λ bs k. sym (tested p two-p at_p false bs) ∙ s (false ∷ bs) (ap suc k) ∙ tested q two-q at-q false bs))
            (later (high_of w p) (high_of w q) f.high g.high (omega (arith, f.above_high)) (omega (arith, g.above_high))
            (λ bs k. sym (tested p two-p at_p true bs) ∙ s (true ∷ bs) (ap suc k) ∙ tested q two-q at-q true bs))

        -- both children of p would be q
        one_tests : 2 ≤ p → var_of w p ≡ i → i < var_of w q → ⊥
        one_tests two at_p up =
            let f = (layered w o).node p two hp in
            let low : low_of w p ≡ q =
            later (low_of w p) q f.low hq (omega (arith, f.above_low)) up
            (λ bs k. sym (tested p two at_p false bs) ∙ s (false ∷ bs) (ap suc k) ∙ passed q up false bs) in
            let high : high_of w p ≡ q =
            later (high_of w p) q f.high hq (omega (arith, f.above_high)) up
            (λ bs k. sym (tested p two at_p true bs) ∙ s (true ∷ bs) (ap suc k) ∙ passed q up true bs) in
            lean p two hp (low ∙ sym high)

        none_tests : i < var_of w p → i < var_of w q → p ≡ q
        none_tests up uq = later p q hp hq up uq (λ bs k. sym (passed p up false bs) ∙ s (false ∷ bs) (ap suc k) ∙ passed q uq false bs)

    once : (j i : ℕ) → i + j ≡ vars w → Once j i
    once zero i l p q hp hq up uq s =
        ends_same p q (at_end w (vars w) (size w) (layered w o) p hp (omega arith)) (at_end w (vars w) (size w) (layered w o) q hq (omega arith))
        (sym (eval_nil w i p) ∙ s [] refl ∙ eval_nil w i q)
    once (suc j) i l p q hp hq up uq s =
        let later : Once j (suc i) = once j (suc i) (omega arith) in
        let at-q = at_level w (vars w) (size w) (layered w o) i q hq uq (omega arith) in
        ⊎_elim
        (λ a. ⊎_elim (λ b. both_test j i later p q hp hq s a.0 a.1 b.0 b.1) (λ b. absurd (one_tests j i later p q hp hq s a.0 a.1 b)) at-q)
        (λ a. ⊎_elim (λ b. absurd (one_tests j i later q p hq hp (λ bs k. sym (s bs k)) b.0 b.1 a)) (λ b. none_tests j i later p q hp hq s a b) at-q)
        (at_level w (vars w) (size w) (layered w o) i p hp up (omega arith))

    -- a node of the walk has a literal, and its only child the others
    module _ (p : ℕ) (two : 2 ≤ p) (h : p < size w) where
      abbrev left : ℕ
      left = vars w - suc (var_of w p)

      one_child : (q r : ℕ) → q < size w → r < size w → var_of w p < var_of w q → var_of w p < var_of w r → Alike left (suc (var_of w p)) q r → q ≡ r
      one_child q r = once left (suc (var_of w p)) (let v = ((layered w o).node p two h).var in omega arith) q r

      cube_child : (ls : List Literal) → var_of w p + length ls ≡ vars w → ((bs : List Bool) → length bs ≡ length ls → eval w (var_of w p) p bs ≡ conjunction ls bs)
          → Cube (suc (var_of w p)) (only_child w p)
      unfolding agrees
      cube_child [] l s = absurd (let v = ((layered w o).node p two h).var in omega arith)
      cube_child (one ∷ ls) l s =
          let f = (layered w o).node p two h in
          let low : low_of w p ≡ 0 =
          one_child (low_of w p) 0 f.low o.formed.some f.above_low f.var
          (λ bs k. sym (below p two false bs) ∙ s (false ∷ bs) (omega arith) ∙ con_cons one ls false bs ∙ sym (dead p two 0 refl bs)) in
          rw (only_low w p low) (record {
            literals = ls;
            long = omega arith;
            same = λ bs k. sym (below p two true bs) ∙ s (true ∷ bs) (ap suc k) ∙ con_cons one ls true bs;
          })
      cube_child (nought ∷ ls) l s =
          let f = (layered w o).node p two h in
          let high : high_of w p ≡ 0 =
          one_child (high_of w p) 0 f.high o.formed.some f.above_high f.var
          (λ bs k. sym (below p two true bs) ∙ s (true ∷ bs) (omega arith) ∙ con_cons nought ls true bs ∙ sym (dead p two 0 refl bs)) in
          rw (only_high w p (λ z. lean p two h (z ∙ sym high)) high) (record {
            literals = ls;
            long = omega arith;
            same = λ bs k. sym (below p two false bs) ∙ s (false ∷ bs) (ap suc k) ∙ con_cons nought ls false bs;
          })
      cube_child (either ∷ ls) l s =
          let f = (layered w o).node p two h in
          absurd (lean p two h (one_child (low_of w p) (high_of w p) f.low f.high f.above_low f.above_high
          (λ bs k.
          sym (below p two false bs) ∙ s (false ∷ bs) (omega arith) ∙ con_cons either ls false bs
          ∙ sym (con_cons either ls true bs) ∙ sym (s (true ∷ bs) (omega arith)) ∙ below p two true bs)))

    record On (k p : ℕ) : Type 0 where
      inside : p < size w
      passed_by : k ≤ var_of w p
      cube : Cube (var_of w p) p

    on_child : {k p : ℕ} → On k p → 2 ≤ p → On (suc k) (only_child w p)
    on_child {k} {p} a two =
        let n = only_in w o p two a.inside in
        record {
          inside = n.0;
          passed_by = omega (arith, n.1, a.passed_by);
          cube = cube_down (var_of w (only_child w p) - suc (var_of w p)) (suc (var_of w p)) (only_child w p) (omega (arith, n.1)) n.0
              (cube_child p two a.inside a.cube.literals a.cube.long a.cube.same);
        }

    on_end : {k p : ℕ} → On k p → p < 2 → suc k ≤ vars w → On (suc k) p
    on_end {k} {p} a t l = record { inside = a.inside; passed_by = omega (arith, (layered w o).terminal p t a.inside); cube = a.cube }

    on_along : Clause w → (k : ℕ) → k ≤ vars w → On k (along w k)
    on_along c zero l = rw (along_start w) (record {
      inside = root_in w o;
      passed_by = omega arith;
      cube = cube_down (var_of w (root w)) 0 (root w) (omega arith) (root_in w o)
          (record { literals = c.literals; long = omega (arith, c.each); same = λ bs k. sym (holds_is_eval w o bs (k ∙ c.each)) ∙ c.same bs (k ∙ c.each) });
    })
    on_along c (suc k) l = by_two (along w k)
        (λ t. rw (along_ended w k t) (on_end (on_along c k (omega arith)) t l))
        (λ two. rw (along_node w k two) (on_child (on_along c k (omega arith)) two))

    pub clause_found : Clause w → is_clause w ≡ true
    clause_found c =
        let a = on_along c (vars w) (omega arith) in
        let t = at_end w (vars w) (size w) (layered w o) (along w (vars w)) a.inside a.passed_by in
        let end : along w (vars w) ≡ 1 = by-eq (along w (vars w)) 0 (λ z. absurd (not_zero (rw z at a.cube))) (λ ne. omega arith) in
        eq-eqb (along w (vars w)) 1 end

-- ---- on an array that reducing leaves as it is

module _ (w : List ℕ) (o : Ordered w) (r : reduce w ≡ w) where
  is_lean : Lean w
  is_lean = subst Lean r (demand3.lean w o)

  is_distinct : Distinct w
  is_distinct = subst Distinct r (demand3.distinct w o)

pub clauses : Clauses
clauses = record {
  clause_yes = clause_right;
  valuation_yes = valuation_count;
  clause_no = λ w o r e c. not_both (is_clause w) (clause_found w o (is_lean w o r) (is_distinct w o r) c) e;
  valuation_no = λ w o r e c. not_both (is_valuation w) (count_valuation w o (is_lean w o r) c) e;
}
