-- What the verdict means in document 01's words: accepted exactly where the words are a diagram that it accepts, and
-- 11, 17 and 12 at the smallest node, in terms of `Reach`.
use Prim.Native.Nat.{ℕ, ◌-◌, ◌%◌, ◌≤◌, ◌<◌}
use mathlib.Core.Path.{◌≡◌, refl, sym, ◌∙◌, ap}
use mathlib.Core.Bool.{Bool, true, false, not, ◌&&◌}
use mathlib.Core.List.{List}
use mathlib.Core.Logic.{◌↔◌}
use native.Mathlib.Omega.{arith}
use borrow.Author.Tests.{ltb-true, ltb-false, lt-ltb, le-ltb, eq-eqb, ne_eqb, not-true, not-false}
use lib.ListN.{length}
use lib.Dec.{ltb, eqb}
use Rattle.diagram.specs.Limits.{max_nodes, max_variables}
use Rattle.diagram.specs.Diagram.{var_of, low_of, high_of, size, vars, root, Reach, Terminal, Above, Formed, Accepted}
use Rattle.diagram.specs.Verdict.{Outcome, accepted, refused, row, and_then, room_of, short, lengths_of, is_terminal, terminals_of, first_node, ranges_of, reaches, is_above_low, is_above_high, is_above, is_broken, graph_of, contents_of, verdict_of}
use Rattle.diagram.specs.Demand1.{Smallest, Broken, ByLow, ByHighAlone, NoneBroken, Lost}
use Rattle.diagram.specs.Faults.{fault_of, is_faulty}
use Rattle.diagram.specs.declared.verdict.Output.{Output}
use Rattle.diagram.proofs.Tests.{by_test, not_both, and_both, both_and}
use Rattle.diagram.proofs.Count.{first_from, first_least, first_passes, first_is}
use Rattle.diagram.proofs.Faulty.{ranges_by}
use Rattle.diagram.proofs.Rows.{fault_none}
use Rattle.diagram.proofs.Reaching.{reaches_sound, reaches_complete}
use Rattle.diagram.proofs.Accepting.{lengths_accepted, lent_accepted, terminals_accepted, ranges_accepted}

-- `is_above` says `Above`
pub above_told : (w : List ℕ) (p : ℕ) → is_above w p ≡ true → Above w p
unfolding is_above
above_told w p e =
    let b = and_both (ltb (var_of w p) (var_of w (low_of w p))) (ltb (var_of w p) (var_of w (high_of w p))) e in
    record { low = ltb-true (var_of w p) (var_of w (low_of w p)) b.0; high = ltb-true (var_of w p) (var_of w (high_of w p)) b.1 }

pub above_tells : (w : List ℕ) (p : ℕ) → Above w p → is_above w p ≡ true
unfolding is_above
above_tells w p a =
    both_and (ltb (var_of w p) (var_of w (low_of w p))) (ltb (var_of w p) (var_of w (high_of w p)))
    (lt-ltb (var_of w p) (var_of w (low_of w p)) a.low) (lt-ltb (var_of w p) (var_of w (high_of w p)) a.high)

module _ (w : List ℕ) (formed : Formed w) where
  reach_test : (p : ℕ) → reaches w p ≡ false → Reach w (root w) p → ⊥
  reach_test p e r = not_both (reaches w p) (reaches_complete w formed p r) e

  broken_told : (p : ℕ) → is_broken w p ≡ true → Broken w p
  unfolding is_broken
  broken_told p e =
      let b = and_both (reaches w p) (not (is_above w p)) e in
      (reaches_sound w p b.0, λ a. not_both (is_above w p) (above_tells w p a) (not-true (is_above w p) b.1))

  broken_tells : (p : ℕ) → is_broken w p ≡ false → Broken w p → ⊥
  unfolding is_broken
  broken_tells p e b =
      by_test (is_above w p)
      (λ t. b.1 (above_told w p t))
      (λ f. not_both (reaches w p && not (is_above w p)) (both_and (reaches w p) (not (is_above w p)) (reaches_complete w formed p b.0) (ap not f)) e)

  lost_told : (p : ℕ) → not (reaches w p) ≡ true → Lost w p
  lost_told p e = reach_test p (not-true (reaches w p) e)

  lost_tells : (p : ℕ) → not (reaches w p) ≡ false → Lost w p → ⊥
  lost_tells p e l = l (reaches_sound w p (not-false (reaches w p) e))

  -- the first node that passes a test is the smallest with the property that the test tells
  module _ (P : ℕ → Type 0) (t : ℕ → Bool) (told : (p : ℕ) → t p ≡ true → P p) (tells : (p : ℕ) → t p ≡ false → P p → ⊥) where
    smallest_of : first_node w t < size w → Smallest w P (first_node w t)
    smallest_of l =
        let f = first_from t 2 (size w - 2) in
        record {
          node = (f.0, l);
          holds = told (first_node w t) (first_passes t 2 (size w - 2) (omega (arith, f.0)));
          least = λ q two m. tells q (first_least t 2 (size w - 2) q two m);
        }

    smallest_is : (p : ℕ) → Smallest w P p → first_node w t ≡ p
    smallest_is p s =
        first_is t 2 (size w - 2) p s.node.0 (omega (arith, s.node.0, s.node.1))
        (λ q two m. by_test (t q) (λ e. absurd (s.least q two m (told q e))) (λ e. e))
        (λ l. by_test (t p) (λ e. e) (λ e. absurd (tells p e s.holds)))

    none_of : size w ≤ first_node w t → (p : ℕ) → 2 ≤ p → p < size w → P p → ⊥
    none_of l p two m = tells p (first_least t 2 (size w - 2) p two (omega arith))

    none_is : ((p : ℕ) → 2 ≤ p → p < size w → P p → ⊥) → size w ≤ first_node w t
    none_is h =
        by_test (ltb (first_node w t) (size w))
        (λ e. let s = smallest_of (ltb-true (first_node w t) (size w) e) in absurd (h (first_node w t) s.node.0 s.node.1 s.holds))
        (λ e. ltb-false (first_node w t) (size w) e)

  broken_at : ℕ
  broken_at = first_node w (is_broken w)

  lost_at : ℕ
  lost_at = first_node w (λ p. not (reaches w p))

  graph_11 : broken_at < size w → is_above_low w broken_at ≡ false → graph_of w ≡ refused 11 broken_at
  unfolding graph_of row broken_at
  graph_11 l f = rw (lt-ltb (first_node w (is_broken w)) (size w) l, f)

  graph_17 : broken_at < size w → is_above_low w broken_at ≡ true → graph_of w ≡ refused 17 broken_at
  unfolding graph_of row broken_at
  graph_17 l t = rw (lt-ltb (first_node w (is_broken w)) (size w) l, t)

  graph_12 : size w ≤ broken_at → lost_at < size w → graph_of w ≡ refused 12 lost_at
  unfolding graph_of row broken_at lost_at
  graph_12 a l = rw (le-ltb (first_node w (is_broken w)) (size w) a, lt-ltb (first_node w (λ p. not (reaches w p))) (size w) l)

  graph_ok : size w ≤ broken_at → size w ≤ lost_at → graph_of w ≡ accepted (size w) (vars w)
  unfolding graph_of row broken_at lost_at
  graph_ok a l = rw (le-ltb (first_node w (is_broken w)) (size w) a, le-ltb (first_node w (λ p. not (reaches w p))) (size w) l)

  -- by cases, in the order of the checks
  by_graph : {C : Type 0} → (broken_at < size w → is_above_low w broken_at ≡ false → graph_of w ≡ refused 11 broken_at → C)
      → (broken_at < size w → is_above_low w broken_at ≡ true → graph_of w ≡ refused 17 broken_at → C)
      → (size w ≤ broken_at → lost_at < size w → graph_of w ≡ refused 12 lost_at → C)
      → (size w ≤ broken_at → size w ≤ lost_at → graph_of w ≡ accepted (size w) (vars w) → C) → C
  by_graph low high lost ok =
      by_test (ltb broken_at (size w))
      (λ e.
      let l = ltb-true broken_at (size w) e in
      by_test (is_above_low w broken_at)
      (λ t. high l t (graph_17 l t))
      (λ f. low l f (graph_11 l f)))
      (λ e.
      let a = ltb-false broken_at (size w) e in
      by_test (ltb lost_at (size w))
      (λ d. let l = ltb-true lost_at (size w) d in lost a l (graph_12 a l))
      (λ d. let l = ltb-false lost_at (size w) d in ok a l (graph_ok a l)))

  smallest_broken : broken_at < size w → (p : ℕ) → broken_at ≡ p → Smallest w (Broken w) p
  unfolding broken_at
  smallest_broken l p q = rw q at (smallest_of (Broken w) (is_broken w) broken_told broken_tells l)

  broken_is : (p : ℕ) → Smallest w (Broken w) p → broken_at ≡ p
  unfolding broken_at
  broken_is p s = smallest_is (Broken w) (is_broken w) broken_told broken_tells p s

  -- 11: exactly at the smallest reachable node with a child that is not at a larger variable, where its low child is such
  pub refused_11 : (p : ℕ) → (graph_of w ≡ refused 11 p) ↔ (Smallest w (Broken w) p × ByLow w p)
  refused_11 p = (there, back)
    where
      there : graph_of w ≡ refused 11 p → Smallest w (Broken w) p × ByLow w p
      there e =
          by_graph
          (λ l f x. let q : broken_at ≡ p = cc in (smallest_broken l p q, ltb-false (var_of w p) (var_of w (low_of w p)) (rw q at f)))
          (λ l t x. let z : ◌≡◌ {A = ℕ} 17 11 = cc in absurd (omega arith))
          (λ a l x. let z : ◌≡◌ {A = ℕ} 12 11 = cc in absurd (omega arith))
          (λ a l x. let z : ◌≡◌ {A = ℕ} 0 1 = cc in absurd (omega arith))

      back : Smallest w (Broken w) p × ByLow w p → graph_of w ≡ refused 11 p
      back s =
          let q = broken_is p s.0 in
          graph_11 (omega (arith, q, s.0.node.1)) (rw q (le-ltb (var_of w p) (var_of w (low_of w p)) s.1)) ∙ ap (λ (x : ℕ). refused 11 x) q

  -- 17: exactly at that node where only its high child is
  pub refused_17 : (p : ℕ) → (graph_of w ≡ refused 17 p) ↔ (Smallest w (Broken w) p × ByHighAlone w p)
  refused_17 p = (there, back)
    where
      alone : is_above_low w p ≡ true → Broken w p → ByHighAlone w p
      alone t b =
          let low = ltb-true (var_of w p) (var_of w (low_of w p)) t in
          by_test (is_above_high w p)
          (λ h. absurd (b.1 (record { low = low; high = ltb-true (var_of w p) (var_of w (high_of w p)) h })))
          (λ h. (low, ltb-false (var_of w p) (var_of w (high_of w p)) h))

      there : graph_of w ≡ refused 17 p → Smallest w (Broken w) p × ByHighAlone w p
      there e =
          by_graph
          (λ l f x. let z : ◌≡◌ {A = ℕ} 17 11 = cc in absurd (omega arith))
          (λ l t x. let q : broken_at ≡ p = cc in let s = smallest_broken l p q in (s, alone (rw q at t) s.holds))
          (λ a l x. let z : ◌≡◌ {A = ℕ} 17 12 = cc in absurd (omega arith))
          (λ a l x. let z : ◌≡◌ {A = ℕ} 0 1 = cc in absurd (omega arith))

      back : Smallest w (Broken w) p × ByHighAlone w p → graph_of w ≡ refused 17 p
      back s =
          let q = broken_is p s.0 in
          graph_17 (omega (arith, q, s.0.node.1)) (rw q (lt-ltb (var_of w p) (var_of w (low_of w p)) s.1.0)) ∙ ap (λ (x : ℕ). refused 17 x) q

  -- 12: exactly where no node is broken, at the smallest node out of reach
  pub refused_12 : (p : ℕ) → (graph_of w ≡ refused 12 p) ↔ (NoneBroken w × Smallest w (Lost w) p)
  unfolding broken_at lost_at
  refused_12 p = (there, back)
    where
      there : graph_of w ≡ refused 12 p → NoneBroken w × Smallest w (Lost w) p
      there e =
          by_graph
          (λ l f x. let z : ◌≡◌ {A = ℕ} 12 11 = cc in absurd (omega arith))
          (λ l t x. let z : ◌≡◌ {A = ℕ} 17 12 = cc in absurd (omega arith))
          (λ a l x.
          let q : lost_at ≡ p = cc in (
            none_of (Broken w) (is_broken w) broken_told broken_tells a,
            rw q at (smallest_of (Lost w) (λ p'. not (reaches w p')) lost_told lost_tells l),
          ))
          (λ a l x. let z : ◌≡◌ {A = ℕ} 0 1 = cc in absurd (omega arith))

      back : NoneBroken w × Smallest w (Lost w) p → graph_of w ≡ refused 12 p
      back s =
          let q = smallest_is (Lost w) (λ p'. not (reaches w p')) lost_told lost_tells p s.1 in
          graph_12 (none_is (Broken w) (is_broken w) broken_told broken_tells s.0) (omega (arith, q, s.1.node.1))
          ∙ ap (λ (x : ℕ). refused 12 x) q

  pub graph_accepted : (n v : ℕ) → graph_of w ≡ accepted n v → Accepted w
  unfolding broken_at lost_at
  graph_accepted n v e =
      by_graph
      (λ l f x. let z : ◌≡◌ {A = ℕ} 0 1 = cc in absurd (omega arith))
      (λ l t x. let z : ◌≡◌ {A = ℕ} 0 1 = cc in absurd (omega arith))
      (λ a l x. let z : ◌≡◌ {A = ℕ} 0 1 = cc in absurd (omega arith))
      (λ a l x.
      let reached : (p : ℕ) → 2 ≤ p → p < size w → reaches w p ≡ true =
      λ p two m. not-false (reaches w p) (first_least (λ p'. not (reaches w p')) 2 (size w - 2) p two (omega arith))
      in
      record {
        formed = formed;
        ordered = λ p two m r.
            by_test (is_above w p)
            (λ t. above_told w p t)
            (λ f. absurd (none_of (Broken w) (is_broken w) broken_told broken_tells a p two m (r, λ b. not_both (is_above w p) (above_tells w p b) f)));
        reached = λ p two m. reaches_sound w p (reached p two m);
      })

  pub accepted_graph : Accepted w → graph_of w ≡ accepted (size w) (vars w)
  unfolding broken_at lost_at
  accepted_graph a =
      graph_ok
      (none_is (Broken w) (is_broken w) broken_told broken_tells (λ p two m b. b.1 (a.ordered p two m b.0)))
      (none_is (Lost w) (λ p'. not (reaches w p')) lost_told lost_tells (λ p two m l. l (a.reached p two m)))

-- both of two checks accept
pub both_accept : (a b : Outcome) (n v : ℕ) → and_then a b ≡ accepted n v → ((m : ℕ) × (u : ℕ) × (a ≡ accepted m u)) × (b ≡ accepted n v)
both_accept (accepted m u) b n v e = ((m, u, refl), e)
both_accept (refused k p) b n v e = let z : ◌≡◌ {A = ℕ} 0 1 = cc in absurd (omega arith)

-- what an acceptance means
pub record Admitted (w : List ℕ) (o : Output) (room n v : ℕ) : Type 0 where
  pub nodes : n ≡ size w
  pub variables : v ≡ vars w
  pub accepted : Accepted w
  pub lent : short w o ≡ false
  pub fits : room_of w ≤ room

pub verdict_accepted : (w : List ℕ) (o : Output) (room n v : ℕ) → verdict_of w o room ≡ accepted n v → Admitted w o room n v
unfolding verdict_of contents_of
verdict_accepted w o room n v e =
    let a = both_accept (lengths_of w o room) (and_then (terminals_of w) (and_then (ranges_of w) (graph_of w))) n v e in
    let b = both_accept (terminals_of w) (and_then (ranges_of w) (graph_of w)) n v a.1 in
    let c = both_accept (ranges_of w) (graph_of w) n v b.1 in
    let m = lengths_accepted w o room _ _ a.0.2 in
    let r = ranges_accepted w _ _ c.0.2 in
    let t = terminals_accepted w _ _ b.0.2 in
    let f : Formed w =
    record {
      whole = m.whole;
      some = m.some;
      few = m.few;
      zero_terminal = t.zero_terminal;
      one_terminal = t.one_terminal;
      variables = t.variables;
      ranges = r.ranges;
    }
    in
    let g = graph_accepted w f n v c.1 in
    let same : accepted (size w) (vars w) ≡ accepted n v = sym (accepted_graph w f g) ∙ c.1 in
    record { nodes = cc; variables = cc; accepted = g; lent = lent_accepted w o room _ _ a.0.2; fits = m.fits }

-- and exactly then it is given
terminal_tells : (w : List ℕ) (p : ℕ) → Terminal w p → is_terminal w p ≡ true
unfolding is_terminal
terminal_tells w p t =
    both_and (eqb (var_of w p) (vars w)) (eqb (low_of w p) p && eqb (high_of w p) p) (eq-eqb (var_of w p) (vars w) t.var)
    (both_and (eqb (low_of w p) p) (eqb (high_of w p) p) (eq-eqb (low_of w p) p t.low) (eq-eqb (high_of w p) p t.high))

pub accepted_lengths : (w : List ℕ) (o : Output) (room : ℕ) → Formed w → short w o ≡ false → room_of w ≤ room → lengths_of w o room ≡ accepted (size w) (vars w)
unfolding lengths_of row
accepted_lengths w o room f s l =
    simp (
      ne_eqb (length w) 0 (λ x. omega (arith, f.whole, f.some)),
      eq-eqb (length w % 3) 0 (omega (arith, f.whole)),
      le-ltb max_nodes (size w) f.few,
      s,
      le-ltb room (room_of w) l,
    )

pub accepted_terminals : (w : List ℕ) → Formed w → terminals_of w ≡ accepted (size w) (vars w)
unfolding terminals_of row
accepted_terminals w f =
    by_test (ltb 1 (size w))
    (λ e. simp (terminal_tells w 0 f.zero_terminal, e, terminal_tells w 1 (f.one_terminal (ltb-true 1 (size w) e)), le-ltb max_variables (vars w) f.variables))
    (λ e. simp (terminal_tells w 0 f.zero_terminal, e, le-ltb max_variables (vars w) f.variables))

pub accepted_ranges : (w : List ℕ) → Formed w → ranges_of w ≡ accepted (size w) (vars w)
unfolding row
accepted_ranges w f = simp (ranges_by w, le-ltb (first_node w (is_faulty (size w) (vars w) w)) (size w) none)
  where
    right : (p : ℕ) → 2 ≤ p → p < size w → is_faulty (size w) (vars w) w p ≡ false
    right p two m =
        let i = f.ranges p two m in
        ap not (eq-eqb (fault_of (size w) (vars w) w p) 0 (sym (fault_none (size w) (vars w) w p (var_of w p) refl i.var (low_of w p) refl i.low (high_of w p) refl i.high)))

    none : size w ≤ first_node w (is_faulty (size w) (vars w) w)
    none =
        let faulty : ℕ → Bool = is_faulty (size w) (vars w) w in
        by_test (ltb (first_node w faulty) (size w))
        (λ e.
        let l = ltb-true (first_node w faulty) (size w) e in
        let b = first_from faulty 2 (size w - 2) in
        absurd (not_both (faulty (first_node w faulty)) (first_passes faulty 2 (size w - 2) (omega (arith, b.0))) (right (first_node w faulty) b.0 l)))
        (λ e. ltb-false (first_node w faulty) (size w) e)

pub accepted_verdict : (w : List ℕ) (o : Output) (room : ℕ) → Accepted w → short w o ≡ false → room_of w ≤ room
    → verdict_of w o room ≡ accepted (size w) (vars w)
unfolding verdict_of contents_of
accepted_verdict w o room a s l =
    let f = a.formed in
    rw (accepted_lengths w o room f s l, accepted_terminals w f, accepted_ranges w f) (accepted_graph w f a)
