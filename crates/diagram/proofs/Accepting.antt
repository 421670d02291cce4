-- What an acceptance by each check tells, and how a refusal is passed on.
use Prim.Native.Nat.{ℕ, ◌-◌, ◌*◌, ◌%◌, ◌≤◌, ◌<◌, max}
use mathlib.Core.Path.{◌≡◌, refl, sym, ◌∙◌, ap}
use mathlib.Core.Bool.{Bool, true, false, not, ◌&&◌}
use mathlib.Core.List.{List, ◌++◌}
use native.Mathlib.Omega.{arith}
use borrow.Author.Tests.{ltb-false, leb-false, eqb-true, eqb-false, not-false, lt-ltb}
use lib.ListN.{length, drop, replicate}
use lib.Dec.{leb, ltb, eqb}
use Rattle.diagram.specs.Limits.{max_nodes, max_variables, room_per_node}
use Rattle.diagram.specs.Diagram.{var_of, low_of, high_of, size, vars, Terminal, InRange, Formed}
use Rattle.diagram.specs.Verdict.{Verdict, Outcome, said, Checked, accepted, refused, row, room_of, short, lengths_of, is_terminal, terminals_of, first_node, ranges_of, graph_of, contents_of, verdict_of}
use Rattle.diagram.specs.Faults.{fault_of, is_faulty}
use Rattle.diagram.specs.Marking.{Sized}
use Rattle.diagram.specs.declared.verdict.Output.{Output}
use Rattle.diagram.specs.declared.verdict.Refused.{Refused}
use Rattle.std.specs.Prelude.{Result, Err, IsErrAnd}
use Rattle.std.proofs.lemmas.Result.{err_from_is_err_and}
use Rattle.diagram.proofs.Tests.{by_test, and_both, cond-true, cond-false}
use Rattle.diagram.proofs.Outcomes.{never_both}
use Rattle.diagram.proofs.Count.{first_least}
use Rattle.diagram.proofs.Faulty.{ranges_by}

-- a row that accepts: its test failed, and the rows below accept
pub row_passed : (k : ℕ) (t : Bool) (p : ℕ) (below : Outcome) (n v : ℕ) → row k t p below ≡ accepted n v → (t ≡ false) × (below ≡ accepted n v)
unfolding row
row_passed k true p below n v e = absurd (never_both refl e)
row_passed k false p below n v e = (refl, e)

-- what the lengths tell
pub record Measured (w : List ℕ) (room n v : ℕ) : Type 0 where
  pub nodes : n ≡ size w
  pub whole : length w ≡ 3 * size w
  pub some : 0 < size w
  pub few : size w ≤ max_nodes
  pub fits : room_of w ≤ room

pub lengths_accepted : (w : List ℕ) (o : Output) (room n v : ℕ) → lengths_of w o room ≡ accepted n v → Measured w room n v
unfolding lengths_of
lengths_accepted w o room n v e =
    let r₁ = row_passed 1 (eqb (length w) 0) 0 _ n v e in
    let r₂ = row_passed 2 (not (eqb (length w % 3) 0)) 0 _ n v r₁.1 in
    let r₃ = row_passed 3 (ltb max_nodes (size w)) 0 _ n v r₂.1 in
    let r₄ = row_passed 4 (short w o) 0 _ n v r₃.1 in
    let r₅ = row_passed 5 (ltb room (room_of w)) 0 _ n v r₄.1 in
    let a = eqb-false (length w) 0 r₁.0 in
    let b = eqb-true (length w % 3) 0 (not-false (eqb (length w % 3) 0) r₂.0) in
    let c = ltb-false max_nodes (size w) r₃.0 in
    let d = ltb-false room (room_of w) r₅.0 in
    let same : accepted (size w) (vars w) ≡ accepted n v = r₅.1 in
    record { nodes = cc; whole = omega arith; some = omega arith; few = c; fits = d }

pub lent_accepted : (w : List ℕ) (o : Output) (room n v : ℕ) → lengths_of w o room ≡ accepted n v → short w o ≡ false
unfolding lengths_of
lent_accepted w o room n v e =
    let r₁ = row_passed 1 (eqb (length w) 0) 0 _ n v e in
    let r₂ = row_passed 2 (not (eqb (length w % 3) 0)) 0 _ n v r₁.1 in
    let r₃ = row_passed 3 (ltb max_nodes (size w)) 0 _ n v r₂.1 in
    (row_passed 4 (short w o) 0 _ n v r₃.1).0

-- what the terminals tell
terminal_told : (w : List ℕ) (p : ℕ) → is_terminal w p ≡ true → Terminal w p
unfolding is_terminal
terminal_told w p e =
    let a = and_both (eqb (var_of w p) (vars w)) (eqb (low_of w p) p && eqb (high_of w p) p) e in
    let b = and_both (eqb (low_of w p) p) (eqb (high_of w p) p) a.1 in
    record { var = eqb-true (var_of w p) (vars w) a.0; low = eqb-true (low_of w p) p b.0; high = eqb-true (high_of w p) p b.1 }

pub record Ended (w : List ℕ) : Type 0 where
  pub zero_terminal : Terminal w 0
  pub one_terminal : 1 < size w → Terminal w 1
  pub variables : vars w ≤ max_variables

one_told : (w : List ℕ) → (ltb 1 (size w) && not (is_terminal w 1)) ≡ false → 1 < size w → is_terminal w 1 ≡ true
one_told w e l = not-false (is_terminal w 1) (rw (lt-ltb 1 (size w) l) at e)

pub terminals_accepted : (w : List ℕ) (n v : ℕ) → terminals_of w ≡ accepted n v → Ended w
unfolding terminals_of
terminals_accepted w n v e =
    let r₁ = row_passed 6 (not (is_terminal w 0)) 0 _ n v e in
    let r₂ = row_passed 6 (ltb 1 (size w) && not (is_terminal w 1)) 1 _ n v r₁.1 in
    let r₃ = row_passed 7 (ltb max_variables (vars w)) 0 _ n v r₂.1 in
    record {
      zero_terminal = terminal_told w 0 (not-false (is_terminal w 0) r₁.0);
      one_terminal = λ l. terminal_told w 1 (one_told w r₂.0 l);
      variables = ltb-false max_variables (vars w) r₃.0;
    }

-- what the ranges tell
pub record Ranged (w : List ℕ) (n v : ℕ) : Type 0 where
  pub nodes : n ≡ size w
  pub count : v ≡ vars w
  pub ranges : (p : ℕ) → 2 ≤ p → p < size w → InRange w p

no_fault : (n v : ℕ) (w : List ℕ) (p : ℕ) → fault_of n v w p ≡ 0 → (var_of w p < v) × (low_of w p < n) × (high_of w p < n)
unfolding fault_of
no_fault n v w p e =
    by_test (leb v (var_of w p))
    (λ a. absurd (wrong 8 (omega arith) (sym (cond-true (leb v (var_of w p)) 8 _ a) ∙ e)))
    (λ a.
    let e₁ = sym (cond-false (leb v (var_of w p)) 8 _ a) ∙ e in
    by_test (leb n (low_of w p))
    (λ b. absurd (wrong 9 (omega arith) (sym (cond-true (leb n (low_of w p)) 9 _ b) ∙ e₁)))
    (λ b.
    let e₂ = sym (cond-false (leb n (low_of w p)) 9 _ b) ∙ e₁ in
    by_test (leb n (high_of w p))
    (λ c. absurd (wrong 10 (omega arith) (sym (cond-true (leb n (high_of w p)) 10 0 c) ∙ e₂)))
    (λ c. (leb-false v (var_of w p) a, leb-false n (low_of w p) b, leb-false n (high_of w p) c))))
  where
    wrong : (k : ℕ) → 0 < k → k ≡ 0 → ⊥
    wrong k l z = omega arith

pub ranges_accepted : (w : List ℕ) (n v : ℕ) → ranges_of w ≡ accepted n v → Ranged w n v
ranges_accepted w n v e =
    let t : ℕ → Bool = is_faulty (size w) (vars w) w in
    let r = row_passed (fault_of (size w) (vars w) w (first_node w t)) (ltb (first_node w t) (size w)) (first_node w t) (accepted (size w) (vars w)) n v (sym (ranges_by w) ∙ e) in
    let l = ltb-false (first_node w t) (size w) r.0 in
    let same : accepted (size w) (vars w) ≡ accepted n v = r.1 in
    record {
      nodes = cc;
      count = cc;
      ranges = λ p two m.
          let f = first_least t 2 (size w - 2) p two (omega arith) in
          let g = no_fault (size w) (vars w) w p (eqb-true (fault_of (size w) (vars w) w p) 0 (not-false (eqb (fault_of (size w) (vars w) w p) 0) f)) in
          record { var = g.0; low = g.1; high = g.2 };
    }

pub formed_of : (w room : List ℕ) (n v : ℕ) → Sized w room → Ended w → Ranged w n v → Formed w
formed_of w room n v m e r =
    record {
      whole = m.whole;
      some = m.some;
      few = m.few;
      zero_terminal = e.zero_terminal;
      one_terminal = e.one_terminal;
      variables = e.variables;
      ranges = r.ranges;
    }

-- passing on: a refusal ends the checks, an acceptance hands them to the next
module _ (w : List ℕ) where
  pub terminals_refused : (k p : ℕ) → refused k p ≡ terminals_of w → refused k p ≡ contents_of w
  unfolding contents_of
  terminals_refused k p e = rw (← e) refl

  module _ (n v : ℕ) (e : accepted n v ≡ terminals_of w) where
    pub ranges_refused : (k p : ℕ) → refused k p ≡ ranges_of w → refused k p ≡ contents_of w
    unfolding contents_of
    ranges_refused k p f = rw (← e, ← f) refl

    pub graph_decides : (n' v' : ℕ) → accepted n' v' ≡ ranges_of w → (last-verdict : Verdict) → said last-verdict ≡ graph_of w → said last-verdict ≡ contents_of w
    unfolding contents_of
    graph_decides n' v' f last-verdict g = rw (← e, ← f) g

module _ (w : List ℕ) (o : Output) (before : List ℕ) where
  pub lengths_refused : (r : Refused) → said (Err r) ≡ lengths_of w o (length before) → Checked w o before before (Err r)
  unfolding verdict_of
  lengths_refused r e = record { verdict = rw (← e) refl; left = rw (← e) refl }

  pub contents_decide : (n v : ℕ) → accepted n v ≡ lengths_of w o (length before) → (r : Verdict) → said r ≡ contents_of w
      → (all : ℕ) → all ≡ room_of w → (after : List ℕ) → after ≡ replicate all 0 ++ drop all before → Checked w o before after r
  unfolding verdict_of
  contents_decide n v e r g all ea after h = record { verdict = rw (← e) g; left = rw (← e, h, ea) refl }

-- what a `?` passes on is the refusal that it met
pub passed_on : {A E : Type 0} (r : Result A E) (e : E) → IsErrAnd r (λ y. y ≡ e) → r ≡ Err e
passed_on r e h = let p = err_from_is_err_and r h in p.1 ∙ ap Err p.2

-- what the search asks of the words and the room
pub sized_of : (w : List ℕ) (room n v all : ℕ) (part : List ℕ) → Measured w room n v → all ≡ room_of w → length part ≡ all → Sized w part
sized_of w room n v all part m ea el =
    record { whole = m.whole; some = m.some; few = m.few; fits = omega arith }

-- the words that the code lends of the room
pub all_is : (w : List ℕ) (room n v m : ℕ) → Measured w room n v → m ≡ max n 2 → room_per_node * m ≡ room_of w
all_is w room n v m r e = ap (λ (k : ℕ). room_per_node * k) (e ∙ ap (λ (k : ℕ). max k 2) r.nodes)
