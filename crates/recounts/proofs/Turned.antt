-- The counts of a diagram turned to those of its negation: at each node all valuations of the variables from its own on, less
-- those that lead to node 1.
use Prim.Native.Nat.{ℕ, zero, suc, ◌+◌, ◌-◌, ◌*◌, ◌^◌, ◌≤◌, ◌<◌}
use mathlib.Core.Path.{◌≡◌, refl, sym, ap, ◌∙◌}
use mathlib.Core.Logic.{⊎_elim}
use mathlib.Core.Bool.{Bool, true, false, cond, not}
use mathlib.Core.List.{List, [], ◌∷◌}
use native.Mathlib.Omega.{arith}
use lib.ListN.{length}
use lib.Dec.{eqb}
use Rattle.naturals.specs.Natural.{word_count}
use Rattle.naturals.proofs.Answer.{holds_as}
use Rattle.in_place.specs.InPlace.{number_in, Put, Subtracting}
use Rattle.diagram.specs.Limits.{max_nodes}
use Rattle.diagram.specs.Diagram.{var_of, low_of, high_of, size, vars, Formed, Ordered, Accepted}
use Rattle.diagram.specs.Reading.{eval}
use Rattle.diagram.specs.Valuations.{tally}
use Rattle.diagram.proofs.Tests.{by-eq}
use Rattle.diagram.proofs.Reading.{Layered, layered, accepted_ordered, by_two, at_end, at_level, var_most, child_in_lem, child_above, pass_tests, pass_skips, eval_nil, eval_cons}
use Rattle.diagram.proofs.Tally.{tally_same, tally_not}
use Rattle.levels.specs.Chains.{Last}
use Rattle.counts.specs.Table.{num, Noted}
use Rattle.counts.specs.Worth.{worth_of}
use Rattle.counts.proofs.Nodes.{worth_end, worth_most}
use Rattle.counts.proofs.Entries.{noted_put}
use Rattle.negation.specs.Negation.{exchanged, negated}
use Rattle.negation.proofs.Words.{exchanged_low, exchanged_high, more_length, word_end, word_var, word_link}
use Rattle.negation.proofs.Meaning.{negated_accepted}
use Rattle.room_map.specs.Map.{links_from, counts_from}
use Rattle.recounts.specs.Kept.{Whole, opposite, Opposing, Turnable, Turned}
use Rattle.recounts.proofs.Passes.{untouched_none, untouched_on, untouched_noted}

-- ---- the negation, node by node

exchanged_one : (x : ℕ) → x < 2 → eqb (exchanged x) 1 ≡ not (eqb x 1)
unfolding exchanged
exchanged_one zero h = refl
exchanged_one (suc zero) h = refl
exchanged_one (suc (suc x)) h = absurd (omega arith)

exchanged_cond : (b : Bool) (x y : ℕ) → cond b (exchanged x) (exchanged y) ≡ exchanged (cond b x y)
exchanged_cond true x y = refl
exchanged_cond false x y = refl

module _ (w : List ℕ) (o : Ordered w) (m : 2 < size w) where
  abbrev f : Formed w
  f = o.formed

  abbrev g : Layered w (vars w) (size w)
  g = layered w o

  pub same_size : size (negated w) ≡ size w
  same_size = omega (arith, more_length w f m)

  var_end : (p : ℕ) → p < 2 → var_of (negated w) p ≡ var_of w p
  var_end zero h = word_end w f 0 (omega arith) (omega (arith, more_length w f m))
  var_end (suc zero) h = word_end w f 3 (omega arith) (omega (arith, more_length w f m)) ∙ sym (f.one_terminal (omega arith)).var
  var_end (suc (suc p)) h = absurd (omega arith)

  pub same_var : (p : ℕ) → var_of (negated w) p ≡ var_of w p
  same_var p = by_two p (var_end p) (λ two. word_var w f m (3 * p) (omega arith) (omega arith))

  low_is : (p : ℕ) → 2 ≤ p → p < size w → low_of (negated w) p ≡ exchanged (low_of w p)
  low_is p two h = word_link w f m (3 * p + 1) (omega arith) (omega (arith, f.whole)) (λ z. omega arith)

  high_is : (p : ℕ) → 2 ≤ p → p < size w → high_of (negated w) p ≡ exchanged (high_of w p)
  high_is p two h = word_link w f m (3 * p + 2) (omega arith) (omega (arith, f.whole)) (λ z. omega arith)

  -- a terminal's variable is the same as the other's
  exchanged_var : (x : ℕ) → var_of w (exchanged x) ≡ var_of w x
  exchanged_var x = by_two x (λ t. rw (exchanged_low x t) (ends_same x t)) (λ two. rw (exchanged_high x two) refl)
    where
      ends_same : (x : ℕ) → x < 2 → var_of w (1 - x) ≡ var_of w x
      ends_same zero t = (f.one_terminal (omega arith)).var
      ends_same (suc zero) t = sym (f.one_terminal (omega arith)).var
      ends_same (suc (suc x)) t = absurd (omega arith)

  -- where a path ends at node 1, the negation's ends at node 0, and the other way
  abbrev Mirrored : ℕ → ℕ → List Bool → Type 0
  Mirrored i p bs = eval (negated w) i (exchanged p) bs ≡ not (eval w i p bs)

  eval_tests : (i p : ℕ) (b : Bool) (bs : List Bool) → 2 ≤ p → p < size w → var_of w p ≡ i
      → Mirrored (suc i) (cond b (high_of w p) (low_of w p)) bs → Mirrored i p (b ∷ bs)
  eval_tests i p b bs two h e below =
      ap (λ (q : ℕ). eval (negated w) i q (b ∷ bs)) (exchanged_high p two)
      ∙ eval_cons (negated w) i p b bs
      ∙ ap (λ (q : ℕ). eval (negated w) (suc i) q bs)
      (pass_tests (negated w) i p b two (same_var p ∙ e)
      ∙ rw (low_is p two h, high_is p two h) (exchanged_cond b (high_of w p) (low_of w p)))
      ∙ below
      ∙ sym (ap not (eval_cons w i p b bs ∙ ap (λ (q : ℕ). eval w (suc i) q bs) (pass_tests w i p b two e)))

  eval_skips : (i p : ℕ) (b : Bool) (bs : List Bool) → i < var_of w p → Mirrored (suc i) p bs → Mirrored i p (b ∷ bs)
  eval_skips i p b bs up below =
      let up' : i < var_of (negated w) (exchanged p) = rw (same_var (exchanged p), exchanged_var p) up in
      eval_cons (negated w) i (exchanged p) b bs
      ∙ ap (λ (q : ℕ). eval (negated w) (suc i) q bs) (pass_skips (negated w) i (exchanged p) b up')
      ∙ below
      ∙ sym (ap not (eval_cons w i p b bs ∙ ap (λ (q : ℕ). eval w (suc i) q bs) (pass_skips w i p b up)))

  eval_mirror : (bs : List Bool) (i p : ℕ) → p < size w → i ≤ var_of w p → i + length bs ≡ vars w → Mirrored i p bs
  eval_mirror [] i p h up e =
      let t = at_end w (vars w) (size w) g p h (omega arith) in
      eval_nil (negated w) i (exchanged p) ∙ exchanged_one p t ∙ sym (ap not (eval_nil w i p))
  eval_mirror (b ∷ bs) i p h up e = ⊎_elim
      (λ t.
      let l = g.node p t.0 h in
      let above = child_above w (vars w) (size w) p l b in
      let is = t.1 in
      eval_tests i p b bs t.0 h t.1
      (eval_mirror bs (suc i) (cond b (high_of w p) (low_of w p)) (child_in_lem w (vars w) (size w) p l b) (omega arith) (omega arith)))
      (λ s. eval_skips i p b bs s (eval_mirror bs (suc i) p h s (omega arith)))
      (at_level w (vars w) (size w) g i p h up (omega arith))

  -- a node's worth and its worth in the negation share out all valuations
  worth_sum : (p : ℕ) → 2 ≤ p → p < size w → worth_of true (negated w) p + worth_of true w p ≡ 2 ^ (vars w - var_of w p)
  unfolding worth_of
  worth_sum p two h =
      let most = var_most w (vars w) (size w) g p h in
      let same : worth_of true (negated w) p ≡ tally (vars w - var_of w p) (λ bs. not (eval w (var_of w p) p bs)) =
      rw (same_var p, same_var 0)
      (tally_same (vars w - var_of w p) (eval (negated w) (var_of w p) p) (λ bs. not (eval w (var_of w p) p bs))
      (λ bs l.
      let at : var_of w p + length bs ≡ vars w = omega arith in
      rw (exchanged_high p two) at (eval_mirror bs (var_of w p) p h (omega arith) at))) in
      ap (λ (x : ℕ). x + worth_of true w p) same ∙ tally_not (vars w - var_of w p) (eval w (var_of w p) p)

  pub worth_turned : (p : ℕ) → 2 ≤ p → p < size w → worth_of true (negated w) p ≡ 2 ^ (vars w - var_of w p) - worth_of true w p
  worth_turned p two h = omega (arith, worth_sum p two h)

-- ---- one node

module _ {w room : List ℕ} {n v p : ℕ} (a : Opposing w room n v p) where
  pub opposing_variable : {variable : ℕ} → variable ≡ var_of w p → variable ≤ v
  opposing_variable e = let up = a.above in omega arith

  module _ {variable : ℕ} (e : variable ≡ var_of w p) {at : ℕ} (place : at ≡ counts_from n + word_count * p) where
    pub opposes : Subtracting word_count room at (v - variable)
    opposes =
        let few = a.variables in
        let inside = a.inside in
        record {
          few = omega arith;
          inside = omega arith;
          most = rw (place, e) a.most;
        }

    pub opposed : {after : List ℕ} → Put word_count room at (2 ^ (v - variable) - number_in word_count room at) after
        → Noted (counts_from n) room p (opposite w room n v p) after
    opposed p = noted_put (counts_from n) room _ a.inside (rw (place, e) at p)

-- ---- all nodes

module _ {w room : List ℕ} {n v : ℕ} (a : Turnable w room n v) where
  abbrev o : Ordered w
  o = a.given.ordered

  pub turn_few : n ≤ max_nodes
  turn_few = let few = o.formed.few in let is = a.given.nodes in omega arith

  many : 2 < size w
  many = let is = a.given.nodes in let m = a.many in omega arith

  pub turn_starts : Turned w room room 2
  turn_starts = record {
    untouched = untouched_none (size w) room;
    done = λ q two h l. absurd (omega arith);
    ends = λ q t. let m = many in a.left q (omega arith);
    todo = λ q two l. a.left q l;
  }

  module _ {b : ℕ} {mid : List ℕ} (low : 2 ≤ b) (less : b < n) (x : Turned w room mid b) where
    inside : b < size w
    inside = let is = a.given.nodes in omega arith

    here : num (counts_from n) mid b ≡ worth_of true w b
    here = ap (λ (i : ℕ). num (counts_from i) mid b) a.given.nodes ∙ (x.todo b (omega arith) inside).worth

    pub turn_opposes : Opposing w mid n v b
    turn_opposes =
        let is = a.given.nodes in
        let ev = a.is_vars in
        let long = a.long in
        let kept = x.untouched.kept in
        let up = var_most w (vars w) (size w) (layered w o) b inside in
        let variables = o.formed.variables in
        let few = turn_few in
        let worth = here in
        let most = worth_most w o true b in
        let power : 2 ^ (v - var_of w b) ≡ 2 ^ (vars w - var_of w b) = ap (λ (i : ℕ). 2 ^ (i - var_of w b)) ev in
        record { few = few; inside = omega arith; above = omega arith; variables = omega arith; most = omega arith }

    is_opposite : opposite w mid n v b ≡ worth_of true (negated w) b
    is_opposite =
        ap (λ (x : ℕ). 2 ^ (v - var_of w b) - x) here
        ∙ ap (λ (i : ℕ). 2 ^ (i - var_of w b) - worth_of true w b) a.is_vars
        ∙ sym (worth_turned w o many b low inside)

    pub turn_on : {after : List ℕ} → Noted (counts_from n) mid b (opposite w mid n v b) after → Turned w room after (b + 1)
    turn_on {after} k =
        let noted : Noted (counts_from (size w)) mid b (worth_of true (negated w) b) after = rw (sym is_opposite, sym a.given.nodes) k in
        record {
          untouched = untouched_on x.untouched (untouched_noted inside noted);
          done = λ q two h l. by-eq q b
              (λ e. rw e noted.here)
              (λ ne. rw (noted.other q ne) (x.done q two (omega arith) l));
          ends = λ q t. rw (noted.other q (λ e. omega arith)) (x.ends q t);
          todo = λ q h l. rw (noted.other q (λ e. omega arith)) (x.todo q (omega arith) l);
        }

pub turn_ends : {w room after : List ℕ} {b n : ℕ} → Turned w room after b → b ≤ n → n ≤ b → Turned w room after n
turn_ends {b = b} {n} x most least = let e : n ≡ b = omega arith in rw e x

-- ---- what was counted of a diagram is counted of its negation

last_turned : (w : List ℕ) → ((p : ℕ) → var_of (negated w) p ≡ var_of w p) → {c d b q : ℕ} → d ≡ c → Last w c b q → Last (negated w) d b q
last_turned w same e l = record {
  node = λ ne. let x = l.node ne in (x.0, x.1, same _ ∙ x.2 ∙ sym e);
  last = λ r two h is. l.last r two h (sym (same r) ∙ is ∙ e);
}

pub turned_whole : {w heads room after : List ℕ} {n : ℕ} → Accepted w → 2 < size w → n ≡ size w → Whole w heads room → Turned w room after n
    → Whole (negated w) heads after
turned_whole {w} {heads} {room} {after} {n} accepted m is x t =
    let o : Ordered w = accepted_ordered w accepted in
    let back : Ordered (negated w) = accepted_ordered (negated w) (negated_accepted w accepted) in
    let size_is = same_size w o m in
    let var-is = same_var w o m in
    record {
      chained = record {
        head = λ c h.
            rw size_is (last_turned w var-is refl (x.chained.head c (rw (var-is 0) at h)));
        next = λ p two h.
            let i : p < size w = omega arith in
            rw (size_is, t.untouched.before (links_from (size w) + p) (omega arith))
            (last_turned w var-is (var-is p) (x.chained.next p two i));
      };
      left = λ q h.
          let i : q < size w = omega arith in
          rw size_is (by_two q
          (λ two. holds_as (worth_end w o true q two i ∙ sym (worth_end (negated w) back true q two h)) (t.ends q two))
          (λ two. t.done q two (omega arith) i));
    }
