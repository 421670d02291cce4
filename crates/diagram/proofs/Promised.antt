-- Demand 1: what the rows of the verdict come to.
use Prim.Native.Nat.{ℕ, zero, suc, ◌-◌, ◌≤◌, ◌<◌}
use mathlib.Core.Path.{◌≡◌, refl, sym, ◌∙◌}
use mathlib.Core.Logic.{◌↔◌, ◌⊎◌, inl, inr, ⊎_elim}
use mathlib.Core.Bool.{Bool, true, false}
use mathlib.Core.List.{List}
use native.Mathlib.Omega.{arith}
use lib.ListN.{length}
use Rattle.diagram.specs.Diagram.{size, vars, Formed, Accepted}
use Rattle.diagram.specs.Verdict.{Outcome, accepted, refused, row, lengths_of, terminals_of, ranges_from, ranges_of, graph_of, contents_of, verdict_of, cleared, room_after}
use Rattle.diagram.specs.Demand1.{Lent, Smallest, Broken, ByLow, ByHighAlone, NoneBroken, Lost, Demand1}
use Rattle.diagram.specs.declared.verdict.Output.{Output}
use Rattle.diagram.proofs.Outcomes.{same_refusal, never_both}
use Rattle.diagram.proofs.Accepting.{lengths_accepted, lent_accepted, terminals_accepted, ranges_accepted}
use Rattle.diagram.proofs.Meaning.{refused_11, refused_17, refused_12, verdict_accepted, accepted_verdict, accepted_lengths, accepted_terminals, accepted_ranges}

-- ---- which numbers a part of the table gives

abbrev Gives : (ℕ → Type 0) → Outcome → Type 0
Gives P o = (k p : ℕ) → o ≡ refused k p → P k

accepted_gives : (P : ℕ → Type 0) (n v : ℕ) → Gives P (accepted n v)
accepted_gives P n v k p e = absurd (never_both e refl)

row_gives : (P : ℕ → Type 0) (k : ℕ) (t : Bool) (p : ℕ) {below : Outcome} → P k → Gives P below → Gives P (row k t p below)
unfolding row
row_gives P k true p a h j q e = let x : k ≡ j = cc in rw x at a
row_gives P k false p a h j q e = h j q e

-- from one number to another
abbrev Between : ℕ → ℕ → ℕ → Type 0
Between low high k = (low ≤ k) × (k ≤ high)

lengths_give : (w : List ℕ) (o : Output) (room : ℕ) → Gives (Between 1 5) (lengths_of w o room)
unfolding lengths_of
lengths_give w o room =
    row_gives (Between 1 5) 1 _ 0 (omega arith, omega arith)
    (row_gives (Between 1 5) 2 _ 0 (omega arith, omega arith)
    (row_gives (Between 1 5) 3 _ 0 (omega arith, omega arith)
    (row_gives (Between 1 5) 4 _ 0 (omega arith, omega arith)
    (row_gives (Between 1 5) 5 _ 0 (omega arith, omega arith)
    (accepted_gives (Between 1 5) (size w) (vars w))))))

terminals_give : (w : List ℕ) → Gives (Between 6 7) (terminals_of w)
unfolding terminals_of
terminals_give w =
    row_gives (Between 6 7) 6 _ 0 (omega arith, omega arith)
    (row_gives (Between 6 7) 6 _ 1 (omega arith, omega arith)
    (row_gives (Between 6 7) 7 _ 0 (omega arith, omega arith)
    (accepted_gives (Between 6 7) (size w) (vars w))))

ranges_give_from : (w : List ℕ) (p k : ℕ) → Gives (Between 8 10) (ranges_from w p k)
unfolding ranges_from
ranges_give_from w p zero = accepted_gives (Between 8 10) (size w) (vars w)
ranges_give_from w p (suc k) =
    row_gives (Between 8 10) 8 _ p (omega arith, omega arith)
    (row_gives (Between 8 10) 9 _ p (omega arith, omega arith)
    (row_gives (Between 8 10) 10 _ p (omega arith, omega arith)
    (ranges_give_from w (suc p) k)))

ranges_give : (w : List ℕ) → Gives (Between 8 10) (ranges_of w)
unfolding ranges_of
ranges_give w = ranges_give_from w 2 (size w - 2)

abbrev OfGraph : ℕ → Type 0
OfGraph k = Between 11 12 k ⊎ (k ≡ 17)

graph_gives : (w : List ℕ) → Gives OfGraph (graph_of w)
unfolding graph_of
graph_gives w =
    row_gives OfGraph 11 _ _ (inl (omega arith, omega arith))
    (row_gives OfGraph 17 _ _ (inr refl)
    (row_gives OfGraph 12 _ _ (inl (omega arith, omega arith))
    (accepted_gives OfGraph (size w) (vars w))))

-- all of them come after the lengths
graph_beyond : (w : List ℕ) (k p : ℕ) → graph_of w ≡ refused k p → 5 < k
graph_beyond w k p e = ⊎_elim (λ i. omega (arith, i.0)) (λ s. omega (arith, s)) (graph_gives w k p e)

-- ---- where a verdict comes from

by_outcome : {C : Type 0} (o : Outcome) → ((n v : ℕ) → o ≡ accepted n v → C) → ((k p : ℕ) → o ≡ refused k p → C) → C
by_outcome (accepted n v) f g = f n v refl
by_outcome (refused k p) f g = g k p refl

module _ (w : List ℕ) (o : Output) (room : ℕ) where
  -- from the lengths; from terminals or ranges; from the graph, and then all before it is right
  by_part : {C : Type 0} → ((k p : ℕ) → lengths_of w o room ≡ refused k p → verdict_of w o room ≡ refused k p → k ≤ 5 → C)
      → ((k p : ℕ) → verdict_of w o room ≡ refused k p → 6 ≤ k → k ≤ 10 → C)
      → (Formed w → Lent w o room → verdict_of w o room ≡ graph_of w → C) → C
  unfolding verdict_of contents_of
  by_part f g h =
      by_outcome (lengths_of w o room)
      (λ n v a.
      by_outcome (terminals_of w)
      (λ n' v' b.
      by_outcome (ranges_of w)
      (λ n'' v'' c.
      let m = lengths_accepted w o room n v a in
      let t = terminals_accepted w n' v' b in
      let r = ranges_accepted w n'' v'' c in
      h
      (record {
        whole = m.whole;
        some = m.some;
        few = m.few;
        zero_terminal = t.zero_terminal;
        one_terminal = t.one_terminal;
        variables = t.variables;
        ranges = r.ranges;
      })
      (record { output_long = lent_accepted w o room n v a; room_long = m.fits })
      (rw (a, b, c)))
      (λ k p c. let i = ranges_give w k p c in g k p (rw (a, b, c)) (omega (arith, i.0)) i.1))
      (λ k p b. let i = terminals_give w k p b in g k p (rw (a, b)) i.0 (omega (arith, i.1))))
      (λ k p a. f k p a (rw a) (lengths_give w o room k p a).1)

  formed_verdict : Formed w → Lent w o room → verdict_of w o room ≡ graph_of w
  unfolding verdict_of contents_of
  formed_verdict f l = rw (accepted_lengths w o room f l.output_long l.room_long, accepted_terminals w f, accepted_ranges w f)

  -- 11, 12 and 17 come from the graph
  from_graph : (k p : ℕ) → 11 ≤ k → verdict_of w o room ≡ refused k p → Formed w × Lent w o room × (graph_of w ≡ refused k p)
  from_graph k p l e =
      by_part
      (λ j q a d m. let s = (same_refusal d e).0 in absurd (omega arith))
      (λ j q d m n. let s = (same_refusal d e).0 in absurd (omega arith))
      (λ f g d. (f, g, sym d ∙ e))

  -- so they are given exactly then
  by_the_graph : (k : ℕ) → 11 ≤ k → (p : ℕ) (P : Type 0) → (Formed w → (graph_of w ≡ refused k p) ↔ P)
      → (verdict_of w o room ≡ refused k p) ↔ ((Formed w × Lent w o room) × P)
  by_the_graph k l p P i = (
    (λ e. let g = from_graph k p l e in ((g.0, g.1), (i g.0).0 g.2)),
    (λ h. formed_verdict h.0.0 h.0.1 ∙ (i h.0.0).1 h.1),
  )

  accepts_is : (n v : ℕ) → (verdict_of w o room ≡ accepted n v) ↔ ((Accepted w × Lent w o room) × (n ≡ size w) × (v ≡ vars w))
  accepts_is n v = (
    (λ e. let a = verdict_accepted w o room n v e in ((a.accepted, record { output_long = a.lent; room_long = a.fits }), a.nodes, a.variables)),
    (λ h. rw (h.1, h.2) (accepted_verdict w o room h.0.0 h.0.1.output_long h.0.1.room_long)),
  )

  refuses_is : (k p : ℕ) → verdict_of w o room ≡ refused k p → Between 1 12 k ⊎ (k ≡ 17)
  refuses_is k p e =
      by_part
      (λ j q a d m. let s = (same_refusal d e).0 in let i = lengths_give w o room j q a in inl (omega (arith, i.0), omega (arith, i.1)))
      (λ j q d m n. let s = (same_refusal d e).0 in inl (omega arith, omega arith))
      (λ f g d. ⊎_elim (λ i. inl (omega (arith, i.0), omega (arith, i.1))) inr (graph_gives w k p (sym d ∙ e)))

-- ---- the room

module _ (w : List ℕ) (o : Output) (room : List ℕ) where
  kept_by : (k p : ℕ) → lengths_of w o (length room) ≡ refused k p → room_after w o room ≡ room
  kept_by k p e = rw e

  cleared_by : (n v : ℕ) → lengths_of w o (length room) ≡ accepted n v → room_after w o room ≡ cleared w room
  cleared_by n v e = rw e

  lengths_first : (k p : ℕ) → lengths_of w o (length room) ≡ refused k p → verdict_of w o (length room) ≡ refused k p
  unfolding verdict_of
  lengths_first k p e = rw e

  room_kept_is : (k p : ℕ) → verdict_of w o (length room) ≡ refused k p → k ≤ 5 → room_after w o room ≡ room
  room_kept_is k p e l =
      by_part w o (length room)
      (λ j q a d m. kept_by j q a)
      (λ j q d m n. let s = (same_refusal d e).0 in absurd (omega arith))
      (λ f g d. let i = graph_beyond w k p (sym d ∙ e) in absurd (omega arith))

  room_cleared_is : (k p : ℕ) → verdict_of w o (length room) ≡ refused k p → 5 < k → room_after w o room ≡ cleared w room
  room_cleared_is k p e l =
      by_outcome (lengths_of w o (length room)) cleared_by
      (λ j q a. let s = (same_refusal (lengths_first j q a) e).0 in let i = lengths_give w o (length room) j q a in absurd (omega (arith, i.1)))

  room_answered_is : (n v : ℕ) → verdict_of w o (length room) ≡ accepted n v → room_after w o room ≡ cleared w room
  room_answered_is n v e =
      by_outcome (lengths_of w o (length room)) cleared_by
      (λ j q a. absurd (never_both (lengths_first j q a) e))

pub demand1 : Demand1
demand1 =
    record {
      accepts = accepts_is;
      refuses = refuses_is;
      eleven = λ w o room p. by_the_graph w o room 11 (omega arith) p (Smallest w (Broken w) p × ByLow w p) (λ f. refused_11 w f p);
      seventeen = λ w o room p. by_the_graph w o room 17 (omega arith) p (Smallest w (Broken w) p × ByHighAlone w p) (λ f. refused_17 w f p);
      twelve = λ w o room p. by_the_graph w o room 12 (omega arith) p (NoneBroken w × Smallest w (Lost w) p) (λ f. refused_12 w f p);
      room_kept = room_kept_is;
      room_cleared = room_cleared_is;
      room_answered = room_answered_is;
      output_kept = λ answer output verdict number place e. rw e;
      output_answered = λ answer output verdict n v e. rw e;
    }
