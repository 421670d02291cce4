use borrow.Author.Tests.{leb-true, leb-false}
use Rattle.naturals.specs.Natural.{value}
use lib.ListN.{length}
use mathlib.Core.Path.{◌≡◌, refl, sym, ap, ◌∙◌}
use Prim.Native.Nat.{◌-◌}
use Rattle.count_search.proofs.Walks.{Walked, takeable, walk_start, walked_as, walk_left, walk_breaks, walk_again, seeking_few, seeking_flags, round_start, taken_long, taken_recounting, taken_cutting, round_taken, round_counted, round_more, round_again, round_done}
use native.Mathlib.Omega.{arith}
use Rattle.count_search.proofs.rounds.search.Goals as goal
use Rattle.count_search.proofs.rounds.search.Goals.{Left-loop-taken-2, else-loop-taken-2-test, then-loop-taken-2-test+then-at_most}

pub loop-taken-init : goal.loop-taken-init
loop-taken-init c = (round_start c.requires c.excess-rest.ensures, refl)

pub loop-taken-2-init : goal.loop-taken-2-init
loop-taken-2-init c = (walk_start _ _ _ _ _ _, refl)

pub overflow_sub-nodes : goal.overflow_sub-nodes
overflow_sub-nodes c = omega (arith, c.requires.many)

pub take_node-weight-requires : goal.take_node-weight-requires
take_node-weight-requires c = takeable (c.loop-taken-2.invariant.0.on _ c.loop-taken.invariant.0.taken) (omega (arith, c.requires.is_size, c.loop-taken-2-test.true)) c.requires.is_size (seeking_few c.requires) (taken_long c.requires (c.loop-taken-2.invariant.0.on _ c.loop-taken.invariant.0.taken))

pub overflow_add-taken : goal.overflow_add-taken
overflow_add-taken c = omega (arith, c.loop-taken-2-test.true, seeking_few c.requires)

pub loop-taken-2-smaller : goal.loop-taken-2-smaller
loop-taken-2-smaller c = omega (arith, c.loop-taken-2-test.true)

pub loop-taken-2-preserved : goal.loop-taken-2-preserved
loop-taken-2-preserved c = (walk_again c.loop-taken-2.invariant.0 c.requires.is_size c.loop-taken-2-test.true (taken_long c.requires (c.loop-taken-2.invariant.0.on _ c.loop-taken.invariant.0.taken)) (seeking_flags c.requires c.loop-taken-2.sent (c.loop-taken-2.invariant.1 ∙ c.loop-taken.invariant.1)) c.take_node-weight.ensures c.loop-taken.invariant.0.taken (leb-false _ _ (sym c.at_most.ensures ∙ c.if-at_most.false)) c.excess-rest-in-loop-taken-2.ensures, c.take_node-weight.auto.changed ∙ c.loop-taken-2.invariant.1)

-- The two ways out of the inner walk.
walked : (c : Left-loop-taken-2) → Walked c.args.words.now c.args.heads.now c.loop-taken.sent c.loop-taken.room c.loop-taken-2-test.sent c.loop-taken-2-test.room c.loop-taken.taken (value c.loop-taken.rest.words) c.loop-taken-2-test.taken
walked c = elim c.loop-taken-2-test.branch [
  | else-loop-taken-2-test w ↦ walked_as w.sent-is w.room-is w.taken-is (walk_left c.loop-taken-2.invariant.0 (omega (arith, c.requires.is_size, w.loop-taken-2-test.false)))
  | then-loop-taken-2-test+then-at_most w ↦ walked_as w.sent-is w.room-is w.taken-is (walk_breaks c.loop-taken-2.invariant.0 c.requires.is_size w.loop-taken-2-test.true (taken_long c.requires (c.loop-taken-2.invariant.0.on _ c.loop-taken.invariant.0.taken)) (seeking_flags c.requires c.loop-taken-2.sent (c.loop-taken-2.invariant.1 ∙ c.loop-taken.invariant.1)) w.take_node-weight.ensures c.loop-taken.invariant.0.taken (leb-true _ _ (sym w.at_most.ensures ∙ w.if-at_most.true)))
]

walked-flags : (c : Left-loop-taken-2) → length c.loop-taken-2-test.sent ≡ length c.loop-taken.sent
walked-flags c = elim c.loop-taken-2-test.branch [
  | else-loop-taken-2-test w ↦ ap (λ l. length l) w.sent-is ∙ c.loop-taken-2.invariant.1
  | then-loop-taken-2-test+then-at_most w ↦ ap (λ l. length l) w.sent-is ∙ w.take_node-weight.auto.changed ∙ c.loop-taken-2.invariant.1
]

pub overflow_add-trials : goal.overflow_add-trials
overflow_add-trials c = omega (arith, c.loop-taken.invariant.0.few, c.loop-taken.invariant.0.taken.few, c.requires.is_size, seeking_few c.requires)

pub recount-left-requires : goal.recount-left-requires
recount-left-requires c = taken_recounting c.requires (round_taken c.requires c.loop-taken.invariant.0 (walked (goal.at.recount-left-requires c).Left-loop-taken-2)) (walked-flags (goal.at.recount-left-requires c).Left-loop-taken-2 ∙ c.loop-taken.invariant.1)

pub cut_taken-found-requires : goal.cut_taken-found-requires
cut_taken-found-requires c = taken_cutting c.requires (round_counted c.requires c.loop-taken.invariant.0 (walked (goal.at.cut_taken-found-requires c).Left-loop-taken-2) c.recount-left.ensures) (c.recount-left.auto.changed ∙ (walked-flags (goal.at.cut_taken-found-requires c).Left-loop-taken-2 ∙ c.loop-taken.invariant.1))

pub loop-taken-smaller : goal.loop-taken-smaller
loop-taken-smaller c = omega (arith, round_more c.requires c.loop-taken.invariant.0 (walked (goal.at.loop-taken-smaller c).Left-loop-taken-2) c.recount-left.ensures (leb-false _ _ (sym c.at_most-in-loop-taken.ensures ∙ c.if-at_most-2.false)), (round_taken c.requires c.loop-taken.invariant.0 (walked (goal.at.loop-taken-smaller c).Left-loop-taken-2)).few, c.requires.is_size)

pub loop-taken-preserved : goal.loop-taken-preserved
loop-taken-preserved c = (round_again c.requires c.loop-taken.invariant.0 (walked (goal.at.loop-taken-preserved c).Left-loop-taken-2) c.recount-left.ensures (leb-false _ _ (sym c.at_most-in-loop-taken.ensures ∙ c.if-at_most-2.false)) c.excess-rest-in-loop-taken.ensures, c.recount-left.auto.changed ∙ (walked-flags (goal.at.loop-taken-preserved c).Left-loop-taken-2 ∙ c.loop-taken.invariant.1))

pub shape_of-sent : goal.shape_of-sent
shape_of-sent c = c.cut_taken-found.auto.sent ∙ (c.recount-left.auto.changed ∙ (walked-flags (goal.at.shape_of-sent c).Left-loop-taken-2 ∙ c.loop-taken.invariant.1))

pub shape_of-room : goal.shape_of-room
shape_of-room c = c.cut_taken-found.auto.room ∙ c.recount-left.auto.room ∙ (round_taken c.requires c.loop-taken.invariant.0 (walked (goal.at.shape_of-room c).Left-loop-taken-2)).kept

pub returns : goal.returns
returns c = round_done c.requires c.loop-taken.invariant.0 (walked (goal.at.returns c).Left-loop-taken-2) c.recount-left.ensures (leb-true _ _ (sym c.at_most-in-loop-taken.ensures ∙ c.if-at_most-2.true)) c.cut_taken-found.ensures
