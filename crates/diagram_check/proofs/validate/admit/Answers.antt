use Rattle.diagram.specs.Limits.{room_per_node}
use Rattle.diagram.proofs.Words.{front_cleared}
use Prim.Native.Nat.{◌*◌, ◌≤◌}
use mathlib.Core.Path.{sym, ◌∙◌, ap}
use native.Mathlib.Omega.{arith}
use lib.ListN.{length}
use lib.Seq.{length-take-le}
use Rattle.diagram.specs.Verdict.{said}
use Rattle.diagram.proofs.Accepting.{lengths_accepted, lengths_refused, contents_decide, sized_of, all_is}
use Rattle.diagram_check.proofs.validate.admit.Goals as goal

pub returns-in_default : goal.returns-in_default
returns-in_default c =
    rw c.in_default.is
    (lengths_refused c.args.words.now c.args.output c.args.room.now _ (sym (ap said c.in_default.is) ∙ c.lengths-measured.ensures))

pub overflow_mul-all : goal.overflow_mul-all
overflow_mul-all c =
    omega (arith, (all_is c.args.words.now (length c.args.room.now) _ _ c.most-all.result (lengths_accepted c.args.words.now c.args.output (length c.args.room.now) _ _ (sym c.lengths-measured.ensures ∙ ap said c.in-Ok.is)) c.most-all.ensures), (lengths_accepted c.args.words.now c.args.output (length c.args.room.now) _ _ (sym c.lengths-measured.ensures ∙ ap said c.in-Ok.is)).few)

pub slice_bounds-inspect-end : goal.slice_bounds-inspect-end
slice_bounds-inspect-end c =
    omega (arith, (all_is c.args.words.now (length c.args.room.now) _ _ c.most-all.result (lengths_accepted c.args.words.now c.args.output (length c.args.room.now) _ _ (sym c.lengths-measured.ensures ∙ ap said c.in-Ok.is)) c.most-all.ensures), (lengths_accepted c.args.words.now c.args.output (length c.args.room.now) _ _ (sym c.lengths-measured.ensures ∙ ap said c.in-Ok.is)).fits)

pub slice_bounds-inspect-end-2 : goal.slice_bounds-inspect-end-2
slice_bounds-inspect-end-2 c =
    let l : room_per_node * c.most-all.result ≤ length c.args.room.now = omega (arith, (all_is c.args.words.now (length c.args.room.now) _ _ c.most-all.result (lengths_accepted c.args.words.now c.args.output (length c.args.room.now) _ _ (sym c.lengths-measured.ensures ∙ ap said c.in-Ok.is)) c.most-all.ensures), (lengths_accepted c.args.words.now c.args.output (length c.args.room.now) _ _ (sym c.lengths-measured.ensures ∙ ap said c.in-Ok.is)).fits) in
    sym (length-take-le (room_per_node * c.most-all.result) c.args.room.now l)

pub inspect-requires : goal.inspect-requires
inspect-requires c =
    let l : room_per_node * c.most-all.result ≤ length c.args.room.now = omega (arith, (all_is c.args.words.now (length c.args.room.now) _ _ c.most-all.result (lengths_accepted c.args.words.now c.args.output (length c.args.room.now) _ _ (sym c.lengths-measured.ensures ∙ ap said c.in-Ok.is)) c.most-all.ensures), (lengths_accepted c.args.words.now c.args.output (length c.args.room.now) _ _ (sym c.lengths-measured.ensures ∙ ap said c.in-Ok.is)).fits) in
    sized_of c.args.words.now (length c.args.room.now) _ _ (room_per_node * c.most-all.result) _ (lengths_accepted c.args.words.now c.args.output (length c.args.room.now) _ _ (sym c.lengths-measured.ensures ∙ ap said c.in-Ok.is)) (all_is c.args.words.now (length c.args.room.now) _ _ c.most-all.result (lengths_accepted c.args.words.now c.args.output (length c.args.room.now) _ _ (sym c.lengths-measured.ensures ∙ ap said c.in-Ok.is)) c.most-all.ensures)
    (length-take-le (room_per_node * c.most-all.result) c.args.room.now l)

pub returns : goal.returns
returns c =
    let all = room_per_node * c.most-all.result in
    let l : all ≤ length c.args.room.now = omega (arith, (all_is c.args.words.now (length c.args.room.now) _ _ c.most-all.result (lengths_accepted c.args.words.now c.args.output (length c.args.room.now) _ _ (sym c.lengths-measured.ensures ∙ ap said c.in-Ok.is)) c.most-all.ensures), (lengths_accepted c.args.words.now c.args.output (length c.args.room.now) _ _ (sym c.lengths-measured.ensures ∙ ap said c.in-Ok.is)).fits) in
    contents_decide c.args.words.now c.args.output c.args.room.now _ _ (sym (ap said c.in-Ok.is) ∙ c.lengths-measured.ensures) c.inspect.result c.inspect.ensures.0 all (all_is c.args.words.now (length c.args.room.now) _ _ c.most-all.result (lengths_accepted c.args.words.now c.args.output (length c.args.room.now) _ _ (sym c.lengths-measured.ensures ∙ ap said c.in-Ok.is)) c.most-all.ensures) _
    (front_cleared c.args.room.now all c.inspect.new.room l c.inspect.ensures.1)
