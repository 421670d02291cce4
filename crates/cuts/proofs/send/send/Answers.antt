use lib.ListN.{length}
use mathlib.Core.Path.{refl, ap, ◌∙◌}
use Prim.Native.Nat.{ℕ, ◌-◌, ◌≤◌, ◌<◌}
use Rattle.cuts.proofs.Sending.{sent_on, sent_ends}
use Rattle.cuts.specs.Marks.{marked_in, link_from}
use Rattle.diagram.specs.Diagram.{size}
use native.Mathlib.Omega.{arith}
use Rattle.cuts.proofs.send.send.Goals as goal

pub loop-p-preserved : goal.loop-p-preserved
loop-p-preserved c =
    let inside : c.loop-p.p < size c.args.words.now = omega (arith, c.requires.is_size) in
    let long : length c.args.words.now ≤ length c.loop-p.sent = omega (arith, c.requires.long, c.loop-p.invariant.2) in
    let low = c.sent_link-low.ensures ∙ ap (λ (q : ℕ). link_from (marked_in c.args.most c.args.room.now) c.args.target.0 c.loop-p.p q) c.low_link_of.ensures in
    let high = c.sent_link-high.ensures ∙ ap (λ (q : ℕ). link_from (marked_in c.args.most c.args.room.now) c.args.target.0 c.loop-p.p q) c.high_link_of.ensures in
    ((λ f. rw c.put_node.ensures (sent_on c.args.words.now f (marked_in c.args.most c.args.room.now) c.args.target.0 c.loop-p.p c.loop-p.sent (c.loop-p.invariant.0 f) inside long c.var_of.result.0 c.sent_link-low.result.0 c.sent_link-high.result.0 c.var_of.ensures low high)), omega arith, c.put_node.auto.sent ∙ c.loop-p.invariant.2)

pub returns : goal.returns
returns c = sent_ends c.args.words.now c.requires.formed (marked_in c.args.most c.args.room.now) c.args.target.0 c.loop-p.p c.loop-p.sent c.args.sent.now (c.loop-p.invariant.0 c.requires.formed) (omega (arith, c.requires.is_size)) c.loop-p.invariant.2 c.requires.long
