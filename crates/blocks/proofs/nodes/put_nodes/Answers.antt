use Prim.Native.Nat.{◌+◌, ◌*◌, ◌≤◌, ◌<◌}
use lib.ListN.{length}
use native.Mathlib.Omega.{arith}
use Rattle.writing.proofs.Laws.{still_part, still_none}
use Rattle.blocks.proofs.Places.{bytes_next, bytes_none}
use Rattle.blocks.proofs.nodes.put_nodes.Goals as goal

pub loop-i-preserved : goal.loop-i-preserved
loop-i-preserved c =
    let h : 3 * c.loop-i.i + 2 < length c.args.words.now = omega (arith, c.loop-i-test.true) in
    still_part c.loop-i.invariant _ _ (bytes_next _ _ h) c.put_node-place.ensures

pub returns : goal.returns
returns c =
    let h : length c.args.words.now ≤ 3 * c.loop-i.i + 2 = omega (arith, c.loop-i-test.false) in
    still_none c.loop-i.invariant (bytes_none _ _ h)
