use mathlib.Core.Path.{sym}
use lib.Seq.{set_out}
use Rattle.diagram.proofs.room.put.Goals as goal

pub returns-else-at-room : goal.returns-else-at-room
returns-else-at-room c = sym (set_out c.args.room.now c.args.at c.args.x c.if-at-room.false)
