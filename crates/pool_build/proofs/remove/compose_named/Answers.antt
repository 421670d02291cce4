use Rattle.pool.specs.Pool.{slot_count}
use Rattle.pool_build.proofs.Composing.{begin_standing, begin_names, composed_all}
use native.Mathlib.Omega.{arith}
use Rattle.pool_build.proofs.remove.compose_named.Goals as goal

pub gather-requires : goal.gather-requires
gather-requires c = (begin_standing c.requires c.word.ensures c.start.ensures c.start.auto.room, begin_names c.requires c.word.ensures c.start.ensures c.start.auto.room slot_count (omega arith))

pub returns : goal.returns
returns c = composed_all c.requires c.word.ensures c.start.ensures c.start.auto.room c.gather.ensures
