use Prim.Native.Nat.{ℕ, ◌<◌, ◌^◌}
use Rattle.setting_blocks.specs.Settings.{target_words}
use lib.ListN.{length-replicate}
use Rattle.blocks.specs.Block.{block_bytes}
use Rattle.naturals.proofs.Machine.{Typed, typed}
use Rattle.evening.proofs.Filing.{stores_cut}
use native.Mathlib.Omega.{arith}
use Rattle.evening.proofs.write.store_cut.Goals as goal
use Rattle.evening.proofs.write.store_cut.Goals.{Start}

pub returns : goal.returns
returns c = stores_cut c.args.target c.setting_of.ensures.1 c.version_of.ensures c.setting_of.ensures.0 (length-replicate {A = ℕ} block_bytes 0) c.write_settings.ensures c.write.ensures c.write_cut.ensures
