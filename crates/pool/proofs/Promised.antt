-- What is promised of a pool, proved.
use Prim.Native.Nat.{ℕ}
use mathlib.Core.Path.{◌≡◌}
use mathlib.Core.List.{List}
use lib.ListN.{set}
use Rattle.diagram.specs.Diagram.{size, vars, holds}
use Rattle.pool.specs.Pool.{live, needs, table_of, slots_of}
use Rattle.pool.specs.Answers.{with_added, with_dropped}
use Rattle.pool.specs.Pools.{Pools}
use Rattle.pool.proofs.Fewest.{roots_fewest, held_fit, dropped_fit}
use Rattle.pool.proofs.Alike.{alike_refl, all_set, alike_need, alike_table}
use Rattle.pool.proofs.Tables.{table_size, table_vars, table_holds, read_is}
use Rattle.pool.proofs.Closed.{table_formed}
use Rattle.pool.proofs.Rows.{add_first, drop_first, read_first}
use Rattle.pool.proofs.Verdicts.{Tested, is_46, is_36, is_added, is_dropped}
use Rattle.pool.proofs.Testing.{pool_told, pool_tells}

-- After a drop the table holds what is left, so an addition to it needs no more than that and the new condition.
freed : (t s w : List ℕ) (k j : ℕ)
    → needs (vars t) (with_added (table_of (size t) (vars t) (with_dropped t s k)) (slots_of (vars t) (with_dropped t s k)) w j)
    ≡ needs (vars t) (set (with_dropped t s k) j (live (holds w)))
freed t s w k j =
    alike_need (vars t) _ _ (all_set (table_holds (size t) (vars t) (with_dropped t s k)) j (alike_refl (live (holds w))))

pub pools_by : Tested → Pools
pools_by test = record {
  test = test;
  forty_six_add = λ t s w room k. is_46 test t s (add_first t s w room k);
  forty_six_drop = λ t s k. is_46 test t s (drop_first t s k);
  forty_six_read = λ t s k room out. is_46 test t s (read_first t s k room out);
  thirty_six = is_36 test;
  added = is_added test;
  dropped = is_dropped test;
  closed = table_formed;
  size_kept = table_size;
  vars_kept = table_vars;
  holds_them = λ n v cs fits. table_holds n v cs;
  fewest = λ w cs o. roots_fewest w o cs;
  drop_fits = λ t s k f. dropped_fit t s f k;
  held_fits = held_fit;
  freed = λ t s w k j f. freed t s w k j;
  alike_needs = alike_need;
  alike_tables = alike_table;
  reads = read_is;
}

pub pools : Pools
pools = pools_by (λ t s. (pool_told t s, pool_tells t s))
