-- The map is within the words of working room that are asked for each node, and has space for a store of as many places as
-- there are nodes.
use Prim.Native.Nat.{ℕ, ◌*◌, ◌≤◌}
use mathlib.Core.Path.{◌≡◌}
use native.Mathlib.Omega.{arith}
use Rattle.diagram.specs.Limits.{room_per_node}
use Rattle.store.specs.Room.{store_to}
use Rattle.room_map.specs.Map.{answer_from, tables_to, search_to}

pub search_fits : (m : ℕ) → search_to m ≤ room_per_node * m
search_fits m = omega arith

pub store_ends : (m : ℕ) → store_to (answer_from m) m ≡ tables_to m
store_ends m = omega arith
