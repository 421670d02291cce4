-- What adding does once there is a pool and a diagram. No promise to a caller names this file.
use Rattle.std.specs.Prelude.{ℕ, ◌<◌, ◌≡◌, List, get_or}
use Rattle.diagram.specs.Diagram.{size, vars, Ordered}
use Rattle.diagram.specs.Verdict.{Verdict, said, if_accepted}
use Rattle.pool.specs.Pool.{slot_count, WellFormed, table_of, slots_of}
use Rattle.pool.specs.Answers.{with_added, place_of}

pub record Addable (t s w : List ℕ) : Type 0 where
  pub pool : WellFormed t s
  pub diagram : Ordered w

pub record Placing (t s w : List ℕ) (k : ℕ) : Type 0 where
  pub addable : Addable t s w
  pub slot : k < slot_count
  pub free : get_or s k 0 ≡ 0
  pub variables : vars w ≡ vars t

pub record AddsTo (t s w : List ℕ) (k : ℕ) (t' s' : List ℕ) (r : Verdict) : Type 0 where
  pub verdict : said r ≡ place_of t s w k
  pub table : t' ≡ if_accepted (place_of t s w k) (table_of (size t) (vars t) (with_added t s w k)) t
  pub slots : s' ≡ if_accepted (place_of t s w k) (slots_of (vars t) (with_added t s w k)) s
