-- What is promised of any list of calls that begins with the empty pool and a summary of zeros (`evenings` of proofs/Calls.antt): the summary is
-- always the one worked out afresh, and the pool is the one that the calls make of it without a summary.
use Rattle.std.specs.Prelude.{ℕ, ◌*◌, ◌≤◌, ◌≡◌, List, [], ◌∷◌, ◌++◌, replicate}
use Rattle.diagram.specs.Limits.{max_nodes, max_variables}
use Rattle.diagram.specs.Verdict.{if_accepted}
use Rattle.pool.specs.History.{Lent, empty_pool, Call, add, drop, read, after, run}
use Rattle.summary.specs.Summary.{record_words}
use Rattle.summary.specs.Kept.{renewed, add_beside, drop_beside}
use Rattle.summary.specs.Summaries.{Renewed}

-- Pool and summary, as they are lent from one call to the next.
pub record Evening : Type 0 where
  pub pool : Lent
  pub kept : List ℕ

abbrev pub evening : Lent → List ℕ → Evening
evening p kept = record { pool = p; kept = kept }

-- A call changes the pool as it does without a summary, and then the summary is worked out afresh.
unfoldable pub changed : Call → Evening → Evening
changed c e = evening (after c e.pool) (renewed (after c e.pool).table (after c e.pool).slots e.kept)

-- Pool and summary after a call, as the contracts `AddsBeside` and `DropsBeside` say; reading leaves them.
unfoldable pub next : Call → Evening → Evening
next (add w room k) e = if_accepted (add_beside e.pool.table e.pool.slots e.kept w room k) (changed (add w room k) e) e
next (drop k) e = if_accepted (drop_beside e.pool.table e.pool.slots e.kept k) (changed (drop k) e) e
next (read k room out) e = e

unfoldable pub through : List Call → Evening → Evening
through [] e = e
through (c ∷ cs) e = through cs (next c e)

-- The empty pool with its summary, and any words behind it.
abbrev pub begun : (n v : ℕ) → List ℕ → Evening
begun n v behind = evening (empty_pool n v) (replicate (record_words * v) 0 ++ behind)

pub record Evenings : Type 0 where
  pub pools : (n v : ℕ) → 2 ≤ n → n ≤ max_nodes → v ≤ max_variables → (behind : List ℕ) (calls : List Call)
      → (through calls (begun n v behind)).pool ≡ run calls (empty_pool n v)
  pub keeps : (n v : ℕ) → 2 ≤ n → n ≤ max_nodes → v ≤ max_variables → (behind : List ℕ) (calls : List Call)
      → Renewed (run calls (empty_pool n v)).table (run calls (empty_pool n v)).slots (begun n v behind).kept (through calls (begun n v behind)).kept
