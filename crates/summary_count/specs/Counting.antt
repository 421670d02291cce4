-- Nodes counted by variable, for the code inside. A record's first number is the nodes', its second the slots'.
use Rattle.std.specs.Prelude.{ℕ, ◌+◌, ◌*◌, ◌≤◌, ◌<◌, ◌≡◌, cond, List, length, get_or, set, drop}
use Rattle.diagram.specs.Diagram.{var_of, vars}
use Rattle.pool.specs.Pool.{WellFormed, is_free}
use Rattle.summary.specs.Summary.{record_words, summary_words, nodes_at}

-- The numbers of a record.
abbrev pub nodes_in : List ℕ → ℕ → ℕ
nodes_in kept i = get_or kept (record_words * i) 0

abbrev pub slots_in : List ℕ → ℕ → ℕ
slots_in kept i = get_or kept (record_words * i + 1) 0

-- Words behind the records are as they were.
pub record Behind (t kept kept' : List ℕ) : Type 0 where
  pub long : length kept' ≡ length kept
  pub rest : drop (summary_words t) kept' ≡ drop (summary_words t) kept

-- No node is counted yet. (Every pool has its slots: which ones doesn't matter here.)
pub record Ready (t kept : List ℕ) : Type 0 where
  pub slots : List ℕ
  pub pool : WellFormed t slots
  pub long : summary_words t ≤ length kept
  pub none : (i : ℕ) → i < vars t → nodes_in kept i ≡ 0

-- One more node of place p's variable, unless the place is free.
unfoldable pub with_node : List ℕ → ℕ → List ℕ → List ℕ
with_node t p kept = cond (is_free t p) kept (set kept (record_words * var_of t p) (nodes_in kept (var_of t p) + 1))

pub record Counted (t kept kept' : List ℕ) : Type 0 where
  pub behind : Behind t kept kept'
  pub nodes : (i : ℕ) → i < vars t → nodes_in kept' i ≡ nodes_at t i
  pub slots : (i : ℕ) → i < vars t → slots_in kept' i ≡ slots_in kept i
