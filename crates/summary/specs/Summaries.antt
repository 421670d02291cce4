-- What is promised of the summary, in document 02's words (`summaries` of proofs/Promised.antt).
use Rattle.std.specs.Prelude.{ℕ, ◌≤◌, ◌<◌, ◌≡◌, ◌↔◌, ◌≢◌, Bool, false, not, List, length, get_or, set, take, drop}
use Rattle.diagram.specs.Diagram.{var_of, size, vars}
use Rattle.diagram.specs.Verdict.{Verdict, Outcome, accepted, refused, said}
use Rattle.counts.specs.Counting.{Number}
use Rattle.pool.specs.Pool.{WellFormed, Inner, Live, holds_from}
use Rattle.summary.specs.Summary.{summary_words, nodes_at, slots_at, fresh_summary}
use Rattle.summary.specs.Kept.{beside, add_beside, drop_beside, summarized, AddsBeside, DropsBeside, Summarizes}

-- A valuation with signal i the other way round.
abbrev pub switched : ℕ → List Bool → List Bool
switched i bs = set bs i (not (get_or bs i false))

-- Slot k is live, and for some valuation its answer changes with signal i alone.
pub record Depends (t s : List ℕ) (i k : ℕ) : Type 0 where
  pub root : ℕ
  pub is_live : Live s k root
  pub valuation : List Bool
  pub each : length valuation ≡ vars t
  pub changes : holds_from t root valuation ≢ holds_from t root (switched i valuation)

-- There is a pool, and a record for each variable.
pub record Roomy (t s kept : List ℕ) : Type 0 where
  pub pool : WellFormed t s
  pub long : summary_words t ≤ length kept

-- The summary that is kept is the one worked out afresh, and the words behind it are those of another list.
pub record Renewed (t s kept kept' : List ℕ) : Type 0 where
  pub fresh : take (summary_words t) kept' ≡ fresh_summary t s
  pub behind : drop (summary_words t) kept' ≡ drop (summary_words t) kept

pub record Summaries : Type 0 where
  -- what is counted: the nodes of the pool at a variable; the live slots whose answer changes with it, for some valuation
  pub nodes : (t s : List ℕ) → WellFormed t s → (i : ℕ) → Number (λ p. Inner t p × (var_of t p ≡ i)) (nodes_at t i)
  pub slots : (t s : List ℕ) → WellFormed t s → (i : ℕ) → i < vars t → Number (Depends t s i) (slots_at t s i)
  pub long : (t s : List ℕ) → length (fresh_summary t s) ≡ summary_words t
  -- 46 exactly where there is no pool, 37 exactly where there is one and the row is shorter than the variable count, and 47 exactly where it
  -- is long enough and a record does not agree, whatever else is asked
  pub forty_six_add : (t s kept w : List ℕ) (room k place : ℕ) → (add_beside t s kept w room k ≡ refused 46 place) ↔ ((¬ WellFormed t s) × (place ≡ 0))
  pub forty_six_drop : (t s kept : List ℕ) (k place : ℕ) → (drop_beside t s kept k ≡ refused 46 place) ↔ ((¬ WellFormed t s) × (place ≡ 0))
  pub thirty_seven_add : (t s kept w : List ℕ) (room k place : ℕ)
      → (add_beside t s kept w room k ≡ refused 37 place) ↔ (WellFormed t s × (length kept < summary_words t) × (place ≡ 0))
  pub thirty_seven_drop : (t s kept : List ℕ) (k place : ℕ)
      → (drop_beside t s kept k ≡ refused 37 place) ↔ (WellFormed t s × (length kept < summary_words t) × (place ≡ 0))
  pub forty_seven_add : (t s kept w : List ℕ) (room k place : ℕ)
      → (add_beside t s kept w room k ≡ refused 47 place) ↔ (Roomy t s kept × (take (summary_words t) kept ≢ fresh_summary t s) × (place ≡ 0))
  pub forty_seven_drop : (t s kept : List ℕ) (k place : ℕ)
      → (drop_beside t s kept k ≡ refused 47 place) ↔ (Roomy t s kept × (take (summary_words t) kept ≢ fresh_summary t s) × (place ≡ 0))
  -- where all is well, the answer is the one without a summary
  pub as_without : (t s kept : List ℕ) (answer : Outcome) → Roomy t s kept → take (summary_words t) kept ≡ fresh_summary t s
      → beside t s kept answer ≡ answer
  -- a summary can be worked out exactly where there is a pool, and a record for each variable
  pub worked_out : (t s kept : List ℕ) (n v : ℕ) → (summarized t s kept ≡ accepted n v) ↔ (Roomy t s kept × (n ≡ size t) × (v ≡ vars t))
  -- after an addition, a drop or a summary that is answered, what is kept is what is worked out afresh, and nothing behind it has changed
  pub kept_by_add : (t s kept w : List ℕ) (k : ℕ) (t' s' kept' room room' : List ℕ) (r : Verdict) (n v : ℕ)
      → AddsBeside t s kept w k t' s' kept' room room' r → said r ≡ accepted n v → Renewed t' s' kept kept'
  pub kept_by_drop : (t s kept : List ℕ) (k : ℕ) (t' s' kept' : List ℕ) (r : Verdict) (n v : ℕ)
      → DropsBeside t s kept k t' s' kept' r → said r ≡ accepted n v → Renewed t' s' kept kept'
  pub kept_by_summarize : (t s kept kept' : List ℕ) (r : Verdict) (n v : ℕ) → Summarizes t s kept kept' r → said r ≡ accepted n v → Renewed t s kept kept'
