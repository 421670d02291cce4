-- Slots counted by variable, for the code inside. `work` has for each variable, and from `marks` on for each place, the number of a slot.
use Rattle.std.specs.Prelude.{ℕ, suc, ◌+◌, ◌*◌, ◌≤◌, ◌<◌, ◌≡◌, ◌⊎◌, true, cond, List, length, get_or, set, drop, eqb}
use Rattle.diagram.specs.Limits.{max_nodes, max_variables}
use Rattle.diagram.specs.Diagram.{vars}
use Rattle.pool.specs.Pool.{slot_count, WellFormed, Inner}
use Rattle.summary.specs.Summary.{record_words, summary_words, how_many, comes_to, depends_on, slots_at}
use Rattle.summary_count.specs.Counting.{nodes_in, slots_in, Behind}

abbrev pub marks : ℕ
marks = max_variables

-- A place's mark.
abbrev pub mark_of : List ℕ → ℕ → ℕ
mark_of work p = get_or work (marks + p) 0

-- A terminal or a node.
abbrev pub Place : List ℕ → ℕ → Type 0
Place t p = (p < 2) ⊎ Inner t p

-- The walk for the slot with this number: where a place is marked with it, all variables that it comes to are stamped.
pub record Stamping (t work : List ℕ) (number p : ℕ) : Type 0 where
  pub slots : List ℕ
  pub pool : WellFormed t slots
  pub place : Place t p
  pub long : length work ≡ marks + max_nodes
  pub settled : (q i : ℕ) → Place t q → 2 ≤ q → mark_of work q ≡ number → i < vars t → comes_to t i (vars t) q ≡ true → get_or work i 0 ≡ number
  pub few : (j : ℕ) → get_or work j 0 ≤ number

pub record Stamped (t work : List ℕ) (number p : ℕ) (work' : List ℕ) : Type 0 where
  pub long : length work' ≡ length work
  pub settled : (q i : ℕ) → Place t q → 2 ≤ q → mark_of work' q ≡ number → i < vars t → comes_to t i (vars t) q ≡ true → get_or work' i 0 ≡ number
  pub few : (j : ℕ) → get_or work' j 0 ≤ number
  pub stamps : (i : ℕ) → i < vars t → get_or work' i 0 ≡ cond (comes_to t i (vars t) p) number (get_or work i 0)

-- One more slot of variable i, if it is stamped.
unfoldable pub with_slot : List ℕ → ℕ → ℕ → List ℕ → List ℕ
with_slot work number i kept = cond (eqb (get_or work i 0) number) (set kept (record_words * i + 1) (slots_in kept i + 1)) kept

-- So of each variable, which have fewer slots than there are.
pub record Noting (v : ℕ) (kept : List ℕ) : Type 0 where
  pub variables : v ≤ max_variables
  pub long : record_words * v ≤ length kept
  pub few : (i : ℕ) → i < v → slots_in kept i < slot_count

pub record Noted (v number : ℕ) (work kept kept' : List ℕ) : Type 0 where
  pub long : length kept' ≡ length kept
  pub rest : drop (record_words * v) kept' ≡ drop (record_words * v) kept
  pub nodes : (i : ℕ) → i < v → nodes_in kept' i ≡ nodes_in kept i
  pub slots : (i : ℕ) → i < v → slots_in kept' i ≡ cond (eqb (get_or work i 0) number) (suc (slots_in kept i)) (slots_in kept i)

-- How many of the first k slots depend on a variable.
abbrev pub slots_before : List ℕ → List ℕ → ℕ → ℕ → ℕ
slots_before t s k i = how_many k (λ j. depends_on t i (get_or s j 0))

-- The first k slots are counted.
pub record Slotting (t s kept work : List ℕ) (k : ℕ) : Type 0 where
  pub pool : WellFormed t s
  pub long : summary_words t ≤ length kept
  pub inside : k ≤ slot_count
  pub slots : (i : ℕ) → i < vars t → slots_in kept i ≡ slots_before t s k i
  pub room : length work ≡ marks + max_nodes
  pub few : (j : ℕ) → get_or work j 0 ≤ k

pub record Slotted (t s : List ℕ) (k : ℕ) (kept kept' work work' : List ℕ) : Type 0 where
  pub behind : Behind t kept kept'
  pub nodes : (i : ℕ) → i < vars t → nodes_in kept' i ≡ nodes_in kept i
  pub slots : (i : ℕ) → i < vars t → slots_in kept' i ≡ slots_before t s (suc k) i
  pub room : length work' ≡ length work
  pub few : (j : ℕ) → get_or work' j 0 ≤ suc k

-- No slot is counted yet.
pub record Working (t s kept : List ℕ) : Type 0 where
  pub pool : WellFormed t s
  pub long : summary_words t ≤ length kept
  pub none : (i : ℕ) → i < vars t → slots_in kept i ≡ 0

pub record Worked (t s kept kept' : List ℕ) : Type 0 where
  pub behind : Behind t kept kept'
  pub nodes : (i : ℕ) → i < vars t → nodes_in kept' i ≡ nodes_in kept i
  pub slots : (i : ℕ) → i < vars t → slots_in kept' i ≡ slots_at t s i
