-- What is promised of cuts, of any accepted array (`demand2` of proofs/Demand2.antt). Demand 2: cutting by a list changes the
-- answer only for valuations whose path meets a listed node; under makes all of these fail, over makes all of them hold.
use Rattle.std.specs.Prelude.{ℕ, ◌+◌, ◌≤◌, ◌<◌, ◌≡◌, ◌↔◌, ◌⊎◌, Bool, true, false, ◌&&◌, List, [], length, get_or, leb, ltb}
use Rattle.diagram.specs.Diagram.{size, vars, root, holds, Accepted}
use Rattle.diagram.specs.Valuations.{meets, count_of, weight_of}
use Rattle.diagram.specs.Verdict.{accepted, refused}
use Rattle.reduction.specs.Reduce.{reduce}
use Rattle.approximation.specs.Constants.{false_of, true_of}
use Rattle.approximation.specs.Cut.{listed, under_by, over_by, list_of, under_size_of, over_size_of, under_count_of, over_count_of, Under, Over, send}
use Rattle.approximation.specs.Search.{Answer, goes_first, order, under_to_size, over_to_size, under_to_count, over_to_count}
use Rattle.approximation.specs.Met.{under_size_answer, over_size_answer, under_count_answer, over_count_answer, Settles}
use Rattle.approximation.specs.Sorted.{Distinct, Sorted}
use Rattle.approximation.specs.Rules.{UnderSize, OverSize, UnderCount, OverCount}

-- Every pointer of a list has a property; the one at place i has it, and none before it.
abbrev pub Each : List ℕ → (ℕ → Type 0) → Type 0
Each list P = (j : ℕ) → j < length list → P (get_or list j 0)

pub record FirstPlace (list : List ℕ) (P : ℕ → Type 0) (i : ℕ) : Type 0 where
  pub place : i < length list
  pub here : P (get_or list i 0)
  pub before : (j : ℕ) → j < i → P (get_or list j 0) → ⊥

-- What refuses a list: a pointer that names no node, then a terminal, each at its first place. Document 02, E10, has taken
-- 01's exception away: a listed root saves no terminal, also where it is itself the terminal.
pub record ListVerdict (w list : List ℕ) : Type 0 where
  pub accepts : (n v : ℕ) → (list_of w list ≡ accepted n v) ↔ (Each list (λ p. (2 ≤ p) × (p < size w)) × (n ≡ size w) × (v ≡ vars w))
  pub refuses : (number place : ℕ) → list_of w list ≡ refused number place → (number ≡ 13) ⊎ (number ≡ 14)
  pub thirteen : (i : ℕ) → (list_of w list ≡ refused 13 i) ↔ FirstPlace list (λ p. size w ≤ p) i
  pub fourteen : (i : ℕ) → (list_of w list ≡ refused 14 i) ↔ (Each list (λ p. p < size w) × FirstPlace list (λ p. p < 2) i)
  -- so of one or two nodes, whose root is a terminal, only the empty list isn't refused
  pub constants : size w ≤ 2 → list_of w list ≡ accepted (size w) (vars w) → list ≡ []

-- By a list.
pub record ByList (w list : List ℕ) : Type 0 where
  pub elsewhere : (bs : List Bool) → length bs ≡ vars w → meets w bs (listed list) ≡ false
      → (holds (under_by w list) bs ≡ holds w bs) × (holds (over_by w list) bs ≡ holds w bs)
  pub met : (bs : List Bool) → length bs ≡ vars w → meets w bs (listed list) ≡ true
      → (holds (under_by w list) bs ≡ false) × (holds (over_by w list) bs ≡ true)
  -- so one implies the input, and the input implies the other
  pub under : Under w (under_by w list)
  pub over : Over w (over_by w list)
  -- reducing changes no word
  pub reduced : (reduce (under_by w list) ≡ under_by w list) × (reduce (over_by w list) ≡ over_by w list)
  -- document 01's way: links to listed nodes are sent to 0 or to 1, then it is reduced; a listed root gives false or true
  -- (01 had it so with terminals beside it too; such a list is refused 14 now)
  pub sent : listed list (root w) ≡ false
      → (under_by w list ≡ reduce (send (listed list) 0 w)) × (over_by w list ≡ reduce (send (listed list) 1 w))
  pub rooted : listed list (root w) ≡ true → (under_by w list ≡ false_of (vars w)) × (over_by w list ≡ true_of (vars w))
  -- repeats are harmless: only members count
  pub members : (others : List ℕ) → ((p : ℕ) → listed list p ≡ listed others p)
      → (under_by w list ≡ under_by w others) × (over_by w list ≡ over_by w others)
  -- of a list that isn't refused: no node is added, and each listed node is a node less, also the root. Under 01's rules
  -- a constant's root could be listed, and the root was an exception here: false by [0] gave true, in two nodes
  pub fits : list_of w list ≡ accepted (size w) (vars w) → (size (under_by w list) ≤ size w) × (size (over_by w list) ≤ size w)
  pub smaller : list_of w list ≡ accepted (size w) (vars w) → Distinct list
      → (size (under_by w list) + length list ≤ size w) × (size (over_by w list) + length list ≤ size w)

-- A diagram that holds for no valuation.
abbrev pub Nowhere : List ℕ → Type 0
Nowhere w = (bs : List Bool) → length bs ≡ vars w → holds w bs ≡ false

-- What refuses a size, with its one number: no nodes at all, and from above one node, where the diagram holds for some
-- valuation.
pub record SizeVerdict (w : List ℕ) (t : ℕ) : Type 0 where
  pub under_accepts : (n v : ℕ) → (under_size_of w t ≡ accepted n v) ↔ ((1 ≤ t) × (n ≡ size w) × (v ≡ vars w))
  pub over_accepts : (n v : ℕ) → (over_size_of w t ≡ accepted n v) ↔ (((2 ≤ t) ⊎ ((t ≡ 1) × Nowhere w)) × (n ≡ size w) × (v ≡ vars w))
  pub under_refuses : (number place : ℕ) → under_size_of w t ≡ refused number place → (number ≡ 18) × (place ≡ 0)
  pub over_refuses : (number place : ℕ) → over_size_of w t ≡ refused number place → (number ≡ 18) × (place ≡ 0)
  -- no answer is missed: where there is one on the right side with at most t nodes, the size isn't refused
  pub under_found : (answer : List ℕ) → Under w answer → size answer ≤ t → under_size_of w t ≡ accepted (size w) (vars w)
  pub over_found : (answer : List ℕ) → Over w answer → size answer ≤ t → over_size_of w t ≡ accepted (size w) (vars w)

-- The priorities: every non-terminal once, smallest weight first, then biggest pointer first. No other list is so.
pub record Priorities (w list : List ℕ) : Type 0 where
  pub sorted : Sorted (goes_first (weight_of w)) list
  pub distinct : Distinct list
  pub nodes : (p : ℕ) → listed list p ≡ (leb 2 p && ltb p (size w))

pub record Demand2 : Type 0 where
  pub list_verdict : (w list : List ℕ) → ListVerdict w list
  pub by_list : (w list : List ℕ) → Accepted w → ByList w list
  pub empty : (w : List ℕ) → (under_by w [] ≡ reduce w) × (over_by w [] ≡ reduce w)
  pub priorities : (w : List ℕ) → Priorities w (order w)
  pub no_others : (w list : List ℕ) → Priorities w list → list ≡ order w
  -- to a size that is not refused, whether or not the words are to be kept as they are: on the right side, with at most t nodes
  pub size_verdict_lem : (w : List ℕ) (t : ℕ) → SizeVerdict w t
  pub size_under : (as_is : Bool) (w : List ℕ) (t : ℕ) → Accepted w → under_size_of w t ≡ accepted (size w) (vars w)
      → Under w (under_size_answer as_is w t).words × (size (under_size_answer as_is w t).words ≤ t)
  pub size_over : (as_is : Bool) (w : List ℕ) (t : ℕ) → Accepted w → over_size_of w t ≡ accepted (size w) (vars w)
      → Over w (over_size_answer as_is w t).words × (size (over_size_answer as_is w t).words ≤ t)
  -- to a count that is not refused, likewise: at most k valuations from below, at least k from above
  pub count_under : (as_is : Bool) (w : List ℕ) (k : ℕ) → Accepted w → under_count_of w k ≡ accepted (size w) (vars w)
      → Under w (under_count_answer as_is w k).words × (count_of (under_count_answer as_is w k).words ≤ k)
  pub count_over : (as_is : Bool) (w : List ℕ) (k : ℕ) → Accepted w → over_count_of w k ≡ accepted (size w) (vars w)
      → Over w (over_count_answer as_is w k).words × (k ≤ count_of (over_count_answer as_is w k).words)
  -- where they are to be kept these are the answers of document 01, else the same functions, reduced, after as many trials
  pub settles_size_under : (w : List ℕ) (t : ℕ) → Accepted w → Settles (under_to_size w t) (λ as_is. under_size_answer as_is w t)
  pub settles_size_over : (w : List ℕ) (t : ℕ) → Accepted w → Settles (over_to_size w t) (λ as_is. over_size_answer as_is w t)
  pub settles_count_under : (w : List ℕ) (k : ℕ) → Accepted w → under_count_of w k ≡ accepted (size w) (vars w)
      → Settles (under_to_count w k) (λ as_is. under_count_answer as_is w k)
  pub settles_count_over : (w : List ℕ) (k : ℕ) → Accepted w → over_count_of w k ≡ accepted (size w) (vars w)
      → Settles (over_to_count w k) (λ as_is. over_count_answer as_is w k)
  -- the answers of document 01 and their trials are what the sentences of Rules.antt say, and no other
  pub under_size : (w : List ℕ) (t : ℕ) → under_size_of w t ≡ accepted (size w) (vars w)
      → (a : Answer) → UnderSize w t a ↔ (a ≡ under_to_size w t)
  pub over_size : (w : List ℕ) (t : ℕ) → Accepted w → over_size_of w t ≡ accepted (size w) (vars w)
      → (a : Answer) → OverSize w t a ↔ (a ≡ over_to_size w t)
  pub under_count : (w : List ℕ) (k : ℕ) → Accepted w → under_count_of w k ≡ accepted (size w) (vars w)
      → (a : Answer) → UnderCount w k a ↔ (a ≡ under_to_count w k)
  pub over_count : (w : List ℕ) (k : ℕ) → Accepted w → over_count_of w k ≡ accepted (size w) (vars w)
      → (a : Answer) → OverCount w k a ↔ (a ≡ over_to_count w k)
