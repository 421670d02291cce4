-- How the code finds 8 to 10: the number of what is out of range at a node, 0 where nothing is, and the first node at which
-- it isn't 0; and which of 11 and 17 it gives. Auxiliary: no promise to a caller names these (`ranges_by` of
-- proofs/Faulty.antt and `refuse_order` of proofs/Rows.antt say that they give the rows of the verdict).
use Rattle.std.specs.Prelude.{◌≡◌, ◌<◌, ◌/◌, Option, Some, None, ℕ, Bool, cond, not, List, length, leb, eqb}
use Rattle.diagram.specs.declared.refusal.Refusal.{Refusal}
use Rattle.diagram.specs.declared.verdict.Refused.{Refused}
use Rattle.diagram.specs.Refusal.{number_of}
use Rattle.diagram.specs.Verdict.{first}
use Rattle.diagram.specs.Diagram.{var_of, low_of, high_of}

-- The nodes and variables are counted apart, so that a stretch of the words can be looked at.
unfoldable pub fault_of : ℕ → ℕ → List ℕ → ℕ → ℕ
fault_of n v w p = cond (leb v (var_of w p)) 8 (cond (leb n (low_of w p)) 9 (cond (leb n (high_of w p)) 10 0))

abbrev pub is_faulty : ℕ → ℕ → List ℕ → ℕ → Bool
is_faulty n v w p = not (eqb (fault_of n v w p) 0)

-- The number of a fault, and 0 where there is none.
abbrev pub number_in : Option Refusal → ℕ
number_in (Some r) = number_of r
number_in None = 0

-- The first node of a stretch with a fault, and what that is.
pub record IsFirstFault (n v : ℕ) (w : List ℕ) (e : Refused) : Type 0 where
  pub place : e.place ≡ first (is_faulty n v w) 0 (length w / 3)
  pub within : e.place < length w / 3
  pub number : number_of e.reason ≡ fault_of n v w e.place

-- The number of a node with a child not at a larger variable, by whether its low child is at one.
abbrev pub order_number : Bool → ℕ
order_number aboveLow = cond aboveLow 17 11
