-- The count as an f64, by the Rust's rule: along a link a count is multiplied by two to the number of variables that the link
-- skips, and a node adds its two parts, low first, rounded once. `add` and `mul` are IEEE 754's of the library `lib.Ieee`.
-- Every scaling is exact (proofs/Counts.antt).
use Rattle.std.specs.Prelude.{ℕ, zero, suc, ◌-◌, ◌^◌, ◌≤◌, ◌≡◌, false, not, cond, List, pos, length, T, ltb, eqb, Float}
use Rattle.std.specs.Float.{fin, binary64}
use Rattle.std.specs.Float.Ieee.{add, mul, is_nan}
use Rattle.std.specs.Float.Ieee.Exact.{HasValue}
use Rattle.diagram.specs.Diagram.{var_of, low_of, high_of, vars, root, Ordered}
use Rattle.diagram.specs.Valuations.{count_of}
use Rattle.diagram.specs.Verdict.{Verdict, verdict_of, if_accepted, Checked}
use Rattle.diagram.specs.declared.verdict.Output.TheVariants.{Nothing}

-- 0.0, and 2 ^ k
abbrev pub nought : Float
nought = fin false 0 (pos 0)

abbrev pub power_of_two : ℕ → Float
power_of_two k = fin false 1 (pos k)

-- A terminal counts 0.0 or 1.0.
unfoldable pub terminal_of : ℕ → Float
terminal_of p = cond (eqb p 1) (power_of_two 0) nought

-- A count x of node q, as it counts at the node p whose link leads to q.
abbrev pub part_of : List ℕ → ℕ → ℕ → Float → Float
part_of w p q x = mul binary64 x (power_of_two (var_of w q - var_of w p - 1))

abbrev pub join_of : List ℕ → ℕ → Float → Float → Float
join_of w p low high = add binary64 (part_of w p (low_of w p) low) (part_of w p (high_of w p) high)

-- The count of node p, by at most k links.
unfoldable pub float_at : List ℕ → ℕ → ℕ → Float
float_at w zero p = terminal_of p
float_at w (suc k) p = cond (ltb p 2) (terminal_of p) (join_of w p (float_at w k (low_of w p)) (float_at w k (high_of w p)))

-- The root's, scaled for the variables above the root. Variables grow along a path, so none has more links than there are
-- variables.
abbrev pub cardinality_of : List ℕ → Float
cardinality_of w = mul binary64 (float_at w (vars w) (root w)) (power_of_two (var_of w (root w)))

-- What the operation answers: the check's verdict, the count, which is 0.0 where the words are refused, and the working room
-- as the check leaves it.
pub record CountsFloat (w room room' : List ℕ) (r : Verdict) (count : Float) : Type 0 where
  pub checked : Checked w Nothing room room' r
  pub counted : count ≡ if_accepted (verdict_of w Nothing (length room)) (cardinality_of w) nought

-- What is promised of the count of any ordered array, and so of any accepted one (`float_count` of proofs/Answers.antt): a count
-- of at most 2 ^ 53 comes out exactly, false gives 0.0, and no count is a NaN.
pub record FloatCount : Type 0 where
  pub exact : (w : List ℕ) → Ordered w → count_of w ≤ 2 ^ 53 → HasValue (cardinality_of w) false (count_of w) 1
  pub none : (w : List ℕ) → Ordered w → count_of w ≡ 0 → cardinality_of w ≡ nought
  pub never_nan : (w : List ℕ) → Ordered w → T (not (is_nan (cardinality_of w)))
