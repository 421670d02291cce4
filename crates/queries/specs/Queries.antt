-- Small queries (document 01, port 4): what they answer on an accepted array.
use Rattle.std.specs.Prelude.{ℕ, zero, suc, ◌≡◌, Bool, true, cond, ◌&&◌, List, [], ◌∷◌, ◌++◌, length, leb, ltb, eqb}
use Rattle.diagram.specs.Diagram.{var_of, low_of, high_of, size, vars, root}
use Rattle.diagram.specs.Verdict.{Verdict, verdict_of, verdict_for, if_accepted, Checked, Answers}
use Rattle.diagram.specs.declared.verdict.Output.TheVariants.{Nothing, PerVariable}

-- Where one link of a node goes to node 0, the other; where neither does, node 0, so that a walk ends there with a no.
unfoldable pub only_child : List ℕ → ℕ → ℕ
only_child w p = cond (eqb (low_of w p) 0) (high_of w p) (cond (eqb (high_of w p) 0) (low_of w p) 0)

-- The walk of `is_clause` and `is_valuation` in the Rust: where it stands after k steps. It starts at the root, goes on to
-- the only child, and ends at a terminal.
unfoldable pub along : List ℕ → ℕ → ℕ
along w zero = root w
along w (suc k) = let p = along w k in cond (ltb p 2) p (only_child w p)

-- Every number below n passes a test.
unfoldable pub every : ℕ → (ℕ → Bool) → Bool
every zero test = true
every (suc n) test = every n test && test n

-- A clause: the walk ends at node 1. Variables grow along it, so it has ended after as many steps as there are variables.
abbrev pub is_clause : List ℕ → Bool
is_clause w = eqb (along w (vars w)) 1

-- A valuation: besides, no variable is skipped. After i steps the walk stands at variable i.
abbrev pub is_valuation : List ℕ → Bool
is_valuation w = is_clause w && every (vars w) (λ i. eqb (var_of w (along w i)) i)

-- How many of the first n nodes test a variable, of which terminals test none; how many of all; and that for each of the
-- first k variables.
unfoldable pub testing : List ℕ → ℕ → ℕ → ℕ
testing w c zero = zero
testing w c (suc p) = cond (leb 2 p && eqb (var_of w p) c) (suc (testing w c p)) (testing w c p)

abbrev pub nodes_at : List ℕ → ℕ → ℕ
nodes_at w c = testing w c (size w)

unfoldable pub table : ℕ → (ℕ → ℕ) → List ℕ
table zero f = []
table (suc k) f = table k f ++ (f k ∷ [])

-- What a query answers: the check's verdict, and a value, which is `none` where the words are refused.
pub record Tells {A : Type 0} (w : List ℕ) (right none : A) (room room' : List ℕ) (r : Verdict) (told : A) : Type 0 where
  pub checked : Checked w Nothing room room' r
  pub told_is : told ≡ if_accepted (verdict_of w Nothing (length room)) right none

-- What `size_per_variable` answers: the check's verdict, and in the output a word for each variable.
abbrev pub Lists : (w room room' out out' : List ℕ) → Verdict → Type 0
Lists w = Answers (verdict_for PerVariable w) PerVariable (table (vars w) (nodes_at w)) w
