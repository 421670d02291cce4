-- Negation (document 01, port 5): constants exchange; else links 0 and 1 exchange and every node keeps its place.
use Rattle.std.specs.Prelude.{ℕ, ◌-◌, ◌≡◌, Bool, not, cond, List, [], ◌∷◌, ◌++◌, length, take, drop, ltb, eqb}
use Rattle.diagram.specs.Diagram.{size, vars, holds, Formed, Accepted}
use Rattle.diagram.specs.Verdict.{Verdict, verdict_for, Builds}
use Rattle.diagram.specs.declared.verdict.Output.TheVariants.{Diagram}

-- A link to 0 goes to 1 and a link to 1 goes to 0.
unfoldable pub exchanged : ℕ → ℕ
exchanged link = cond (ltb link 2) (1 - link) link

-- The links of every node: variable, low link, high link.
unfoldable pub exchanged_links : List ℕ → List ℕ
exchanged_links [] = []
exchanged_links (v ∷ []) = v ∷ []
exchanged_links (v ∷ low ∷ []) = v ∷ exchanged low ∷ []
exchanged_links (v ∷ low ∷ high ∷ nodes) = v ∷ exchanged low ∷ exchanged high ∷ exchanged_links nodes

-- False has one node, true two; in other diagrams the terminals stay.
unfoldable pub negated : List ℕ → List ℕ
negated w =
    cond (eqb (size w) 1) (vars w ∷ 0 ∷ 0 ∷ vars w ∷ 1 ∷ 1 ∷ [])
    (cond (eqb (size w) 2) (vars w ∷ 0 ∷ 0 ∷ [])
    (take 6 w ++ exchanged_links (drop 6 w)))

-- What negation answers: the check's verdict, and the negation in the output.
abbrev pub Negates : (w room room' out out' : List ℕ) → Verdict → ℕ → Type 0
Negates w = Builds (verdict_for Diagram w) (negated w) w

-- What is promised of the result (`opposites` of proofs/Meaning.antt): over the same variables it holds exactly where the
-- diagram doesn't, it is accepted again, and it negates to the diagram's own words.
pub record Opposites : Type 0 where
  pub variables : (w : List ℕ) → Accepted w → vars (negated w) ≡ vars w
  pub opposite : (w : List ℕ) → Accepted w → (bs : List Bool) → holds (negated w) bs ≡ not (holds w bs)
  pub accepted : (w : List ℕ) → Accepted w → Accepted (negated w)
  pub twice : (w : List ℕ) → Accepted w → negated (negated w) ≡ w

-- For the code inside, which no promise to a caller names: how many nodes the result has, and what it is made from.
unfoldable pub nodes_of : ℕ → ℕ
nodes_of n = cond (eqb n 1) 2 (cond (eqb n 2) 1 n)

pub record Ready (w : List ℕ) (v : ℕ) : Type 0 where
  pub formed : Formed w
  pub count : v ≡ vars w

-- A result in front of what was in the output.
abbrev pub over : List ℕ → List ℕ → List ℕ
over result output = result ++ drop (length result) output
