-- Cutting by a list (document 01, port 8). It is defined from the function, like reduction: where a valuation's path meets a
-- listed node, the root included, the answer is the terminal that the links to it are sent to; else what the diagram says.
-- That sending the links and reducing gives the same words, where the root isn't listed, is `send_is_cut` of
-- proofs/Send.antt.
use Rattle.std.specs.Prelude.{ℕ, ◌^◌, ◌≡◌, Bool, true, false, cond, ◌&&◌, ◌||◌, List, [], ◌∷◌, length, get_or, leb, ltb, eqb}
use Rattle.diagram.specs.Diagram.{size, vars, holds, Accepted}
use Rattle.diagram.specs.Valuations.{meets, count_of}
use Rattle.diagram.specs.Verdict.{Outcome, accepted, row, first}
use Rattle.reduction.specs.Reduce.{reduced}
use Rattle.approximation.specs.Links.{relinked}

-- What is left of a diagram where links to marked nodes go to terminal t: as a function, and as a diagram.
unfoldable pub cut_holds : List ℕ → (ℕ → Bool) → ℕ → List Bool → Bool
cut_holds w marked t bs = cond (meets w bs marked) (eqb t 1) (holds w bs)

unfoldable pub cut : List ℕ → (ℕ → Bool) → ℕ → List ℕ
cut w marked t = reduced (vars w) (cut_holds w marked t)

-- The words in which links to marked nodes are sent to t.
abbrev pub send : (ℕ → Bool) → ℕ → List ℕ → List ℕ
send marked t w = relinked (λ q. cond (marked q) t q) w

-- A pointer is in a list.
unfoldable pub listed : List ℕ → ℕ → Bool
listed [] p = false
listed (q ∷ list) p = eqb p q || listed list p

abbrev pub under_by : List ℕ → List ℕ → List ℕ
under_by w list = cut w (listed list) 0

abbrev pub over_by : List ℕ → List ℕ → List ℕ
over_by w list = cut w (listed list) 1

-- 13 and 14: the first place of a pointer that names no node; the first place of a terminal, whether or not the root is
-- listed (document 02, E10). These checks come after those of the words.
unfoldable pub list_of : List ℕ → List ℕ → Outcome
list_of w list =
    let out = first (λ i. leb (size w) (get_or list i 0)) 0 (length list) in
    let end = first (λ i. ltb (get_or list i 0) 2) 0 (length list) in
    row 13 (ltb out (length list)) out
    (row 14 (ltb end (length list)) end
    (accepted (size w) (vars w)))

-- 18: no diagram has no nodes; and one node alone is false, so from above it is an answer only where the diagram holds for
-- no valuation, whatever its array (document 02, E5).
unfoldable pub under_size_of : List ℕ → ℕ → Outcome
under_size_of w t =
    row 18 (eqb t 0) 0
    (accepted (size w) (vars w))

unfoldable pub over_size_of : List ℕ → ℕ → Outcome
over_size_of w t =
    row 18 (eqb t 0 || (eqb t 1 && ltb 0 (count_of w))) 0
    (accepted (size w) (vars w))

-- 16 and 19: no overapproximation has more than 2^v valuations; from a constant by array length nothing is left to cut.
unfoldable pub between : List ℕ → ℕ → Bool
between w k = ltb 0 k && ltb k (2 ^ vars w)

unfoldable pub under_count_of : List ℕ → ℕ → Outcome
under_count_of w k =
    row 19 (between w k && eqb (size w) 2) 0
    (accepted (size w) (vars w))

unfoldable pub over_count_of : List ℕ → ℕ → Outcome
over_count_of w k =
    row 16 (ltb (2 ^ vars w) k) 0
    (row 19 (between w k && eqb (size w) 1) 0
    (accepted (size w) (vars w)))

-- What every answer promises: an accepted diagram over the same variables, that holds only where the input does (under),
-- or wherever it does (over).
pub record Under (w answer : List ℕ) : Type 0 where
  pub accepted : Accepted answer
  pub variables : vars answer ≡ vars w
  pub implies : (bs : List Bool) → length bs ≡ vars w → holds answer bs ≡ true → holds w bs ≡ true

pub record Over (w answer : List ℕ) : Type 0 where
  pub accepted : Accepted answer
  pub variables : vars answer ≡ vars w
  pub implied : (bs : List Bool) → length bs ≡ vars w → holds w bs ≡ true → holds answer bs ≡ true
