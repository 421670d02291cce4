-- The verdict on any words (docs/RULES.md): the checks in their order, each with its number and place.
use Rattle.std.specs.Prelude.{Result, Ok, Err, ℕ, zero, suc, ◌-◌, ◌*◌, ◌%◌, max, ◌≡◌, Bool, false, cond, not, ◌&&◌, ◌||◌, List, ◌++◌, length, drop, replicate, leb, ltb, eqb}
use Rattle.naturals.specs.Natural.{word_count}
use Rattle.diagram.specs.Limits.{max_nodes, max_variables, room_per_node}
use Rattle.diagram.specs.Diagram.{var_of, low_of, high_of, size, vars, root}
use Rattle.diagram.specs.declared.verdict.Extent.{Extent}
use Rattle.diagram.specs.declared.verdict.Refused.{Refused}
use Rattle.diagram.specs.declared.verdict.Finding.{Finding}
use Rattle.diagram.specs.Refusal.{number_of}
use Rattle.diagram.specs.declared.verdict.Output.{Output}
use Rattle.diagram.specs.declared.verdict.Output.TheVariants.{Nothing, Diagram, Weights, PerVariable}

-- Accepted with the counts n and v, or refused with number and place.
pub data Outcome : Type 0 where
  accepted : ℕ → ℕ → Outcome
  refused : ℕ → ℕ → Outcome

-- What the code's verdict says.
abbrev pub Verdict : Type 0
Verdict = Result Extent Refused

abbrev pub said : Verdict → Outcome
said (Ok x) = accepted x.nodes x.vars
said (Err e) = refused (number_of e.reason) e.place

-- What an answer about a diagram says of the diagram, and what it answers: nothing in particular, `none`, where it was refused.
abbrev pub verdict_in : {A : Type 0} → Result (Finding A) Refused → Verdict
verdict_in (Ok a) = Ok a.extent
verdict_in (Err e) = Err e

abbrev pub value_in : {A : Type 0} → A → Result (Finding A) Refused → A
value_in none (Ok a) = a.value
value_in none (Err e) = none

-- A row of the table: the refusal where its test holds, else what the rows below say.
unfoldable pub row : ℕ → Bool → ℕ → Outcome → Outcome
row number test place below = cond test (refused number place) below

-- A refusal ends the checks; after an acceptance the next ones run.
abbrev pub and_then : Outcome → Outcome → Outcome
and_then (accepted n v) next = next
and_then (refused number place) next = refused number place

-- m: the larger of n and 2. The words of working room that are asked for.
abbrev pub most : List ℕ → ℕ
most w = max (size w) 2

abbrev pub room_of : List ℕ → ℕ
room_of w = room_per_node * most w

-- The words of output that are asked for are more than were lent.
unfoldable pub short : List ℕ → Output → Bool
short w Nothing = false
short w (Diagram lent) = ltb lent (3 * most w)
short w (Weights lent) = ltb lent (word_count * size w)
short w (PerVariable lent) = ltb lent max_variables

-- 1 to 5: lengths.
unfoldable pub lengths_of : List ℕ → Output → ℕ → Outcome
lengths_of w output room =
    row 1 (eqb (length w) 0) 0
    (row 2 (not (eqb (length w % 3) 0)) 0
    (row 3 (ltb max_nodes (size w)) 0
    (row 4 (short w output) 0
    (row 5 (ltb room (room_of w)) 0
    (accepted (size w) (vars w))))))

-- 6 and 7: terminals, and the variable count.
unfoldable pub is_terminal : List ℕ → ℕ → Bool
is_terminal w p = eqb (var_of w p) (vars w) && (eqb (low_of w p) p && eqb (high_of w p) p)

unfoldable pub terminals_of : List ℕ → Outcome
terminals_of w =
    row 6 (not (is_terminal w 0)) 0
    (row 6 (ltb 1 (size w) && not (is_terminal w 1)) 1
    (row 7 (ltb max_variables (vars w)) 0
    (accepted (size w) (vars w))))

-- The first of the k numbers from p on that passes a test, or the number after them. The first non-terminal that
-- passes a test, or n or more where none does.
unfoldable pub first : (ℕ → Bool) → ℕ → ℕ → ℕ
first test p zero = p
first test p (suc k) = cond (test p) p (first test (suc p) k)

abbrev pub first_node : List ℕ → (ℕ → Bool) → ℕ
first_node w test = first test 2 (size w - 2)

-- 8 to 10, node by node: the variable, then low, then high. (From node p on, k nodes.)
unfoldable pub ranges_from : List ℕ → ℕ → ℕ → Outcome
ranges_from w p zero = accepted (size w) (vars w)
ranges_from w p (suc k) =
    row 8 (leb (vars w) (var_of w p)) p
    (row 9 (leb (size w) (low_of w p)) p
    (row 10 (leb (size w) (high_of w p)) p
    (ranges_from w (suc p) k)))

unfoldable pub ranges_of : List ℕ → Outcome
ranges_of w = ranges_from w 2 (size w - 2)

-- Some number below n passes a test.
unfoldable pub any : ℕ → (ℕ → Bool) → Bool
any zero test = false
any (suc n) test = any n test || test n

-- p is reached from the root within k links: within fewer, or as a child of a non-terminal that is. As many links as
-- there are nodes reach all that can be reached (`reaches_sound`, `reaches_complete`: this test says `Reach`).
unfoldable pub is_child : List ℕ → ℕ → ℕ → Bool
is_child w q p = leb 2 q && (eqb (low_of w q) p || eqb (high_of w q) p)

unfoldable pub reached_in : List ℕ → ℕ → ℕ → Bool
reached_in w zero p = eqb p (root w)
reached_in w (suc k) p = reached_in w k p || any (size w) (λ q. reached_in w k q && is_child w q p)

unfoldable pub reaches : List ℕ → ℕ → Bool
reaches w p = reached_in w (size w) p

-- 11 and 17: the smallest reachable non-terminal with a child not at a larger variable; 11 if its low child is such, else
-- 17, for its high child. Then 12: the smallest non-terminal that is out of reach.
abbrev pub is_above_low : List ℕ → ℕ → Bool
is_above_low w p = ltb (var_of w p) (var_of w (low_of w p))

abbrev pub is_above_high : List ℕ → ℕ → Bool
is_above_high w p = ltb (var_of w p) (var_of w (high_of w p))

unfoldable pub is_above : List ℕ → ℕ → Bool
is_above w p = is_above_low w p && is_above_high w p

unfoldable pub is_broken : List ℕ → ℕ → Bool
is_broken w p = reaches w p && not (is_above w p)

unfoldable pub graph_of : List ℕ → Outcome
graph_of w =
    let broken = first_node w (is_broken w) in
    let lost = first_node w (λ p. not (reaches w p)) in
    row 11 (ltb broken (size w) && not (is_above_low w broken)) broken
    (row 17 (ltb broken (size w)) broken
    (row 12 (ltb lost (size w)) lost
    (accepted (size w) (vars w))))

-- The checks in their order, for words `w`, the output that an operation lends and the length of its working room.
unfoldable pub contents_of : List ℕ → Outcome
contents_of w = and_then (terminals_of w) (and_then (ranges_of w) (graph_of w))

unfoldable pub verdict_of : List ℕ → Output → ℕ → Outcome
verdict_of w output room = and_then (lengths_of w output room) (contents_of w)

-- One thing where an outcome is an acceptance, another where it is a refusal.
abbrev pub if_accepted : {A : Type 0} → Outcome → A → A → A
if_accepted (accepted n v) yes-case no-case = yes-case
if_accepted (refused number place) yes-case no-case = no-case

-- What is left in the working room: refusal 5 and those before it, the lengths, leave it as it was; those after it, and
-- all answers, leave the words that were asked for zero and the rest as it was.
abbrev pub cleared : List ℕ → List ℕ → List ℕ
cleared w room = replicate (room_of w) 0 ++ drop (room_of w) room

abbrev pub room_after : List ℕ → Output → List ℕ → List ℕ
room_after w output room = if_accepted (lengths_of w output (length room)) (cleared w room) room

-- What is left in an output: after a refusal it is as it was; an answer stands in front of what was there.
abbrev pub output_after : Outcome → List ℕ → List ℕ → List ℕ
output_after verdict answer output = if_accepted verdict (answer ++ drop (length answer) output) output

-- What every check promises: the verdict, and what is left in the room.
pub record Checked (w : List ℕ) (output : Output) (room room' : List ℕ) (r : Verdict) : Type 0 where
  pub verdict : said r ≡ verdict_of w output (length room)
  pub left : room' ≡ room_after w output room

-- The check's verdict for an output of a kind, by the lengths of the room and of the output.
abbrev pub verdict_for : (ℕ → Output) → List ℕ → ℕ → ℕ → Outcome
verdict_for kind w room out = verdict_of w (kind out) room

-- What every operation with an output promises: what its verdict says, by the lengths of room and output; the room as the check
-- leaves it; and the answer in front of what was in the output. What an operation adds stands beside this, in its own crate.
pub record Answers (outcome : ℕ → ℕ → Outcome) (kind : ℕ → Output) (answer w room room' out out' : List ℕ) (r : Verdict) : Type 0 where
  pub verdict : said r ≡ outcome (length room) (length out)
  pub left : room' ≡ room_after w (kind (length out)) room
  pub output : out' ≡ output_after (outcome (length room) (length out)) answer out

-- And where the answer is a diagram: so many nodes stand in the output, none where it is as it was.
pub record Builds (outcome : ℕ → ℕ → Outcome) (answer w room room' out out' : List ℕ) (r : Verdict) (count : ℕ) : Type 0 where
  pub answers : Answers outcome Diagram answer w room room' out out' r
  pub nodes : count ≡ if_accepted (outcome (length room) (length out)) (size answer) 0
