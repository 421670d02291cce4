-- "Nights worked out by hand" of document 01, and what document 02's E8 makes of a target that is met already, as one list of
-- cases, each with its reply (`nights` of proofs/Nights.antt).
use Rattle.std.specs.Prelude.{ℕ, ◌*◌, ◌≡◌, true, false, List, [], ◌∷◌, ◌++◌, map}
use Rattle.naturals.specs.Natural.{word_count}
use Rattle.diagram.specs.Diagram.{size, vars}
use Rattle.diagram.specs.Valuations.{count_of, weight_of}
use Rattle.diagram.specs.Verdict.{Outcome, accepted, refused, and_then, most, room_of, verdict_of}
use Rattle.diagram.specs.declared.verdict.Output.TheVariants.{Nothing, Diagram, Weights}
use Rattle.counts.specs.Paths.{path_count_of}
use Rattle.approximation.specs.Links.{table}
use Rattle.approximation.specs.Constants.{false_of, true_of}
use Rattle.approximation.specs.Cut.{under_by, over_by, list_of, under_count_of, over_count_of}
use Rattle.approximation.specs.Search.{Answer, order, under_to_size, over_to_size, under_to_count, over_to_count}
use Rattle.approximation.specs.Met.{under_size_answer, over_size_answer, under_count_answer, over_count_answer}

-- x2, or x0 and x1; and x0 and x1 and x2.
abbrev pub D : List ℕ
D = 3 ∷ 0 ∷ 0 ∷ 3 ∷ 1 ∷ 1 ∷ 2 ∷ 0 ∷ 1 ∷ 1 ∷ 2 ∷ 1 ∷ 0 ∷ 2 ∷ 3 ∷ []

abbrev pub all_three : List ℕ
all_three = 3 ∷ 0 ∷ 0 ∷ 3 ∷ 1 ∷ 1 ∷ 2 ∷ 0 ∷ 1 ∷ 1 ∷ 0 ∷ 2 ∷ 0 ∷ 0 ∷ 3 ∷ []

-- x1, over a root with low = high.
abbrev pub long_x1 : List ℕ
long_x1 = 2 ∷ 0 ∷ 0 ∷ 2 ∷ 1 ∷ 1 ∷ 1 ∷ 0 ∷ 1 ∷ 0 ∷ 2 ∷ 2 ∷ []

-- A reply: a refusal's number and place; numbers; or words, with their count or with the trials made.
pub data Reply : Type 0 where
  refusal : ℕ → ℕ → Reply
  numbers : List ℕ → Reply
  words : List ℕ → ℕ → Reply

abbrev pub unless : Outcome → Reply → Reply
unless (accepted n v) reply = reply
unless (refused number place) reply = refusal number place

-- What each request is answered with, where the output and the working room are what document 01 asks for: weights; the number
-- of paths; a cut by a list, with its count; a cut to a size or to a count, with its trials.
abbrev pub weights : List ℕ → Reply
weights w = unless (verdict_of w (Weights (word_count * size w)) (room_of w)) (numbers (table (weight_of w) 0 (size w)))

abbrev pub path_count : List ℕ → Reply
path_count w = unless (verdict_of w Nothing (room_of w)) (numbers (path_count_of w ∷ []))

abbrev pub checked : List ℕ → Outcome → Reply → Reply
checked w next reply = unless (and_then (verdict_of w (Diagram (3 * most w)) (room_of w)) next) reply

abbrev pub by : (List ℕ → List ℕ → List ℕ) → List ℕ → List ℕ → Reply
by cut w list = checked w (list_of w list) (words (cut w list) (count_of (cut w list)))

abbrev pub to_size : (List ℕ → ℕ → Answer) → List ℕ → ℕ → Reply
to_size search w t = checked w (accepted (size w) (vars w)) (words (search w t).words (search w t).trials)

abbrev pub to_count : (List ℕ → ℕ → Outcome) → (List ℕ → ℕ → Answer) → List ℕ → ℕ → Reply
to_count told search w k = checked w (told w k) (words (search w k).words (search w k).trials)

-- A diagram of three variables by the nodes after its terminals.
abbrev pub after : List ℕ → List ℕ
after nodes = true_of 3 ++ nodes

abbrev pub cases : List (Reply × Reply)
cases =
    -- C1, C2
    (weights D, numbers (0 ∷ 5 ∷ 3 ∷ 3 ∷ 5 ∷ []))
    ∷ (path_count D, numbers (3 ∷ []))
    -- C3, C4, C5
    ∷ (by under_by D (2 ∷ []), words (after (1 ∷ 0 ∷ 1 ∷ 0 ∷ 0 ∷ 2 ∷ [])) 2)
    ∷ (by under_by D (3 ∷ []), words (after (2 ∷ 0 ∷ 1 ∷ 0 ∷ 2 ∷ 0 ∷ [])) 2)
    ∷ (by over_by D (3 ∷ []), words (after (2 ∷ 0 ∷ 1 ∷ 0 ∷ 2 ∷ 1 ∷ [])) 6)
    -- C6, C7, C8
    ∷ (to_size under_to_size D 4, words (after (2 ∷ 0 ∷ 1 ∷ 0 ∷ 2 ∷ 0 ∷ [])) 2)
    ∷ (to_size under_to_size D 3, words (false_of 3) 2)
    ∷ (to_size over_to_size D 4, words (after (2 ∷ 0 ∷ 1 ∷ 0 ∷ 2 ∷ 1 ∷ [])) 2)
    -- C9, C10
    ∷ (to_count under_count_of under_to_count D 4, words (after (2 ∷ 0 ∷ 1 ∷ 0 ∷ 2 ∷ 0 ∷ [])) 1)
    ∷ (to_count under_count_of under_to_count D 1, words (false_of 3) 1)
    -- C11
    ∷ (weights all_three, numbers (0 ∷ 1 ∷ 1 ∷ 1 ∷ 1 ∷ []))
    ∷ (numbers (order all_three), numbers (4 ∷ 3 ∷ 2 ∷ []))
    ∷ (to_size under_to_size all_three 4, words (false_of 3) 2)
    -- C12
    ∷ (to_count over_count_of over_to_count D 8, words (true_of 3) 0)
    ∷ (to_count over_count_of over_to_count D 9, refusal 16 0)
    -- E8: size 3 is met by what is left of the array, but not by the array; size 4 is, and its words may be kept; count 2 too
    ∷ (to_size (under_size_answer false) long_x1 3, words (2 ∷ 0 ∷ 0 ∷ 2 ∷ 1 ∷ 1 ∷ 1 ∷ 0 ∷ 1 ∷ []) 1)
    ∷ (to_size (under_size_answer false) long_x1 4, words (2 ∷ 0 ∷ 0 ∷ 2 ∷ 1 ∷ 1 ∷ 1 ∷ 0 ∷ 1 ∷ []) 0)
    ∷ (to_size (under_size_answer true) long_x1 4, words long_x1 0)
    ∷ (to_size (over_size_answer false) long_x1 4, words (2 ∷ 0 ∷ 0 ∷ 2 ∷ 1 ∷ 1 ∷ 1 ∷ 0 ∷ 1 ∷ []) 0)
    ∷ (to_size (over_size_answer true) long_x1 4, words long_x1 0)
    ∷ (to_count under_count_of (under_count_answer false) long_x1 2, words (2 ∷ 0 ∷ 0 ∷ 2 ∷ 1 ∷ 1 ∷ 1 ∷ 0 ∷ 1 ∷ []) 0)
    ∷ (to_count under_count_of (under_count_answer true) long_x1 2, words long_x1 0)
    ∷ (to_count over_count_of (over_count_answer false) long_x1 2, words (2 ∷ 0 ∷ 0 ∷ 2 ∷ 1 ∷ 1 ∷ 1 ∷ 0 ∷ 1 ∷ []) 0)
    ∷ (to_count over_count_of (over_count_answer true) long_x1 2, words long_x1 0)
    ∷ []

-- In each case what is replied is what stands beside it.
abbrev pub Nights : Type 0
Nights = map (λ (c : Reply × Reply). c.0) cases ≡ map (λ (c : Reply × Reply). c.1) cases
