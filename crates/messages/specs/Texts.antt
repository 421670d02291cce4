-- What `shrink` says on standard error. Texts are lists of bytes.
use Rattle.std.specs.Prelude.{Option, Some, None, ℕ, ◌+◌, ◌-◌, ◌*◌, ◌≡◌, ◌≢◌, Bool, true, false, cond, ◌&&◌, ◌||◌, List, [], ◌++◌, length, leb, eqb}
use Rattle.diagram.specs.Limits.{max_nodes, max_variables}
use Rattle.diagram.specs.Refusal.{number_of}
use Rattle.diagram.specs.declared.refusal.Refusal.{Refusal}
use Rattle.writing.specs.Writing.{bytes}
use Rattle.blocks.specs.Block.{max_stored}
use Rattle.text.specs.Digits.{decimal_digits, hexadecimal_digits, decimal, hexadecimal}
use Rattle.report.specs.Report.{refused_at, feed}
use Rattle.request.specs.Request.{Aim, nodes, cases}

-- ---- words that ask for no cut

abbrev pub help_text : List ℕ
help_text = bytes "shrink keep size N       at most N nodes: cases are added until it fits\nshrink keep cases N      at least N cases\nshrink keep hex N        at least N cases, N in hexadecimal as weigh prints it\nshrink suppress size N   at most N nodes: cases are lost until it fits\nshrink suppress cases N  at most N cases\nshrink suppress hex N    at most N cases, N in hexadecimal as weigh prints it\nA condition that fits already loses no case and gains none, and comes out in the fewest nodes; as-is after N leaves its nodes as they are.\nReads a block file on standard input and writes it cut to fit to standard output, the summary to standard error; shrink nodes .. does the same with a node file, of up to 4096 nodes.\nkeep only adds cases, suppress only loses them. Numbers are decimal but for hex, with no zeros in front.\n"

abbrev pub unknown_text : List ℕ
unknown_text = bytes "shrink: the words are nodes where it is a node file, keep or suppress, size or cases or hex, a number, and as-is where it is wanted; shrink alone prints its help\n"

abbrev pub which_text : List ℕ
which_text = bytes "shrink: count does not say which base its number is in: write cases for decimal, hex for hexadecimal\n"

-- ---- a refusal: `refused 22 at 0: a check sum is wrong`

-- The sentence of each number that can come up. Those of a node begin with it: `node 4 can't be reached from the root`.
unfoldable pub of_node : ℕ → Bool
of_node number = (eqb number 6 || eqb number 17) || (leb 8 number && leb number 12)

unfoldable pub subject : ℕ → ℕ → List ℕ
subject number place = cond (of_node number) (bytes "node " ++ decimal place ++ bytes " ") []

-- `there are more than 120 nodes`
unfoldable pub more_than : ℕ → List ℕ → List ℕ
more_than most what = bytes "there are more than " ++ decimal most ++ what

-- The pairs for which `differ` lends a table: all that two block files can have.
abbrev pub lent_pairs : ℕ
lent_pairs = 16384

-- `more than 16384 pairs of nodes are reached`
unfoldable pub pairs_phrase : List ℕ
pairs_phrase = bytes "more than " ++ decimal lent_pairs ++ bytes " pairs of nodes are reached"

unfoldable pub phrase : ℕ → List ℕ
phrase number =
    cond (eqb number 4) (bytes "the output is too short")
    (cond (eqb number 6) (bytes "is not the terminal that stands there in a diagram, with node 0's variable count")
    (cond (eqb number 7) (more_than max_variables (bytes " variables"))
    (cond (eqb number 8) (bytes "has a variable that is not below the variable count")
    (cond (eqb number 9) (bytes "has a low link past the nodes")
    (cond (eqb number 10) (bytes "has a high link past the nodes")
    (cond (eqb number 11) (bytes "has a low child that is not at a larger variable")
    (cond (eqb number 12) (bytes "can't be reached from the root")
    (cond (eqb number 16) (bytes "the count to reach is above the number of all valuations")
    (cond (eqb number 17) (bytes "has a high child that is not at a larger variable")
    (cond (eqb number 18) (bytes "no answer has so few nodes; 2 are always enough")
    (cond (eqb number 19) (bytes "a constant can't be cut to a count between 0 and the number of all valuations")
    (cond (eqb number 21) (bytes "a block is short or missing, or bytes stand after the last one")
    (cond (eqb number 22) (bytes "a check sum is wrong")
    (cond (eqb number 23) (bytes "a block number, a node count or the order of blocks is wrong")
    (cond (eqb number 24) (bytes "unused bytes are not zero")
    (cond (eqb number 25) (more_than max_stored (bytes " nodes"))
    (cond (eqb number 31) (bytes "the two conditions don't have the same number of variables")
    (cond (eqb number 32) pairs_phrase
    (cond (eqb number 51) (bytes "the file is empty")
    (cond (eqb number 52) (bytes "the length of the file is not a multiple of ten bytes")
    (cond (eqb number 53) (more_than max_nodes (bytes " nodes"))
    (bytes "the input is refused"))))))))))))))))))))))

-- The refusal that has a number, or none.
abbrev pub Numbered : ℕ → Option Refusal → Type 0
Numbered number (Some reason) = number_of reason ≡ number
Numbered number None = (reason : Refusal) → number_of reason ≢ number

unfoldable pub refusal_text : ℕ → ℕ → List ℕ
refusal_text number place = refused_at number place ++ bytes ": " ++ subject number place ++ phrase number ++ feed

-- what is said of a settings file, which has two refusals of its own
unfoldable pub settings_phrase : ℕ → List ℕ
settings_phrase number =
    cond (eqb number 38) (bytes "the version is not known")
    (cond (eqb number 39) (bytes "a field is out of its range")
    (phrase number))

unfoldable pub settings_refusal_text : ℕ → ℕ → List ℕ
settings_refusal_text number place = refused_at number place ++ bytes ": " ++ subject number place ++ settings_phrase number ++ feed

-- ---- the summary, a fact a line

-- A number in decimal and beside it in hexadecimal: `added 26 (hex 1a)`.
unfoldable pub twice : List ℕ → ℕ → List ℕ → List ℕ
twice label n middle = label ++ decimal n ++ middle ++ hexadecimal n ++ bytes ")"

unfoldable pub target_text : Bool → Aim → List ℕ
target_text keep (nodes t) = bytes "target at most " ++ decimal t ++ bytes " nodes\n"
target_text true (cases k) = twice (bytes "target at least ") k (bytes " cases (hex ") ++ feed
target_text false (cases k) = twice (bytes "target at most ") k (bytes " cases (hex ") ++ feed

unfoldable pub sizes_text : ℕ → ℕ → List ℕ
sizes_text before after = bytes "nodes " ++ decimal before ++ (bytes " to " ++ decimal after) ++ feed

unfoldable pub counts_text : ℕ → ℕ → List ℕ
counts_text before after = twice (bytes "cases ") before (bytes " (hex ") ++ twice (bytes " to ") after (bytes " (hex ") ++ feed

unfoldable pub change_text : Bool → ℕ → ℕ → List ℕ
change_text true before after = twice (bytes "added ") (after - before) (bytes " (hex ") ++ feed
change_text false before after = twice (bytes "lost ") (before - after) (bytes " (hex ") ++ feed

unfoldable pub trials_text : ℕ → List ℕ
trials_text trials = bytes "trials " ++ decimal trials ++ feed

-- No summary is longer (proofs/Fitting.antt): its words, seven numbers in decimal and four in hexadecimal, each with all the digits that
-- there may be. The code has the same number in src/summary.rt.
abbrev pub summary_words : ℕ
summary_words = length (bytes "target at least  cases (hex )\nnodes  to \ncases  (hex ) to  (hex )\nadded  (hex )\ntrials \n")

abbrev pub longest_summary : ℕ
longest_summary = summary_words + 7 * decimal_digits + 4 * hexadecimal_digits
