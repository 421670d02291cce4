-- The report of a file, block file or node file (document 01, "The program reads a block file on standard input"). Texts are lists of bytes.
use Rattle.std.specs.Prelude.{ℕ, zero, suc, ◌+◌, ◌*◌, cond, List, [], ◌∷◌, ◌++◌, length, take, drop, replicate, leb}
use Rattle.naturals.specs.Natural.{value, word_count}
use Rattle.diagram.specs.Limits.{max_nodes, max_words, room_per_node}
use Rattle.diagram.specs.Diagram.{var_of, size, vars}
use Rattle.diagram.specs.Valuations.{count_of, weight_of}
use Rattle.diagram.specs.Verdict.{Outcome, accepted, refused, verdict_for}
use Rattle.diagram.specs.declared.verdict.Output.TheVariants.{Weights}
use Rattle.writing.specs.Writing.{bytes}
use Rattle.blocks.specs.Block.{nodes, refused as unread}
use Rattle.block_file.specs.File.{Reading, reading}
use Rattle.forms.specs.Form.{read_as}
use Rattle.forms.specs.declared.Form.{Form}
use Rattle.text.specs.Digits.{decimal, hexadecimal}

-- a line feed
abbrev pub feed : List ℕ
feed = 10 ∷ []

-- ---- lines, each with a line feed at its end

-- refused 12 at 4, without and with the line feed
unfoldable pub refused_at : ℕ → ℕ → List ℕ
refused_at number place = bytes "refused " ++ decimal number ++ (bytes " at " ++ decimal place)

abbrev pub refusal : ℕ → ℕ → List ℕ
refusal number place = refused_at number place ++ feed

-- The weight that the words of a node in a table hold, where they are there.
abbrev pub weight_in : List ℕ → ℕ → ℕ
weight_in table p = cond (leb (word_count * p + word_count) (length table)) (value (take word_count (drop (word_count * p) table))) 0

-- node 2 var 2 weight 3, with any numbers for weights
unfoldable pub line : List ℕ → ℕ → ℕ → List ℕ
line w weight p = bytes "node " ++ decimal p ++ (bytes " var " ++ decimal (var_of w p)) ++ (bytes " weight " ++ hexadecimal weight) ++ feed

unfoldable pub lines : List ℕ → (ℕ → ℕ) → ℕ → ℕ → List ℕ
lines w weight p zero = []
lines w weight p (suc c) = line w (weight p) p ++ lines w weight (suc p) c

-- vars 3, nodes 5, count 5
unfoldable pub head : List ℕ → ℕ → List ℕ
head w count = bytes "vars " ++ decimal (vars w) ++ (bytes "\nnodes " ++ decimal (size w)) ++ (bytes "\ncount " ++ hexadecimal count) ++ feed

-- ---- the report

-- A diagram's refusal, or its count and the weight of each of its nodes.
abbrev pub weighed_report : List ℕ → Outcome → List ℕ
weighed_report w (accepted n v) = head w (count_of w) ++ lines w (weight_of w) 0 (size w)
weighed_report w (refused number place) = refusal number place

-- The words of its weights and of the room are those that the most nodes need.
abbrev pub weights_lent : ℕ
weights_lent = word_count * max_nodes

abbrev pub room_lent : ℕ
room_lent = room_per_node * max_nodes

unfoldable pub diagram_report : List ℕ → List ℕ
diagram_report w = weighed_report w (verdict_for Weights w room_lent weights_lent)

-- The refusal of the file, or the report of the diagram that stands in the output.
abbrev pub stored_report : Reading → List ℕ
stored_report (reading (nodes n) left) = diagram_report (take (3 * n) left)
stored_report (reading (unread number place) left) = refusal number place

-- What a file is read into.
abbrev pub blank : List ℕ
blank = replicate max_words 0

unfoldable pub report_of : Form → List ℕ → List ℕ
report_of form s = stored_report (read_as form s blank)
