-- The map of the working room while a target is searched for: where each of its parts begins, for a diagram of which m is the
-- larger of its number of nodes and 2. Each part stands alone. The code has the same places, in words for each node, in
-- src/lib.rt. No promise to a caller rests on this file.
--     from 0 on      the order: the non-terminals by priority
--     marks_from      the marks: zero where a node is not marked
--     links_from      the links of the chains, a word for each node
--     counts_from     what is left at each node, a number for each
--     weights_from    the weights, a number for each node
--     tables_from     the tables of a cut that is built: a word for each node, then
--     answer_from     the words of the cut, which are the answer at last
--     tables_to       the end of these tables
--     search_to       the end of all
use Rattle.std.specs.Prelude.{ℕ, ◌+◌, ◌*◌}
use Rattle.naturals.specs.Natural.{word_count}

abbrev pub marks_from : ℕ → ℕ
marks_from m = m

abbrev pub marks_to : ℕ → ℕ
marks_to m = 2 * m

abbrev pub links_from : ℕ → ℕ
links_from m = 2 * m

abbrev pub counts_from : ℕ → ℕ
counts_from m = 3 * m

abbrev pub counts_to : ℕ → ℕ
counts_to m = (3 + word_count) * m

abbrev pub weights_from : ℕ → ℕ
weights_from m = (3 + word_count) * m

abbrev pub weights_to : ℕ → ℕ
weights_to m = (3 + 2 * word_count) * m

abbrev pub tables_from : ℕ → ℕ
tables_from m = (3 + 2 * word_count) * m

abbrev pub answer_from : ℕ → ℕ
answer_from m = (4 + 2 * word_count) * m

abbrev pub tables_to : ℕ → ℕ
tables_to m = (9 + 2 * word_count) * m

abbrev pub search_to : ℕ → ℕ
search_to m = tables_to m
