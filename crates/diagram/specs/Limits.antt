-- Document 01, "Numbers": each limit once; the words of a count are `word_count` of crates/naturals. The code has the same
-- numbers in src/limits.rt.
use Rattle.std.specs.Prelude.{ℕ, ◌*◌}

-- the most nodes of a diagram
abbrev pub max_nodes : ℕ
max_nodes = 4096

-- and so the most words, three for each node
abbrev pub max_words : ℕ
max_words = 3 * max_nodes

-- the most variables
abbrev pub max_variables : ℕ
max_variables = 511

-- words of working room for each node
abbrev pub room_per_node : ℕ
room_per_node = 128
