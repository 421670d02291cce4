-- The pairs that the walk meets are those reached from the two roots, each once (`walks` of proofs/Numbering.antt).
use Rattle.std.specs.Prelude.{ℕ, ◌≤◌, ◌≡◌, List}
use Rattle.diagram.specs.Diagram.{vars, Ordered}
use Rattle.counts.specs.Counting.{Number}
use Rattle.pairs.specs.Pairs.{max_pairs, Reached, pairs_of}

pub record Walks : Type 0 where
  pub pairs : (a b : List ℕ) → Ordered a → Ordered b → vars a ≡ vars b → Number (Reached a b) (pairs_of a b)
  -- a table for so many pairs serves any two diagrams
  pub few : (a b : List ℕ) → Ordered a → Ordered b → vars a ≡ vars b → pairs_of a b ≤ max_pairs
