-- The part of a pool's table that is walked: all of it, or the terminals where there are no variables. Free places read as nodes at variable 0,
-- which is in order only where there is a variable 0; and no node but the terminals is over no variables. No promise to a caller names this file.
use Rattle.std.specs.Prelude.{ℕ, cond, List, length, take, eqb}
use Rattle.diagram.specs.Diagram.{vars}
use Rattle.pool.specs.Pool.{terminal_words}

unfoldable pub walked_words : List ℕ → ℕ
walked_words t = cond (eqb (vars t) 0) terminal_words (length t)

abbrev pub walked : List ℕ → List ℕ
walked t = take (walked_words t) t
