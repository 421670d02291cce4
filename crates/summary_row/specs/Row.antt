-- The words of a row of structures: of each record the nodes, then the slots. So all that is promised of the summary is said once, of words.
use Rattle.std.specs.Prelude.{ℕ, List, [], ◌∷◌}
use Rattle.summary_row.specs.declared.Signal.{Signal}

unfoldable pub words_of : List Signal → List ℕ
words_of [] = []
words_of (c ∷ cs) = c.nodes ∷ c.slots ∷ words_of cs
