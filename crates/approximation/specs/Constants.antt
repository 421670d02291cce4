-- The constants of v variables as diagrams.
use Rattle.std.specs.Prelude.{ℕ, List, [], ◌∷◌}

-- One node alone is false, two are true.
abbrev pub false_of : ℕ → List ℕ
false_of v = v ∷ 0 ∷ 0 ∷ []

abbrev pub true_of : ℕ → List ℕ
true_of v = v ∷ 0 ∷ 0 ∷ v ∷ 1 ∷ 1 ∷ []
