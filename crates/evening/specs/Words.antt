-- A setting is what words of `shrink` mean, and nothing else: one definition each way.
use Rattle.std.specs.Prelude.{ℕ, Bool, cond, eqb}
use Rattle.naturals.specs.Natural.{value}
use Rattle.naturals.specs.Spelling.{words_of}
use Rattle.request.specs.Request.{Aim, nodes, cases, Meaning, cut}
use Rattle.setting_blocks.specs.Settings.{target_words}
use Rattle.setting_blocks.specs.declared.setting.Setting.{Setting}

-- direction 1, over, is keep; kind 1 is a number of cases
unfoldable pub aim_in : Setting → Aim
aim_in x = cond (eqb x.kind 1) (cases (value x.target)) (nodes (value x.target))

unfoldable pub meaning_of : Setting → Meaning
meaning_of x = cut (eqb x.direction 1) (eqb x.as_is 1) (aim_in x)

abbrev pub bit : Bool → ℕ
bit b = cond b 1 0

abbrev pub kind_of : Aim → ℕ
kind_of (nodes t) = 0
kind_of (cases k) = 1

abbrev pub number_of : Aim → ℕ
number_of (nodes t) = t
number_of (cases k) = k

unfoldable pub setting_of : Bool → Bool → Aim → Setting
setting_of keep as-is aim = record { direction = bit keep; kind = kind_of aim; as_is = bit as-is; target = words_of target_words (number_of aim) }

-- the oldest version that has it: who knows of no flag reads all that has none
unfoldable pub version_of : Bool → ℕ
version_of as-is = cond as-is 2 1
