-- What `differ` writes: the lines of an answer on standard output, all else on standard error. Texts are lists of bytes.
use Rattle.std.specs.Prelude.{Option, Some, None, ℕ, suc, ◌+◌, ◌*◌, Bool, false, cond, ◌||◌, List, [], ◌∷◌, ◌++◌, length, eqb}
use Rattle.naturals.specs.Natural.{value}
use Rattle.naturals.specs.declared.Natural.{Natural}
use Rattle.diagram.specs.Limits.{max_variables}
use Rattle.writing.specs.Writing.{bytes}
use Rattle.text.specs.Digits.{decimal_digits, hexadecimal_digits, decimal}
use Rattle.report.specs.Report.{feed}
use Rattle.messages.specs.Texts.{refusal_text, twice}

-- ---- the lines of an answer. A row is a valuation as bits, `0` or `1`, variable 0 first.

-- Behind a blank, where there is a bit.
unfoldable pub row_text : List ℕ → List ℕ
row_text [] = []
row_text (c ∷ t) = 32 ∷ c ∷ t

-- The signals that are on in a row whose first bit is that of variable i: ` x1 x2`.
unfoldable pub signal : ℕ → ℕ → List ℕ
signal i c = cond (eqb c 49) (bytes " x" ++ decimal i) []

unfoldable pub signals : ℕ → List ℕ → List ℕ
signals i [] = []
signals i (c ∷ t) = signal i c ++ signals (suc i) t

unfoldable pub any_on : List ℕ → Bool
any_on [] = false
any_on (c ∷ t) = eqb c 49 || any_on t

unfoldable pub list_on : List ℕ → List ℕ
list_on t = cond (any_on t) (signals 0 t) (bytes " none")

unfoldable pub on_text : List ℕ → List ℕ
on_text t = bytes "on" ++ list_on t ++ feed

-- `smallest difference 011` and `on x1 x2`, or `no difference`
unfoldable pub smallest_text : List ℕ → List ℕ
smallest_text t = bytes "smallest difference" ++ row_text t ++ feed ++ on_text t

-- The smallest valuation's number, where there is one.
abbrev pub shown_number : Option Natural → ℕ
shown_number (Some a) = value a.words
shown_number None = 0

unfoldable pub difference_text : Bool → List ℕ → List ℕ
difference_text differs t = cond differs (smallest_text t) (bytes "no difference\n")

-- `old only 3 (hex 3)`
abbrev pub count_line : List ℕ → ℕ → List ℕ
count_line label n = twice label n (bytes " (hex ") ++ feed

unfoldable pub counts_text : ℕ → ℕ → ℕ → ℕ → List ℕ
counts_text v first second both =
    bytes "vars " ++ decimal v ++ feed ++ count_line (bytes "old only ") first ++ count_line (bytes "new only ") second ++ count_line (bytes "both ") both

-- ---- what is said

abbrev pub help_text : List ℕ
help_text = bytes "differ OLD NEW         compares two block files, by their names\ndiffer nodes OLD NEW   compares two node files\nSays how many cases hold in the old condition only, in the new one only and in both, and shows the smallest case in which they differ: a bit for each signal, x0 first, and the signals that are on.\nTwo node files that reach more than 16384 pairs of nodes together are refused; two block files never do.\n"

abbrev pub unknown_text : List ℕ
unknown_text = bytes "differ: the words are the names of two files, with nodes before them where they are node files; differ alone prints its help\n"

-- `old.block: can't be opened`
unfoldable pub missing_text : List ℕ → List ℕ
missing_text name = name ++ bytes ": can't be opened\n"

-- `old.block: refused 22 at 0: a check sum is wrong`
unfoldable pub named_text : List ℕ → ℕ → ℕ → List ℕ
named_text name number place = name ++ bytes ": " ++ refusal_text number place

-- What a refusal of two diagrams is about: both for 31 and 32, else the one of them that `which` names.
abbrev pub of_both : ℕ → Bool
of_both number = eqb number 31 || eqb number 32

unfoldable pub blamed : List ℕ → List ℕ → ℕ → ℕ → List ℕ
blamed old new number which = cond (of_both number) (bytes "differ") (cond (eqb which 0) old new)

-- ---- how long these can be (proofs/Fitting.antt)

-- A name has as many bytes as a path may have, and one more. A signal has at most five digits.
abbrev pub name_buffer : ℕ
name_buffer = 4096

abbrev pub signal_bytes : ℕ
signal_bytes = length (bytes " x") + 5

-- The lines have their words, four decimal numbers and three hexadecimal ones, a row, and a signal for each variable.
abbrev pub lines_words : ℕ
lines_words = length (bytes "vars \nold only  (hex )\nnew only  (hex )\nboth  (hex )\nsmallest difference \non none\n")

abbrev pub lines_buffer : ℕ
lines_buffer = lines_words + 4 * decimal_digits + 3 * hexadecimal_digits + max_variables * (1 + signal_bytes)

-- The longest text is a refusal behind a name.
abbrev pub text_buffer : ℕ
text_buffer = name_buffer + 103 + 4 * decimal_digits
