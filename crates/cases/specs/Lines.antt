-- Lines of decimal numbers, one byte between two of them, as the test programs read them; and runs of equal words.
use Rattle.std.specs.Prelude.{ℕ, zero, suc, ◌+◌, ◌-◌, ◌*◌, ◌%◌, ◌≡◌, Bool, cond, ◌&&◌, ◌||◌, List, [], ◌∷◌, ◌++◌, length, get_or, drop, leb, ltb, eqb}

unfoldable pub is_digit : ℕ → Bool
is_digit byte = leb 48 byte && leb byte 57

-- A value with one digit more: its last 32 bits.
unfoldable pub with_digit : ℕ → ℕ → ℕ
with_digit value digit = (value * 10 + digit) % 4294967296

-- The digits at the front of some bytes, after a value.
unfoldable pub number_in : List ℕ → ℕ → ℕ
number_in [] value = value
number_in (byte ∷ bytes) value = cond (is_digit byte) (number_in bytes (with_digit value (byte % 16))) value

-- The bytes that these are, and the one after them.
unfoldable pub span_of : List ℕ → ℕ
span_of [] = 0
span_of (byte ∷ bytes) = cond (is_digit byte) (suc (span_of bytes)) 1

abbrev pub number_at : List ℕ → ℕ → ℕ
number_at text at = number_in (drop at text) 0

abbrev pub after : List ℕ → ℕ → ℕ
after text at = at + span_of (drop at text)

-- A line ends right before a place.
unfoldable pub line_ends : List ℕ → ℕ → Bool
line_ends text at = eqb at 0 || (ltb (length text) at || eqb (get_or text (at - 1) 0) 10)

-- The numbers from a place to the line's end, at most k of them, and where the next line begins.
unfoldable pub numbers_in : ℕ → List ℕ → ℕ → List ℕ
numbers_in zero text at = []
numbers_in (suc k) text at =
    cond (ltb at (length text)) (number_at text at ∷ cond (line_ends text (after text at)) [] (numbers_in k text (after text at))) []

unfoldable pub end_of : ℕ → List ℕ → ℕ → ℕ
end_of zero text at = at
end_of (suc k) text at = cond (ltb at (length text)) (cond (line_ends text (after text at)) (after text at) (end_of k text (after text at))) at

-- The numbers of a line stand at the front of the words; the words beyond them are as they were.
pub record Reads (text : List ℕ) (from : ℕ) (lent made : List ℕ) (k to : ℕ) : Type 0 where
  pub words : made ≡ numbers_in (length lent) text from ++ drop k lent
  pub count : k ≡ length (numbers_in (length lent) text from)
  pub next : to ≡ end_of (length lent) text from

-- How many words at the front equal x.
unfoldable pub run_of : List ℕ → ℕ → ℕ
run_of [] x = 0
run_of (y ∷ ys) x = cond (eqb y x) (suc (run_of ys x)) 0
