-- The words of a request: which are taken, and what they mean. Words are lists of bytes.
use Rattle.std.specs.Prelude.{ℕ, ◌-◌, ◌<◌, ◌^◌, ◌≡◌, Bool, true, false, cond, not, ◌&&◌, ◌||◌, List, [], ◌∷◌, length, Option, Some, None, eqb}
use Rattle.naturals.specs.Natural.{value, limit}
use Rattle.naturals.specs.declared.Natural.{Natural}
use Rattle.writing.specs.Writing.{bytes}
use Rattle.text.specs.Digits.{decimal_digits, Reading, number, none, parsed}
use Rattle.forms.specs.declared.Form.{Form}
use Rattle.forms.specs.declared.Form.TheVariants.{Blocks, Nodes}
use Rattle.request.specs.declared.Amount.{Amount}
use Rattle.request.specs.declared.Amount.TheVariants.{Nodes as NodesLeft, Cases as CasesLeft}
use Rattle.request.specs.declared.Target.{Target}
use Rattle.request.specs.declared.Request.{Request}
use Rattle.request.specs.declared.Request.TheVariants.{Help, Unknown, Which, Cut}

-- Equal byte by byte (`Alike-same` and `same_Alike` of proofs/Alike.antt).
unfoldable pub alike : List ℕ → List ℕ → Bool
alike [] [] = true
alike [] (y ∷ ys) = false
alike (x ∷ xs) [] = false
alike (x ∷ xs) (y ∷ ys) = eqb x y && alike xs ys

-- What to cut to: a number of nodes, or a number of cases (of valuations for which the condition holds).
pub data Aim : Type 0 where
  nodes : ℕ → Aim
  cases : ℕ → Aim

-- What words mean: help; words that are not taken; `count`, which does not name its base; or a cut, `true` for keep, then `true`
-- where a diagram that meets the target already is to keep its words.
pub data Meaning : Type 0 where
  help : Meaning
  unknown : Meaning
  which : Meaning
  cut : Bool → Bool → Aim → Meaning

abbrev pub if_number : Bool → Bool → (ℕ → Aim) → Reading → Meaning
if_number keep as_is aim (number n) = cut keep as_is (aim n)
if_number keep as_is aim none = unknown

-- By the second word and the third: `size` and `cases` are decimal, `hex` is in lower-case hexadecimal.
unfoldable pub aimed : Bool → Bool → List ℕ → List ℕ → Meaning
aimed keep as_is kind text =
    cond (alike kind (bytes "size")) (if_number keep as_is nodes (parsed 10 (2 ^ 32) text))
    (cond (alike kind (bytes "cases")) (if_number keep as_is cases (parsed 10 limit text))
    (cond (alike kind (bytes "hex")) (if_number keep as_is cases (parsed 16 limit text))
    (cond (alike kind (bytes "count")) which
    unknown)))

-- By the first word.
unfoldable pub directed : Bool → List ℕ → List ℕ → List ℕ → Meaning
directed as_is direction kind text =
    cond (alike direction (bytes "keep")) (aimed true as_is kind text)
    (cond (alike direction (bytes "suppress")) (aimed false as_is kind text)
    unknown)

-- By how many words there are: three, or a fourth that says to keep the words of what meets the target already.
unfoldable pub request_of : ℕ → List ℕ → List ℕ → List ℕ → List ℕ → Meaning
request_of count direction kind text flag =
    cond (eqb count 0) help
    (cond (eqb count 3) (directed false direction kind text)
    (cond (not (eqb count 4)) unknown
    (cond (alike flag (bytes "as-is")) (directed true direction kind text)
    unknown)))

-- ---- the form of the file

-- `nodes` in front says a node file. The words behind it mean what they mean without it.
abbrev pub is_nodes : List ℕ → Bool
is_nodes first = alike first (bytes "nodes")

unfoldable pub form_of : List ℕ → Form
form_of first = cond (is_nodes first) Nodes Blocks

unfoldable pub words_of : ℕ → List ℕ → List ℕ → List ℕ → List ℕ → List ℕ → Meaning
words_of count first second third fourth fifth = cond (is_nodes first) (request_of (count - 1) second third fourth fifth) (request_of count first second third fourth)

-- the words of `weigh`: none, or `nodes`
unfoldable pub weighable : ℕ → List ℕ → Bool
weighable count first = eqb count 0 || (eqb count 1 && is_nodes first)

-- ---- how long a word may be

-- The bytes that the program lends for a word: the digits that the largest number of cases has in decimal.
abbrev pub word_buffer : ℕ
word_buffer = decimal_digits

-- A longer word means what an empty one means, which is what the program reads in its place (proofs/Long.antt).
pub record Buffered : Type 0 where
  pub first_long : (count : ℕ) (a b c d e : List ℕ) → word_buffer < length a → words_of count a b c d e ≡ words_of count [] b c d e
  pub second_long : (count : ℕ) (a b c d e : List ℕ) → word_buffer < length b → words_of count a b c d e ≡ words_of count a [] c d e
  pub third_long : (count : ℕ) (a b c d e : List ℕ) → word_buffer < length c → words_of count a b c d e ≡ words_of count a b [] d e
  pub fourth_long : (count : ℕ) (a b c d e : List ℕ) → word_buffer < length d → words_of count a b c d e ≡ words_of count a b c [] e
  pub fifth_long : (count : ℕ) (a b c d e : List ℕ) → word_buffer < length e → words_of count a b c d e ≡ words_of count a b c d []
  pub form_long : (first : List ℕ) → word_buffer < length first → form_of first ≡ form_of []
  pub weigh_long : (count : ℕ) (first : List ℕ) → word_buffer < length first → weighable count first ≡ weighable count []

-- ---- the same as the code has it

abbrev pub aim_at : Amount → Aim
aim_at (NodesLeft n) = nodes n
aim_at (CasesLeft a) = cases (value a.words)

abbrev pub aim_of : Target → Aim
aim_of t = aim_at t.amount

-- what is cut to, where there is a number
abbrev pub if_some : {A : Type 0} → Bool → Bool → (A → Aim) → Option A → Meaning
if_some keep as_is aim (Some x) = cut keep as_is (aim x)
if_some keep as_is aim None = unknown

abbrev pub counts : Natural → Aim
counts a = cases (value a.words)

abbrev pub meant : Request → Meaning
meant Help = help
meant Unknown = unknown
meant Which = which
meant (Cut t) = cut t.keep t.as_is (aim_of t)
