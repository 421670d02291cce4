-- What comparing two files answers. `s` and `t` are the bytes of the old file and of the new one where they could be read, `a` and `b` the
-- words of their nodes, `old` and `new` their names as they were given.
use Rattle.std.specs.Prelude.{Option, Some, None, Result, Ok, Err, is_some, ℕ, ◌*◌, ◌≤◌, ◌≡◌, Bool, true, false, cond, List, [], ◌∷◌, ◌++◌, take, eqb}
use Rattle.naturals.specs.Natural.{value}
use Rattle.diagram.specs.Limits.{max_words}
use Rattle.diagram.specs.Diagram.{vars}
use Rattle.diagram.specs.Verdict.{Outcome, accepted, refused as rejected, said as judged}
use Rattle.pairs.specs.Pairs.{pair_words}
use Rattle.comparison.specs.Comparison.{differ, first_only, second_only, in_both, any_differ, least, compare_of, which_of, Compared, verdict_told, which_told, Tells}
use Rattle.comparison.specs.declared.compare.Comparison.{Comparison}
use Rattle.blocks.specs.Block.{nodes as stored, refused as unread}
use Rattle.block_file.specs.File.{Reading, reading}
use Rattle.forms.specs.Form.{read_as}
use Rattle.forms.specs.declared.Form.{Form}
use Rattle.forms.specs.declared.Form.TheVariants.{Blocks, Nodes}
use Rattle.writing.specs.Writing.{Wrote}
use Rattle.text.specs.Digits.{spell}
use Rattle.report.specs.Report.{room_lent, blank}
use Rattle.request.specs.Request.{is_nodes}
use Rattle.messages.specs.Texts.{lent_pairs}
use Rattle.differ_texts.specs.Texts.{difference_text, counts_text, help_text, unknown_text, missing_text, named_text, blamed, shown_number}
use Rattle.differing.specs.declared.words.Asked.{Asked}
use Rattle.differing.specs.declared.words.Asked.TheVariants.{Help, Unknown, Compare}
use Rattle.diagram.specs.Refusal.{number_of}
use Rattle.differing.specs.declared.job.Unloaded.{Unloaded}
use Rattle.differing.specs.declared.job.Unloaded.TheVariants.{Missing, Refused}

-- ---- the words

-- None; two names; `nodes` and two names; and all else.
unfoldable pub asked_of : ℕ → List ℕ → Asked
asked_of count first =
    cond (eqb count 0) Help
    (cond (eqb count 2) (Compare Blocks)
    (cond (eqb count 3) (cond (is_nodes first) (Compare Nodes) Unknown)
    Unknown))

-- Whether files are looked at: only for a comparison.
abbrev pub looks : Asked → Bool
looks Help = false
looks Unknown = false
looks (Compare form) = true

-- Which of the words are the two names.
abbrev pub old_name : Form → List ℕ → List ℕ → List ℕ
old_name Blocks first second = first
old_name Nodes first second = second

abbrev pub new_name : Form → List ℕ → List ℕ → List ℕ
new_name Blocks second third = second
new_name Nodes second third = third

-- ---- a file

-- It can't be opened, it is refused, or the words of its nodes are these.
pub data File : Type 0 where
  missing : File
  refused : ℕ → ℕ → File
  holding : List ℕ → File

abbrev pub file_read : Reading → File
file_read (reading (stored n) left) = holding (take (3 * n) left)
file_read (reading (unread number place) left) = refused number place

unfoldable pub file_of : Form → Option (List ℕ) → File
file_of form None = missing
file_of form (Some s) = file_read (read_as form s blank)

-- ---- the answer: what is told of two diagrams is `Tells` of crates/comparison

-- A valuation as a row of bits, variable 0 first.
unfoldable pub row : List Bool → List ℕ
row [] = []
row (bit ∷ bs) = cond bit 49 48 ∷ row bs

unfoldable pub answer_text : List ℕ → List ℕ → List ℕ
answer_text a b =
    counts_text (vars a) (first_only a b) (second_only a b) (in_both a b) ++ difference_text (any_differ a b) (row (least (vars a) (differ a b)))

-- ---- what is done

-- A text for standard error, or lines for standard output.
pub data Done : Type 0 where
  told : List ℕ → Done
  shown : List ℕ → Done

-- The words of the table that is lent.
abbrev pub table_lent : ℕ
table_lent = pair_words * lent_pairs

abbrev pub if_compared : List ℕ → List ℕ → List ℕ → List ℕ → Outcome → Done
if_compared old new a b (accepted n v) = shown (answer_text a b)
if_compared old new a b (rejected number place) = told (named_text (blamed old new number (which_of a b room_lent)) number place)

unfoldable pub words_done : List ℕ → List ℕ → List ℕ → List ℕ → Done
words_done old new a b = if_compared old new a b (compare_of a b room_lent table_lent)

-- What is wrong with the old file comes first, then what is wrong with the new one.
abbrev pub if_new : List ℕ → List ℕ → List ℕ → File → Done
if_new old new a missing = told (missing_text new)
if_new old new a (refused number place) = told (named_text new number place)
if_new old new a (holding b) = words_done old new a b

abbrev pub if_old : List ℕ → List ℕ → File → File → Done
if_old old new missing f = told (missing_text old)
if_old old new (refused number place) f = told (named_text old number place)
if_old old new (holding a) f = if_new old new a f

unfoldable pub files_done : Form → List ℕ → List ℕ → Option (List ℕ) → Option (List ℕ) → Done
files_done form old new s t = if_old old new (file_of form s) (file_of form t)

-- By what the words ask for.
unfoldable pub done : Asked → List ℕ → List ℕ → List ℕ → Option (List ℕ) → Option (List ℕ) → Done
done Help first second third s t = told help_text
done Unknown first second third s t = told unknown_text
done (Compare form) first second third s t = files_done form (old_name form first second) (new_name form second third) s t

-- ---- what is written of it

abbrev pub line_bytes : Done → List ℕ
line_bytes (told x) = []
line_bytes (shown x) = x

abbrev pub text_bytes : Done → List ℕ
text_bytes (told x) = x
text_bytes (shown x) = []

-- What is written into both buffers from their front on, and where each ends.
pub record Differs (d : Done) (lines lines_left text text-left : List ℕ) (lines_end text-end : ℕ) : Type 0 where
  pub printed : Wrote (line_bytes d) lines 0 lines_left lines_end
  pub said : Wrote (text_bytes d) text 0 text-left text-end

-- ---- for the code inside

-- What loading a file says, with the words that it leaves.
abbrev pub loads : Result ℕ Unloaded → List ℕ → File
loads (Err Missing) left = missing
loads (Err (Refused e)) left = refused (number_of e.reason) e.place
loads (Ok n) left = holding (take (3 * n) left)

-- What is said of a file that gives none.
abbrev pub unloaded_text : List ℕ → Unloaded → List ℕ
unloaded_text name Missing = missing_text name
unloaded_text name (Refused e) = named_text name (number_of e.reason) e.place

pub record Loads (form : Form) (s : Option (List ℕ)) (left : List ℕ) (r : Result ℕ Unloaded) : Type 0 where
  pub is : loads r left ≡ file_of form s
  pub few : (n : ℕ) → r ≡ Ok n → 3 * n ≤ max_words

-- The lines of what is told of two arrays.
abbrev pub compared_text : Comparison → ℕ → List ℕ
compared_text r v =
    counts_text v (value r.first.words) (value r.second.words) (value r.both.words) ++ difference_text (is_some r.smallest) (spell 2 (shown_number r.smallest) v)

-- What comparing two arrays says with the room and the table that are lent.
pub record Says (a b : List ℕ) (r : Compared) : Type 0 where
  pub verdict : judged (verdict_told r) ≡ compare_of a b room_lent table_lent
  pub which : which_told r ≡ which_of a b room_lent
  pub tells : Tells a b (compare_of a b room_lent table_lent) r
